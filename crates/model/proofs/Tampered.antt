-- A recording that was tampered with: blocks left out, doubled or in each other's place, bytes cut off, one byte altered. It is refused at the
-- first place that differs, but for one cut that nothing can tell: between two blocks. Cited by the crate recorder. Assumes nothing.
use mathlib.Core.Path.{◌≡◌, refl, sym, ap, ap₂, ◌∙◌, subst}
use mathlib.Core.Logic.{◌≢◌}
use mathlib.Core.List.{List, [], ◌∷◌, ◌++◌, append_assoc}
use Prim.Native.Nat.{ℕ, zero, suc, ◌+◌, ◌-◌, ◌*◌, ◌/◌, ◌%◌, ◌≤◌, ◌<◌}
use native.Mathlib.Nat.{add-zero, zero-add, suc-add}
use native.Mathlib.Omega.{arith}
use lib.Dec.{T}
use lib.ListN.{length, get_or, take, drop, set, length-append, length-take, length-drop, length-set}
use lib.Seq.{take-nil, drop-drop, take_at, drop_at, take-take, get_or_at, get_or-drop, length-take-le, take-set-lt, take-set-le}
use lib.Seq.{drop-set-lt, drop-set-add, get_or-take}
use Rattle.model.proofs.Blocks.{Good, short-refused, altered_refused}
use Rattle.model.proofs.Recordings.{blocks-count, in_place, displaced, AllLong, blocks_long, joined_length, pieces-joined}
use Rattle.model.specs.Recorder.{block_length, number_limit, AllBytes, blocks_for, recording, joined, BlockRead, wrong_check, wrong_number}
use Rattle.model.specs.Recorder.{read_block, pieces_from, pieces, answers, RefusedAt, whole_records}

-- ---- answers of a part

pub answers-take : (j n : ℕ) (ps : List (List ℕ)) → take j (answers n ps) ≡ answers n (take j ps)
answers-take zero n ps = refl
answers-take (suc j) n [] = refl
answers-take (suc j) n (p ∷ ps) = ap (λ l. read_block n p ∷ l) (answers-take j (suc n) ps)

answers-drop : (j n : ℕ) (ps : List (List ℕ)) → drop j (answers n ps) ≡ answers (n + j) (drop j ps)
answers-drop zero n ps = ap (λ m. answers m ps) (sym (add-zero n))
answers-drop (suc j) n [] = refl
answers-drop (suc j) n (p ∷ ps) = answers-drop j (suc n) ps ∙ ap (λ m. answers m (drop j ps)) (omega arith)

-- Pieces that are alike up to place j, where another one stands that is refused there.
refused-at : (j n : ℕ) (why : BlockRead) (whole ps : List (List ℕ)) (p : List ℕ) (rest : List (List ℕ))
    → take j ps ≡ take j whole → drop j ps ≡ p ∷ rest → read_block (n + j) p ≡ why → RefusedAt j why n whole ps
refused-at j n why whole ps p rest same here e = record {
  before = answers-take j n ps ∙ ap (answers n) same ∙ sym (answers-take j n whole);
  there = ap (take 1) (answers-drop j n ps ∙ ap (answers (n + j)) here) ∙ ap (λ a. a ∷ []) e;
}

-- ---- pieces of a part

pub drop-take : (m k : ℕ) (s : List ℕ) → drop m (take (m + k) s) ≡ take k (drop m s)
drop-take zero k s = ap (λ i. take i s) (zero-add k)
drop-take (suc m) k [] = ap (drop (suc m)) (take-nil (suc m + k)) ∙ sym (take-nil k)
drop-take (suc m) k (x ∷ s) = rw (suc-add m k) (drop-take m k s)

pieces-take : (j k : ℕ) (s : List ℕ) → j ≤ k → take j (pieces_from k s) ≡ pieces_from j s
pieces-take zero k s h = refl
pieces-take (suc j) zero s h = absurd (omega arith)
pieces-take (suc j) (suc k) s h = ap (λ ps. take block_length s ∷ ps) (pieces-take j k (drop block_length s) (omega arith))

pieces-drop : (j k : ℕ) (s : List ℕ) → drop j (pieces_from (j + k) s) ≡ pieces_from k (drop (block_length * j) s)
pieces-drop zero k s = ap (λ i. pieces_from i s) (zero-add k)
pieces-drop (suc j) k s =
    let z : block_length + block_length * j ≡ block_length * suc j = omega arith in
    rw (suc-add j k) (pieces-drop j k (drop block_length s) ∙ ap (pieces_from k) (drop-drop (block_length * j) block_length s ∙ ap (λ i. drop i s) z))

-- Pieces before a cut are as they were.
pieces-cut : (j c : ℕ) (s : List ℕ) → block_length * j ≤ c → pieces_from j (take c s) ≡ pieces_from j s
pieces-cut zero c s h = refl
pieces-cut (suc j) c s h =
    let d = c - block_length in
    let z : block_length + d ≡ c = omega arith in
    ap₂ {C = List (List ℕ)} (λ p ps. p ∷ ps) (take-take block_length c s (omega arith))
    (ap (pieces_from j) (ap (λ i. drop block_length (take i s)) (sym z) ∙ drop-take block_length d s) ∙ pieces-cut j d (drop block_length s) (omega arith))

-- ---- lists of blocks

long_append : (xs ys : List (List ℕ)) → AllLong xs → AllLong ys → AllLong (xs ++ ys)
long_append [] ys h g = g
long_append (x ∷ xs) ys h g = (h.0, long_append xs ys h.1 g)

long_left : (xs ys : List (List ℕ)) → AllLong (xs ++ ys) → AllLong xs
long_left [] ys h = tt
long_left (x ∷ xs) ys h = (h.0, long_left xs ys h.1)

long_right : (xs ys : List (List ℕ)) → AllLong (xs ++ ys) → AllLong ys
long_right [] ys h = h
long_right (x ∷ xs) ys h = long_right xs ys h.1

-- ---- blocks left out, doubled, or in each other's place

module _ (n : ℕ) (es : List ℕ) (fit : n + blocks_for (length es) ≤ number_limit) (bytes : AllBytes es) (whole : T (whole_records es)) where
  abbrev all : List (List ℕ)
  all = recording n es

  count : length all ≡ blocks_for (length es)
  count = blocks-count (blocks_for (length es)) n es

  -- A block of the recording at any place but its own.
  misplaced : (xs : List (List ℕ)) (b : List ℕ) (ys : List (List ℕ)) (m : ℕ) → all ≡ xs ++ b ∷ ys → m ≢ n + length xs → read_block m b ≡ wrong_number
  misplaced xs b ys m e other =
      let k : length xs < blocks_for (length es) = omega (arith, count, ap length e, length-append xs (b ∷ ys)) in
      let here : get_or all (length xs) [] ≡ b = ap (λ l. get_or l (length xs) []) e ∙ get_or_at xs b ys [] (length xs) refl in
      ap (read_block m) (sym here) ∙ displaced n es fit bytes whole (length xs) m k other

  all_long : AllLong all
  all_long = blocks_long (blocks_for (length es)) n es

  -- Blocks that are those of the recording up to one that stands elsewhere in it.
  first_other : (ps xs : List (List ℕ)) (p : List ℕ) (rest more : List (List ℕ)) → AllLong ps → ps ≡ xs ++ p ∷ rest → all ≡ xs ++ more
      → read_block (n + length xs) p ≡ wrong_number → RefusedAt (length xs) wrong_number n all (pieces (joined ps))
  first_other ps xs p rest more long e f here =
      let j = length xs in
      let cut = pieces-joined ps long ∙ e in
      refused-at j n wrong_number all (pieces (joined ps)) p rest
      (ap (take j) cut ∙ take_at xs (p ∷ rest) j refl ∙ sym (ap (take j) f ∙ take_at xs more j refl))
      (ap (drop j) cut ∙ drop_at xs (p ∷ rest) j refl)
      here

  -- A block that is left out, unless it is the last: the next one stands in its place.
  pub left_out : (xs : List (List ℕ)) (b c : List ℕ) (ys : List (List ℕ)) → all ≡ xs ++ b ∷ c ∷ ys
      → RefusedAt (length xs) wrong_number n all (pieces (joined (xs ++ c ∷ ys)))
  left_out xs b c ys e =
      let split : all ≡ (xs ++ b ∷ []) ++ c ∷ ys = e ∙ sym (append_assoc xs (b ∷ []) (c ∷ ys)) in
      let long = subst AllLong e all_long in
      first_other (xs ++ c ∷ ys) xs c ys (b ∷ c ∷ ys) (long_append xs (c ∷ ys) (long_left xs _ long) (long_right xs _ long).1) refl e
      (misplaced (xs ++ b ∷ []) c ys (n + length xs) split (λ q. omega (arith, length-append xs (b ∷ []))))

  -- A block that stands twice: the second one is refused.
  pub doubled : (xs : List (List ℕ)) (b : List ℕ) (ys : List (List ℕ)) → all ≡ xs ++ b ∷ ys
      → RefusedAt (suc (length xs)) wrong_number n all (pieces (joined (xs ++ b ∷ b ∷ ys)))
  doubled xs b ys e =
      let front = xs ++ b ∷ [] in
      let l : length front ≡ suc (length xs) = omega (arith, length-append xs (b ∷ [])) in
      let long = subst AllLong e all_long in
      let right = long_right xs _ long in
      subst (λ j. RefusedAt j wrong_number n all (pieces (joined (xs ++ b ∷ b ∷ ys)))) l
      (first_other (xs ++ b ∷ b ∷ ys) front b ys ys (long_append xs (b ∷ b ∷ ys) (long_left xs _ long) (right.0, right))
      (sym (append_assoc xs (b ∷ []) (b ∷ ys))) (e ∙ sym (append_assoc xs (b ∷ []) ys))
      (misplaced xs b ys (n + length front) e (λ q. omega arith)))

  -- Two blocks in each other's place: the earlier place is refused.
  pub exchanged : (xs : List (List ℕ)) (b : List ℕ) (ys : List (List ℕ)) (c : List ℕ) (zs : List (List ℕ)) → all ≡ xs ++ b ∷ (ys ++ c ∷ zs)
      → RefusedAt (length xs) wrong_number n all (pieces (joined (xs ++ c ∷ (ys ++ b ∷ zs))))
  exchanged xs b ys c zs e =
      let split : all ≡ (xs ++ b ∷ ys) ++ c ∷ zs = e ∙ sym (append_assoc xs (b ∷ ys) (c ∷ zs)) in
      let long = subst AllLong e all_long in
      let right = long_right xs _ long in
      let later = long_right ys _ right.1 in
      let behind = long_append ys (b ∷ zs) (long_left ys _ right.1) (right.0, later.1) in
      let swapped = long_append xs (c ∷ (ys ++ b ∷ zs)) (long_left xs _ long) (later.0, behind) in
      first_other (xs ++ c ∷ (ys ++ b ∷ zs)) xs c (ys ++ b ∷ zs) (b ∷ (ys ++ c ∷ zs)) swapped refl e
      (misplaced (xs ++ b ∷ ys) c zs (n + length xs) split (λ q. omega (arith, length-append xs (b ∷ ys))))

  -- ---- bytes cut off

  abbrev bytes_of_all : List ℕ
  bytes_of_all = joined all

  -- A cut inside a block: those before it are as they were, and it is short.
  pub cut_inside : (c : ℕ) → c < length bytes_of_all → c % block_length ≢ 0 → RefusedAt (c / block_length) wrong_check n all (pieces (take c bytes_of_all))
  cut_inside c h r =
      let s = bytes_of_all in
      let j = c / block_length in
      let l : length (take c s) ≡ c = length-take-le c s (omega arith) in
      let k : (length (take c s) + (block_length - 1)) / block_length ≡ j + 1 = omega arith in
      let m : j ≤ (length s + (block_length - 1)) / block_length = omega arith in
      let p = drop (block_length * j) (take c s) in
      let short : length (take block_length p) ≢ block_length =
      λ q. omega (arith, length-take block_length p, length-drop (block_length * j) (take c s)) in
      refused-at j n wrong_check all (pieces (take c s)) (take block_length p) []
      (ap (λ i. take j (pieces_from i (take c s))) k ∙ pieces-take j (j + 1) (take c s) (omega arith) ∙ pieces-cut j c s (omega arith)
      ∙ sym (ap (take j) (sym (pieces-joined all all_long)) ∙ pieces-take j _ s m))
      (ap (λ i. drop j (pieces_from i (take c s))) k ∙ pieces-drop j 1 (take c s))
      (short-refused (n + j) (take block_length p) short)

  -- A cut between two blocks leaves the recording of the blocks before it, of which each is good: nothing tells that more was there.
  pub cut-between : (j : ℕ) → j ≤ length all → pieces (take (block_length * j) bytes_of_all) ≡ take j all
  cut-between j h =
      let s = bytes_of_all in
      let n = joined_length all all_long in
      let c = block_length * j in
      let l : length (take c s) ≡ c = length-take-le c s (omega arith) in
      let k : (length (take c s) + (block_length - 1)) / block_length ≡ j = omega arith in
      let m : j ≤ (length s + (block_length - 1)) / block_length = omega arith in
      ap (λ i. pieces_from i (take c s)) k ∙ pieces-cut j c s (omega arith) ∙ sym (ap (take j) (sym (pieces-joined all all_long)) ∙ pieces-take j _ s m)

-- ---- one byte altered

-- Byte r of piece j is altered: piece j is, at its place r, and no other.
pieces_altered : (j k : ℕ) (s : List ℕ) (r v : ℕ) → r < block_length → j < k
    → pieces_from k (set s (block_length * j + r) v) ≡ set (pieces_from k s) j (set (get_or (pieces_from k s) j []) r v)
pieces_altered j zero s r v h g = absurd (omega arith)
pieces_altered zero (suc k) s r v h g =
    let z : block_length * 0 + r ≡ r = omega arith in
    rw z (ap₂ {C = List (List ℕ)} (λ p t. p ∷ pieces_from k t) (take-set-lt block_length s r v h) (drop-set-lt block_length s r v h))
pieces_altered (suc j) (suc k) s r v h g =
    let i = block_length * j + r in
    let z : block_length * suc j + r ≡ block_length + i = omega arith in
    rw z
    (ap₂ {C = List (List ℕ)} (λ p ps. p ∷ ps) (take-set-le block_length s (block_length + i) v (omega arith))
    (ap (pieces_from k) (drop-set-add block_length s i v) ∙ pieces_altered j k (drop block_length s) r v h (omega arith)))

answers_set : (j n : ℕ) (ps : List (List ℕ)) (p : List ℕ) → answers n (set ps j p) ≡ set (answers n ps) j (read_block (n + j) p)
answers_set j n [] p = refl
answers_set zero n (q ∷ ps) p = ap (λ m. read_block m p ∷ answers (suc n) ps) (sym (add-zero n))
answers_set (suc j) n (q ∷ ps) p =
    ap (λ l. read_block n q ∷ l) (answers_set j (suc n) ps p ∙ ap (λ m. set (answers (suc n) ps) j (read_block m p)) (omega arith))

piece-at : (k : ℕ) (s : List ℕ) (j : ℕ) → j < k → get_or (pieces_from k s) j [] ≡ take block_length (drop (block_length * j) s)
piece-at zero s j h = absurd (omega arith)
piece-at (suc k) s zero h = refl
piece-at (suc k) s (suc j) h =
    let z : block_length + block_length * j ≡ block_length * suc j = omega arith in
    piece-at k (drop block_length s) j (omega arith) ∙ ap (take block_length) (drop-drop (block_length * j) block_length s ∙ ap (λ i. drop i s) z)

-- The pieces of bytes of which one is altered.
pub pieces-set : (s : List ℕ) (i v : ℕ) → i < length s
    → (let j = i / block_length in pieces (set s i v) ≡ set (pieces s) j (set (get_or (pieces s) j []) (i % block_length) v))
pieces-set s i v h =
    let j = i / block_length in
    let r = i % block_length in
    let k = (length s + (block_length - 1)) / block_length in
    let z : block_length * j + r ≡ i = omega arith in
    ap (λ m. pieces_from ((m + (block_length - 1)) / block_length) (set s i v)) (length-set s i v)
    ∙ ap (λ m. pieces_from k (set s m v)) (sym z)
    ∙ pieces_altered j k s r v (omega arith) (omega arith)

-- Of any bytes: where the piece of a byte was good, and that byte is altered, that piece is refused and every other is answered as before.
pub altered_once : (n : ℕ) (s : List ℕ) (i v : ℕ) → i < length s → v ≢ get_or s i 0
    → Good (n + i / block_length) (get_or (pieces s) (i / block_length) [])
    → answers n (pieces (set s i v)) ≡ set (answers n (pieces s)) (i / block_length) wrong_check
altered_once n s i v h d g =
    let j = i / block_length in
    let r = i % block_length in
    let k = (length s + (block_length - 1)) / block_length in
    let z : block_length * j + r ≡ i = omega arith in
    let below : j < k = omega arith in
    let p = get_or (pieces s) j [] in
    let at : get_or p r 0 ≡ get_or s i 0 =
    ap (λ q. get_or q r 0) (piece-at k s j below) ∙ get_or-take block_length (drop (block_length * j) s) r 0 (omega arith)
    ∙ get_or-drop (block_length * j) s r 0 ∙ ap (λ m. get_or s m 0) z in
    ap (answers n) (pieces-set s i v h)
    ∙ answers_set j n (pieces s) (set p r v)
    ∙ ap (set (answers n (pieces s)) j) (altered_refused (n + j) (n + j) p r v g (omega arith) (λ e. d (e ∙ at)))

-- So it is of a recording.
pub altered_recording : (n : ℕ) (es : List ℕ) → n + blocks_for (length es) ≤ number_limit → AllBytes es → T (whole_records es)
    → (i v : ℕ) → i < length (joined (recording n es)) → v ≢ get_or (joined (recording n es)) i 0
    → answers n (pieces (set (joined (recording n es)) i v)) ≡ set (answers n (recording n es)) (i / block_length) wrong_check
altered_recording n es fit bytes whole i v h d =
    let bs = recording n es in
    let long = blocks_long (blocks_for (length es)) n es in
    let count = blocks-count (blocks_for (length es)) n es in
    let cut = pieces-joined bs long in
    let j = i / block_length in
    let good = in_place n es fit bytes whole j (omega (arith, joined_length bs long)) in
    altered_once n (joined bs) i v h d (subst (λ ps. Good (n + j) (get_or ps j [])) (sym cut) good)
    ∙ ap (λ ps. set (answers n ps) j wrong_check) cut
