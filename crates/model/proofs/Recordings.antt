-- A whole recording: its blocks by their places, that it may be laid in parts, and that reading it back gives the same events, of any number.
-- Cited by Tampered and by the crate recorder. Assumes nothing.
use mathlib.Core.Path.{◌≡◌, refl, sym, ap, ap₂, ◌∙◌, subst}
use mathlib.Core.Logic.{◌≢◌}
use mathlib.Core.List.{List, [], ◌∷◌, ◌++◌, append_assoc}
use Prim.Native.Nat.{ℕ, zero, suc, ◌+◌, ◌-◌, ◌*◌, ◌/◌, ◌%◌, ◌≤◌, ◌<◌}
use native.Mathlib.Nat.{add-zero, suc-add}
use native.Mathlib.Omega.{arith}
use lib.Dec.{T, eqb→eq}
use lib.ListN.{length, get_or, take, drop, length-append, length-take, length-drop, take-append-drop}
use lib.Seq.{take_at, drop_at, drop-drop, get_or-drop, take-append-le, drop-append-le}
use borrow.Author.Tests.{eq-eqb}
use Rattle.model.proofs.Bools.{holds}
use Rattle.model.proofs.Bytes.{AllCarried, bytes-length, decoded}
use Rattle.model.proofs.Weights.{bytes_take}
use Rattle.model.proofs.Blocks.{Good, bytes_append, bytes_low, block-length, written-good, written_read, written-said, written_elsewhere}
use Rattle.model.specs.Events.{Event}
use Rattle.model.specs.Records.{bits_of, low_bytes, record_bytes, event_bytes, bytes_of, events_of}
use Rattle.model.specs.Recorder.{block_length, header_length, most_in_block, full_run, number_limit, AllBytes, block_of, blocks_for, blocks_from}
use Rattle.model.specs.Recorder.{recording, joined, events_at, wrong_number, read_number, read_block}
use Rattle.model.specs.Recorder.{pieces_from, pieces, answers, NoneRefused, read_back, whole_records}

-- ---- runs of events, cut at 62

pub bytes_drop : (n : ℕ) (xs : List ℕ) → AllBytes xs → AllBytes (drop n xs)
bytes_drop n xs h i = subst (λ b. b < 256) (sym (get_or-drop n xs i 0)) (h (n + i))

pub whole_is : (es : List ℕ) → T (whole_records es) → length es % 8 ≡ 0
whole_is es w = eqb→eq (length es % 8) 0 w

pub is_whole : (es : List ℕ) → length es % 8 ≡ 0 → T (whole_records es)
is_whole es e = holds (whole_records es) (eq-eqb (length es % 8) 0 e)

whole_take : (es : List ℕ) → T (whole_records es) → T (whole_records (take full_run es))
whole_take es w = is_whole (take full_run es) (omega (arith, length-take full_run es, whole_is es w))

whole_drop : (es : List ℕ) (j : ℕ) → T (whole_records es) → T (whole_records (drop (full_run * j) es))
whole_drop es j w = is_whole (drop (full_run * j) es) (omega (arith, length-drop (full_run * j) es, whole_is es w))

-- ---- blocks by their places

pub blocks-count : (k n : ℕ) (es : List ℕ) → length (blocks_from k n es) ≡ k
blocks-count zero n es = refl
blocks-count (suc k) n es = ap suc (blocks-count k (suc n) (drop full_run es))

-- The events of block j.
abbrev pub run_at : List ℕ → ℕ → List ℕ
run_at es j = take full_run (drop (full_run * j) es)

-- Block j has number n + j and its own 62 events.
pub block_at : (k n : ℕ) (es : List ℕ) (j : ℕ) → j < k → get_or (blocks_from k n es) j [] ≡ block_of (n + j) (run_at es j)
block_at zero n es j h = absurd (omega arith)
block_at (suc k) n es zero h = rw (add-zero n)
block_at (suc k) n es (suc j) h =
    let z : full_run + full_run * j ≡ full_run * suc j = omega arith in
    let m : suc n + j ≡ n + suc j = omega arith in
    block_at k (suc n) (drop full_run es) j (omega arith)
    ∙ ap₂ (λ number run. block_of number (take full_run run)) m (drop-drop (full_run * j) full_run es ∙ ap (λ i. drop i es) z)

run_short : (es : List ℕ) (j : ℕ) → length (run_at es j) ≤ full_run
run_short es j = omega (arith, length-take full_run (drop (full_run * j) es))

run-bytes : (es : List ℕ) (j : ℕ) → AllBytes es → AllBytes (run_at es j)
run-bytes es j bytes = bytes_take full_run (drop (full_run * j) es) (bytes_drop (full_run * j) es bytes)

-- Blocks of bytes that are whole records, none numbered past the last number.
module _ (n : ℕ) (es : List ℕ) (fit : n + blocks_for (length es) ≤ number_limit) (bytes : AllBytes es) (whole : T (whole_records es)) where
  abbrev blocks : ℕ
  blocks = blocks_for (length es)

  below : (j : ℕ) → j < blocks → n + j < number_limit
  below j h = omega arith

  pub block-is : (j : ℕ) → j < blocks → get_or (recording n es) j [] ≡ block_of (n + j) (run_at es j)
  block-is j h = block_at blocks n es j h

  -- At its own place a block is good, and at no other.
  pub in_place : (j : ℕ) → j < blocks → Good (n + j) (get_or (recording n es) j [])
  in_place j h =
      subst (Good (n + j)) (sym (block-is j h))
      (written-good (n + j) (run_at es j) (run_short es j) (below j h) (run-bytes es j bytes) (whole_take (drop (full_run * j) es) (whole_drop es j whole)))

  pub answered_in_place : (j : ℕ) → j < blocks → read_block (n + j) (get_or (recording n es) j []) ≡ events_at header_length (length (run_at es j) / 8)
  answered_in_place j h =
      ap (read_block (n + j)) (block-is j h)
      ∙ written_read (n + j) (run_at es j) (run_short es j) (below j h) (run-bytes es j bytes) (whole_take (drop (full_run * j) es) (whole_drop es j whole))

  pub displaced : (j m : ℕ) → j < blocks → m ≢ n + j → read_block m (get_or (recording n es) j []) ≡ wrong_number
  displaced j m h other =
      ap (read_block m) (block-is j h) ∙ written_elsewhere (n + j) (run_at es j) (run_short es j) m (below j h) (run-bytes es j bytes) other

  -- Every block but the last holds 62 events, and the last at least one.
  pub full_but_last : (j : ℕ) → suc j < blocks → read_block (n + j) (get_or (recording n es) j []) ≡ events_at header_length most_in_block
  full_but_last j h =
      let d = drop (full_run * j) es in
      let k : length (run_at es j) / 8 ≡ most_in_block = omega (arith, length-take full_run d, length-drop (full_run * j) es) in
      answered_in_place j (omega arith) ∙ ap (events_at header_length) k

  pub last-holds : (j : ℕ) → suc j ≡ blocks → (1 ≤ length (run_at es j) / 8) × (length (run_at es j) / 8 ≤ most_in_block)
  last-holds j h =
      let d = drop (full_run * j) es in
      let w = whole_is es whole in
      (omega (arith, length-take full_run d, length-drop (full_run * j) es), omega (arith, run_short es j))

-- ---- cut into pieces

-- Each of the blocks has 512 bytes.
abbrev pub AllLong : List (List ℕ) → Type 0
AllLong [] = Unit {0}
AllLong (b ∷ bs) = (length b ≡ block_length) × AllLong bs

pub blocks_long : (k n : ℕ) (es : List ℕ) → AllLong (blocks_from k n es)
blocks_long zero n es = tt
blocks_long (suc k) n es = (block-length n (take full_run es) (omega (arith, length-take full_run es)), blocks_long k (suc n) (drop full_run es))

pub joined_length : (bs : List (List ℕ)) → AllLong bs → length (joined bs) ≡ block_length * length bs
joined_length [] h = refl
joined_length (b ∷ bs) h = omega (arith, length-append b (joined bs), h.0, joined_length bs h.1)

pub joined_append : (xs ys : List (List ℕ)) → joined (xs ++ ys) ≡ joined xs ++ joined ys
joined_append [] ys = refl
joined_append (x ∷ xs) ys = ap (λ l. x ++ l) (joined_append xs ys) ∙ sym (append_assoc x (joined xs) (joined ys))

joined-pieces : (bs : List (List ℕ)) → AllLong bs → pieces_from (length bs) (joined bs) ≡ bs
joined-pieces [] h = refl
joined-pieces (b ∷ bs) h =
    ap₂ {C = List (List ℕ)} (λ p ps. p ∷ ps) (take_at b (joined bs) block_length h.0)
    (ap (pieces_from (length bs)) (drop_at b (joined bs) block_length h.0) ∙ joined-pieces bs h.1)

-- Blocks one after the other are cut into these blocks.
pub pieces-joined : (bs : List (List ℕ)) → AllLong bs → pieces (joined bs) ≡ bs
pieces-joined bs h =
    let n : (length (joined bs) + (block_length - 1)) / block_length ≡ length bs = omega (arith, joined_length bs h) in
    ap (λ k. pieces_from k (joined bs)) n ∙ joined-pieces bs h

-- ---- read back

-- As many blocks as hold all events give them back.
blocks_back : (k n : ℕ) (es : List ℕ) → n + k ≤ number_limit → AllBytes es → T (whole_records es) → length es ≤ full_run * k
    → read_back n (blocks_from k n es) ≡ es
blocks_back zero n [] fit bytes whole few = refl
blocks_back zero n (e ∷ es) fit bytes whole few = absurd (omega arith)
blocks_back (suc k) n es fit bytes whole few =
    let run = take full_run es in
    let rest = drop full_run es in
    let first = written-said n run (omega (arith, length-take full_run es)) (omega arith) (bytes_take full_run es bytes) (whole_take es whole) in
    let later =
    blocks_back k (suc n) rest (omega arith) (bytes_drop full_run es bytes) (is_whole rest (omega (arith, length-drop full_run es, whole_is es whole)))
    (omega (arith, length-drop full_run es)) in
    ap₂ (λ x y. x ++ y) first later ∙ take-append-drop full_run es

blocks-answered : (k n : ℕ) (es : List ℕ) → n + k ≤ number_limit → AllBytes es → T (whole_records es) → NoneRefused (answers n (blocks_from k n es))
blocks-answered zero n es fit bytes whole = tt
blocks-answered (suc k) n es fit bytes whole =
    let run = take full_run es in
    let rest = drop full_run es in (
      ap read_number (written_read n run (omega (arith, length-take full_run es)) (omega arith) (bytes_take full_run es bytes) (whole_take es whole)),
      blocks-answered k (suc n) rest (omega arith) (bytes_drop full_run es bytes) (is_whole rest (omega (arith, length-drop full_run es, whole_is es whole))),
    )

-- No piece of a recording's bytes is refused.
pub none-refused : (n : ℕ) (es : List ℕ) → n + blocks_for (length es) ≤ number_limit → AllBytes es → T (whole_records es)
    → NoneRefused (answers n (pieces (joined (recording n es))))
none-refused n es fit bytes whole =
    let k = blocks_for (length es) in
    subst (λ ps. NoneRefused (answers n ps)) (sym (pieces-joined (recording n es) (blocks_long k n es))) (blocks-answered k n es fit bytes whole)

-- The bytes of a recording, cut into pieces and read from its first number on, give the records that were recorded, however many.
pub reads_back : (n : ℕ) (es : List ℕ) → n + blocks_for (length es) ≤ number_limit → AllBytes es → T (whole_records es)
    → read_back n (pieces (joined (recording n es))) ≡ es
reads_back n es fit bytes whole =
    let k = blocks_for (length es) in
    ap (read_back n) (pieces-joined (recording n es) (blocks_long k n es)) ∙ blocks_back k n es fit bytes whole (omega arith)

-- The same of events that records can carry.
record-bytes : (t c v : ℕ) → AllBytes (record_bytes t c v)
unfolding record_bytes
record-bytes t c v =
    let kind = bytes_append (low_bytes 2 t) (low_bytes 2 c) (bytes_low 2 t) (bytes_low 2 c) in
    bytes_append (low_bytes 2 t ++ low_bytes 2 c) (low_bytes 4 v) kind (bytes_low 4 v)

pub events-bytes : (es : List Event) → AllBytes (bytes_of es)
unfolding bytes_of
events-bytes [] = λ i. omega arith
events-bytes (e ∷ es) = bytes_append (event_bytes e) (bytes_of es) (record-bytes e.type e.code (bits_of e.value)) (events-bytes es)

pub events_back : (n : ℕ) (es : List Event) → n + blocks_for (length (bytes_of es)) ≤ number_limit → AllCarried es
    → events_of (read_back n (pieces (joined (recording n (bytes_of es))))) ≡ es
events_back n es fit carried =
    ap events_of (reads_back n (bytes_of es) fit (events-bytes es) (is_whole (bytes_of es) (omega (arith, bytes-length es)))) ∙ decoded es carried

-- ---- laid in parts

blocks_parts : (k m n : ℕ) (xs ys : List ℕ) → length xs ≡ full_run * k → blocks_from (k + m) n (xs ++ ys) ≡ blocks_from k n xs ++ blocks_from m (n + k) ys
blocks_parts zero m n [] ys h = let z : 0 + m ≡ m = omega arith in rw (z, add-zero n)
blocks_parts zero m n (x ∷ xs) ys h = absurd (omega arith)
blocks_parts (suc k) m n xs ys h =
    let rest = drop full_run xs in
    let l : length rest ≡ full_run * k = omega (arith, length-drop full_run xs) in
    let s : suc n + k ≡ n + suc k = omega arith in
    rw (suc-add k m)
    (ap₂ {C = List (List ℕ)} (λ b bs. block_of n b ∷ bs)
    (take-append-le full_run xs ys (omega arith))
    (ap (blocks_from (k + m) (suc n)) (drop-append-le full_run xs ys (omega arith)) ∙ blocks_parts k m (suc n) rest ys l
    ∙ ap (λ number. blocks_from k (suc n) rest ++ blocks_from m number ys) s))

-- A recording of full blocks, and then another part from the next number on, is the recording of both.
pub in_parts : (n : ℕ) (xs ys : List ℕ) → length xs % full_run ≡ 0
    → recording n (xs ++ ys) ≡ recording n xs ++ recording (n + blocks_for (length xs)) ys
in_parts n xs ys h =
    let k = blocks_for (length xs) in
    let m = blocks_for (length ys) in
    let s : blocks_for (length (xs ++ ys)) ≡ k + m = omega (arith, length-append xs ys) in
    ap (λ c. blocks_from c n (xs ++ ys)) s ∙ blocks_parts k m n xs ys (omega arith)
