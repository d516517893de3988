-- What is heard of a recording, piece by piece (K2, K14): whole records; up to an altered block the beginning of what was recorded, and there a loss. Cited by the crate link. Assumes nothing.
use mathlib.Core.Path.{◌≡◌, refl, sym, ap, ap₂, ◌∙◌, subst}
use mathlib.Core.Logic.{◌≢◌}
use mathlib.Core.List.{List, [], ◌∷◌, ◌++◌, append_assoc}
use Prim.Native.Nat.{ℕ, zero, suc, ◌+◌, ◌*◌, ◌/◌, ◌%◌, ◌≤◌, ◌<◌}
use native.Mathlib.Nat.{add-zero}
use native.Mathlib.Omega.{arith}
use lib.Dec.{T}
use lib.ListN.{length, get_or, take, drop, set, length-append, length-drop}
use lib.Seq.{length-take-le, take-set-le, get_or-set_same}
use Rattle.model.specs.Records.{record_bytes, event_at}
use Rattle.model.specs.Loss.{is_dropped}
use Rattle.model.specs.Recorder.{block_length, header_length, number_limit, AllBytes, blocks_for, recording, joined, whole_records, count_in}
use Rattle.model.specs.Recorder.{BlockRead, events_at, wrong_check, wrong_number, count_over, not_zero, read_number, read_values, read_block}
use Rattle.model.specs.Recorder.{pieces, answers, loss, said, read_back}
use Rattle.model.proofs.Bytes.{record_behind}
use Rattle.model.proofs.Blocks.{good-read, read-good}
use Rattle.model.proofs.Recordings.{blocks-count, blocks_long, joined_length, reads_back}
use Rattle.model.proofs.Tampered.{pieces-set, altered_recording}

-- ---- whole records

said-whole : (n : ℕ) (p : List ℕ) → length (said (read_block n p) p) % 8 ≡ 0
unfolding record_bytes
said-whole n p = by_answer (read_block n p) refl
  where
    by_answer : (r : BlockRead) → read_block n p ≡ r → length (said r p) % 8 ≡ 0
    by_answer (events_at at count) e =
        let good = read-good n p at count e in
        let values : at ∷ count ∷ [] ≡ header_length ∷ count_in p ∷ [] = ap read_values (sym e ∙ good-read n p good) in
        let from : at ≡ header_length = ap (λ l. get_or l 0 0) values in
        let many : count ≡ count_in p = ap (λ l. get_or l 1 0) values in
        let to = at + 8 * count in
        let inside : to ≤ length p = omega (arith, good.count, good.size) in
        omega (arith, length-drop at (take to p), length-take-le to p inside)
    by_answer wrong_check e = refl
    by_answer wrong_number e = refl
    by_answer count_over e = refl
    by_answer not_zero e = refl

-- Whatever the pieces.
pub back_whole : (n : ℕ) (ps : List (List ℕ)) → length (read_back n ps) % 8 ≡ 0
back_whole n [] = refl
back_whole n (p ∷ ps) =
    let one = said (read_block n p) p in omega (arith, length-append one (read_back (suc n) ps), said-whole n p, back_whole (suc n) ps)

-- ---- the first pieces, and the others

pub back_parts : (k n : ℕ) (ps : List (List ℕ)) → read_back n ps ≡ read_back n (take k ps) ++ read_back (n + k) (drop k ps)
back_parts zero n ps = ap (λ m. read_back m ps) (sym (add-zero n))
back_parts (suc k) n [] = refl
back_parts (suc k) n (p ∷ ps) =
    let one = said (read_block n p) p in
    let z : suc n + k ≡ n + suc k = omega arith in
    ap (λ l. one ++ l) (back_parts k (suc n) ps ∙ ap (λ m. read_back (suc n) (take k ps) ++ read_back m (drop k ps)) z)
    ∙ sym (append_assoc one (read_back (suc n) (take k ps)) (read_back (n + suc k) (drop k ps)))

-- ---- where a piece is refused

-- The first k pieces, the one at place j among them.
lost_in : (j k n : ℕ) (ps : List (List ℕ)) → j < k → get_or (answers n ps) j not_zero ≡ wrong_check
    → read_back n (take k ps) ≡ read_back n (take j ps) ++ (loss ++ read_back (n + suc j) (drop (suc j) (take k ps)))
lost_in j k n [] h e = absurd (omega (arith, ap read_number e))
lost_in j zero n (p ∷ ps) h e = absurd (omega arith)
lost_in zero (suc k) n (p ∷ ps) h e =
    let z : suc n ≡ n + 1 = omega arith in
    ap (λ a. said a p ++ read_back (suc n) (take k ps)) e ∙ ap (λ m. loss ++ read_back m (take k ps)) z
lost_in (suc j) (suc k) n (p ∷ ps) h e =
    let one = said (read_block n p) p in
    let z : suc n + suc j ≡ n + suc (suc j) = omega arith in
    let rest = drop (suc j) (take k ps) in
    ap (λ l. one ++ l) (lost_in j k (suc n) ps (omega arith) e ∙ ap (λ m. read_back (suc n) (take j ps) ++ (loss ++ read_back m rest)) z)
    ∙ sym (append_assoc one (read_back (suc n) (take j ps)) (loss ++ read_back (n + suc (suc j)) rest))

-- SYN_DROPPED is a record of what is heard of them.
lost_record : (j k n : ℕ) (ps : List (List ℕ)) → j < k → get_or (answers n ps) j not_zero ≡ wrong_check
    → (let bs = read_back n (take k ps) in
    let i = length (read_back n (take j ps)) / 8 in
    (i < length bs / 8) × T (is_dropped (event_at bs (8 * i))))
unfolding record_bytes
lost_record j k n ps h e =
    let xs = read_back n (take j ps) in
    let ys = read_back (n + suc j) (drop (suc j) (take k ps)) in
    let is = lost_in j k n ps h e in
    let z : 8 * (length xs / 8) ≡ length xs = omega (arith, back_whole n (take j ps)) in
    let there = ap₂ event_at is z ∙ record_behind xs (loss ++ ys) in
    let more : length (loss ++ ys) ≡ 8 + length ys = length-append loss ys in
    (omega (arith, ap length is, length-append xs (loss ++ ys), back_whole n (take j ps)), subst (λ x. T (is_dropped x)) (sym there) tt)

-- ---- one byte of a recording altered

answers_long : (n : ℕ) (ps : List (List ℕ)) → length (answers n ps) ≡ length ps
answers_long n [] = refl
answers_long n (p ∷ ps) = ap suc (answers_long (suc n) ps)

module _ (n : ℕ) (es : List ℕ) (fit : n + blocks_for (length es) ≤ number_limit) (bytes : AllBytes es) (whole : T (whole_records es))
    (i v : ℕ) (h : i < length (joined (recording n es))) (d : v ≢ get_or (joined (recording n es)) i 0) where
  abbrev s : List ℕ
  s = joined (recording n es)

  -- Up to the block of that byte what is heard is the beginning of what was recorded.
  pub altered_begins : (k : ℕ) → k ≤ i / block_length → read_back n (take k (pieces (set s i v))) ++ read_back (n + k) (drop k (pieces s)) ≡ es
  altered_begins k b =
      let j = i / block_length in
      let same = ap (take k) (pieces-set s i v h) ∙ take-set-le k (pieces s) j (set (get_or (pieces s) j []) (i % block_length) v) b in
      ap (λ ps. read_back n ps ++ read_back (n + k) (drop k (pieces s))) same ∙ sym (back_parts k n (pieces s)) ∙ reads_back n es fit bytes whole

  -- From that block on a loss is among it.
  pub altered_lost : (k : ℕ) → i / block_length < k
      → (let ps = pieces (set s i v) in
      let bs = read_back n (take k ps) in
      let at = length (read_back n (take (i / block_length) ps)) / 8 in
      (at < length bs / 8) × T (is_dropped (event_at bs (8 * at))))
  altered_lost k b =
      let j = i / block_length in
      let all = recording n es in
      let count = blocks-count (blocks_for (length es)) n es in
      let inside : j < length (answers n all) = omega (arith, answers_long n all, joined_length all (blocks_long (blocks_for (length es)) n es)) in
      let refused : get_or (answers n (pieces (set s i v))) j not_zero ≡ wrong_check =
      ap (λ l. get_or l j not_zero) (altered_recording n es fit bytes whole i v h d) ∙ get_or-set_same (answers n all) j wrong_check not_zero inside in
      lost_record j k n (pieces (set s i v)) b refused
