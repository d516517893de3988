-- A run may be cut between any two records: events and then more events, with their counts, and the records of bytes that are cut.
-- Cited by Loss, Shows and Chain. Assumes nothing.
use mathlib.Core.Path.{◌≡◌, refl, sym, ap, ap₂, ◌∙◌}
use mathlib.Core.List.{List, [], ◌∷◌, ◌++◌, map, map-append}
use Prim.Native.Nat.{ℕ, zero, suc, ◌+◌, ◌-◌, ◌*◌, ◌/◌, ◌%◌, ◌<◌}
use native.Mathlib.Omega.{arith}
use lib.ListN.{length, get_or, take, length-append, get_or-append}
use lib.Seq.{get_or-append-add, get_or-take, length-take-le}
use Rattle.model.proofs.Counts.{plus_assoc, none-plus}
use Rattle.model.specs.Panel.{Panel}
use Rattle.model.specs.Events.{Event, Act, classify}
use Rattle.model.specs.Records.{event_at, events_from, events_of}
use Rattle.model.specs.Reader.{Reader, step, steps, read, plus, count_in, count_all, run}

-- ---- events

-- Acts, and then more of them.
pub steps_append : (r : Reader) (xs ys : List Act) → steps r (xs ++ ys) ≡ steps (steps r xs) ys
steps_append r [] ys = refl
steps_append r (x ∷ xs) ys = steps_append (step r x) xs ys

-- Their counts add up.
pub counts_append : (r : Reader) (xs ys : List Act) → count_all r (xs ++ ys) ≡ plus (count_all r xs) (count_all (steps r xs) ys)
counts_append r [] ys = sym (none-plus (count_all r ys))
counts_append r (x ∷ xs) ys =
    ap (plus (count_in r.mode r x)) (counts_append (step r x) xs ys)
    ∙ sym (plus_assoc (count_in r.mode r x) (count_all (step r x) xs) (count_all (steps (step r x) xs) ys))

-- The reader after events and then more is the reader after the later ones, from where the earlier left it.
pub read_append : (p : Panel) (r : Reader) (xs ys : List Event) → read p r (xs ++ ys) ≡ read p (read p r xs) ys
read_append p r xs ys = ap (steps r) (map-append (classify p) xs ys) ∙ steps_append r (map (classify p) xs) (map (classify p) ys)

-- So is a run, and its counts are those of the two parts added up.
pub run_append : (p : Panel) (r : Reader) (xs ys : List Event)
    → run p r (xs ++ ys) ≡ (let a = run p r xs in let b = run p a.reader ys in record { reader = b.reader; counts = plus a.counts b.counts })
unfolding run
run_append p r xs ys =
    ap₂ (λ a c. record { reader = a; counts = c }) (read_append p r xs ys)
    (ap (count_all r) (map-append (classify p) xs ys) ∙ counts_append r (map (classify p) xs) (map (classify p) ys))

-- ---- bytes

-- A record is its eight bytes, wherever they stand.
record_alike : (s t : List ℕ) (i j : ℕ) → ((k : ℕ) → k < 8 → get_or s (i + k) 0 ≡ get_or t (j + k) 0) → event_at s i ≡ event_at t j
record_alike s t i j h =
    let a : i + 0 ≡ i = omega arith in
    let b : j + 0 ≡ j = omega arith in
    let z : get_or s i 0 ≡ get_or t j 0 = ap (λ n. get_or s n 0) (sym a) ∙ h 0 (omega arith) ∙ ap (λ n. get_or t n 0) b in
    rw (
      z,
      h 1 (omega arith),
      h 2 (omega arith),
      h 3 (omega arith),
      h 4 (omega arith),
      h 5 (omega arith),
      h 6 (omega arith),
      h 7 (omega arith),
    )

-- So are n records.
events_alike : (n : ℕ) (s t : List ℕ) (i j : ℕ) → ((k : ℕ) → k < 8 * n → get_or s (i + k) 0 ≡ get_or t (j + k) 0) → events_from n s i ≡ events_from n t j
unfolding events_from
events_alike zero s t i j h = refl
events_alike (suc n) s t i j h =
    let on : (k : ℕ) → k < 8 * n → get_or s (i + 8 + k) 0 ≡ get_or t (j + 8 + k) 0 =
    λ k b. ap (λ m. get_or s m 0) (omega arith) ∙ h (8 + k) (omega arith) ∙ ap (λ m. get_or t m 0) (omega arith) in
    ap₂ {C = List Event} (λ e es. e ∷ es) (record_alike s t i j (λ k b. h k (omega arith))) (events_alike n s t (i + 8) (j + 8) on)

-- So many records, and then so many more.
more : (m n : ℕ) (s : List ℕ) (at : ℕ) → events_from (m + n) s at ≡ events_from m s at ++ events_from n s (at + 8 * m)
unfolding events_from
more zero n s at =
    let z : at ≡ at + 8 * 0 = omega arith in
    let e : 0 + n ≡ n = omega arith in
    ap (λ k. events_from k s at) e ∙ ap (events_from n s) z
more (suc m) n s at =
    let z : at + 8 + 8 * m ≡ at + 8 * suc m = omega arith in
    let e : suc m + n ≡ suc (m + n) = omega arith in
    ap (λ k. events_from k s at) e
    ∙ ap {B = List Event} (λ es. event_at s at ∷ es) (more m n s (at + 8) ∙ ap (λ k. events_from m s (at + 8) ++ events_from n s k) z)

-- Bytes that are cut between two records: the records of the first part, and then those of the second.
pub events_append : (xs ys : List ℕ) → length xs % 8 ≡ 0 → events_of (xs ++ ys) ≡ events_of xs ++ events_of ys
events_append xs ys h =
    let m = length xs / 8 in
    let n = length ys / 8 in
    let count : length (xs ++ ys) / 8 ≡ m + n = omega (arith, length-append xs ys) in
    let seam : 0 + 8 * m ≡ length xs = omega arith in
    ap (λ k. events_from k (xs ++ ys) 0) count
    ∙ more m n (xs ++ ys) 0
    ∙ ap₂ {C = List Event} (λ a b. a ++ b)
    (events_alike m (xs ++ ys) xs 0 0 (λ k b. get_or-append xs ys 0 (0 + k) (omega arith)))
    (ap (events_from n (xs ++ ys)) seam ∙ events_alike n (xs ++ ys) ys (length xs) 0 (λ k b. get_or-append-add xs ys k 0 ∙ ap (λ j. get_or ys j 0) (omega arith)))

-- Record i of bytes, between the records before it and those that follow.
pub record_within : (bs : List ℕ) (i : ℕ) → i < length bs / 8
    → events_of bs ≡ events_of (take (8 * i) bs) ++ event_at bs (8 * i) ∷ events_from (length bs / 8 - suc i) bs (8 * i + 8)
unfolding events_from
record_within bs i h =
    let m = length bs / 8 - suc i in
    let count : length bs / 8 ≡ i + suc m = omega arith in
    let start : 0 + 8 * i ≡ 8 * i = omega arith in
    let first : length (take (8 * i) bs) / 8 ≡ i = omega (arith, length-take-le (8 * i) bs (omega arith)) in
    ap (λ k. events_from k bs 0) count
    ∙ more i (suc m) bs 0
    ∙ ap₂ {C = List Event} (λ a k. a ++ events_from (suc m) bs k)
    (events_alike i bs (take (8 * i) bs) 0 0 (λ k b. sym (get_or-take (8 * i) bs (0 + k) 0 (omega arith)))
    ∙ ap (λ k. events_from k (take (8 * i) bs) 0) (sym first))
    start
