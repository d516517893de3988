-- Bytes laid over others, one string after the other: the record that was cut, and left-over bytes in their places. Cited by the proofs of the functions
-- that lay them. Assumes nothing.
use mathlib.Core.Path.{◌≡◌, sym, ap, ap₂, ◌∙◌}
use mathlib.Core.Bool.{true}
use mathlib.Core.List.{List, [], ◌++◌, append-nil}
use Prim.Native.Nat.{ℕ, ◌+◌, ◌-◌, ◌≤◌}
use native.Mathlib.Omega.{arith}
use lib.ListN.{length, take, drop, replicate, length-append, length-replicate, replicate-append-replicate, drop_of_length-le}
use lib.Seq.{paste, length-paste, take-length, take_at, drop_at, length-take-le, drop-drop}
use Rattle.model.proofs.Places.{clear_places, zeros-part}
use Rattle.model.specs.Pod.{zeros}
use Rattle.model.specs.Pieces.{places, placed}

-- Laid over the start, a string stands before what it does not reach.
at-start : (d a : List ℕ) → paste d 0 a (length a) ≡ a ++ drop (length a) d
at-start d a = let z : 0 + length a ≡ length a = omega arith in ap₂ (λ x k. x ++ drop k d) (take-length a) z

-- Two strings, one laid behind the other over as many bytes as they have.
pub two-laid : (d a b : List ℕ) → length a + length b ≡ length d → paste (paste d 0 a (length a)) (length a) b (length b) ≡ a ++ b
two-laid d a b h =
    let x = paste d 0 a (length a) in
    let room : 0 + length a ≤ length d = omega arith in
    let sized : length x ≡ length d = length-paste d 0 a (length a) room (omega arith) in
    let front : take (length a) x ≡ a = ap (take (length a)) (at-start d a) ∙ take_at a (drop (length a) d) (length a) (λ i. length a) in
    let over : length x ≤ length a + length b = omega arith in
    let past : drop (length a + length b) x ≡ [] = drop_of_length-le x over in
    ap₂ {C = List ℕ} (λ u v. u ++ v) (ap₂ {C = List ℕ} (λ u v. u ++ v) front (take-length b)) past
    ∙ append-nil (a ++ b)

-- Laid over zeros in all places, bytes stand in their places.
pub start-laid : (a : List ℕ) → length a ≤ places → paste (replicate places 0) 0 a (length a) ≡ placed a
start-laid a h =
    let used = replicate {A = ℕ} (length a) 0 in
    let unused = replicate {A = ℕ} (places - length a) 0 in
    let sum : length a + (places - length a) ≡ places = omega arith in
    let all : replicate {A = ℕ} places 0 ≡ used ++ unused =
    ap (λ n. replicate {A = ℕ} n 0) (sym sum) ∙ sym (replicate-append-replicate (length a) (places - length a) 0) in
    at-start (replicate {A = ℕ} places 0) a
    ∙ ap (λ l. a ++ l) (ap (drop (length a)) all ∙ drop_at used unused (length a) (length-replicate {A = ℕ} (length a) 0))

-- Laid behind bytes that are held, over unused places that are 0, bytes stand in their places with them.
pub more-laid : (left b : List ℕ) (count : ℕ) → length left ≡ places → zeros (drop count left) ≡ true → count + length b ≤ places
    → paste left count b (length b) ≡ placed (take count left ++ b)
more-laid left b count s e h =
    let a = take count left in
    let held : length a ≡ count = length-take-le count left (omega arith) in
    let unused : length left - (count + length b) ≡ places - length (a ++ b) = omega (arith, length-append a b) in
    let clear : zeros (drop (count + length b) left) ≡ true = ap zeros (sym (drop-drop (length b) count left)) ∙ zeros-part (length b) (drop count left) e in
    ap₂ {C = List ℕ} (λ u v. u ++ v) (ap (λ u. a ++ u) (take-length b))
    (sym (clear_places left (count + length b) clear) ∙ ap (λ n. replicate n 0) unused)
