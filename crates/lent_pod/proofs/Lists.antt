-- A list written out by its length, and a flag as a number. Assumes nothing.
use mathlib.Core.Path.{◌≡◌, refl, ap, ◌∙◌}
use mathlib.Core.Bool.{Bool, true, false}
use mathlib.Core.List.{List, [], ◌∷◌}
use Prim.Native.Nat.{ℕ, zero, suc, ◌+◌}
use native.Mathlib.Omega.{arith}
use lib.IntN.{pos}
use lib.ListN.{length, get_or, drop, drop_of_length-le}
use lib.Seq.{drop-cons}
use Rattle.model.specs.Pod.{digit}
use Rattle.lent_pod.specs.Pods.{bit}

-- A flag's byte is its digit.
pub bit-digit : (b : Bool) → pos (bit b) ≡ digit b
bit-digit true = refl
bit-digit false = refl

-- So many numbers from a place on, one by one.
abbrev pub listed : ℕ → List ℕ → ℕ → List ℕ
listed zero l i = []
listed (suc n) l i = get_or l i 0 ∷ listed n l (suc i)

listed_from : (n : ℕ) (l : List ℕ) (i : ℕ) → length l ≡ i + n → drop i l ≡ listed n l i
listed_from zero l i e = drop_of_length-le l {i = i} (omega arith)
listed_from (suc n) l i e = drop-cons l i 0 (omega arith) ∙ ap (λ r. get_or l i 0 ∷ r) (listed_from n l (suc i) (omega arith))

-- A list of n numbers, one by one.
pub listed_all : (n : ℕ) (l : List ℕ) → length l ≡ n → l ≡ listed n l 0
listed_all n l e = listed_from n l 0 (omega arith)
