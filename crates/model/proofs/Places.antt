-- Places for bytes, of which the unused ones are 0: a list with nothing but zeros, and the places from one on. Cited by Pod, Pieces and the crates pod
-- and pieces. Assumes nothing.
use mathlib.Core.Path.{◌≡◌, refl, sym, ap, ap₂, ◌∙◌}
use mathlib.Core.Bool.{true, ◌&&◌}
use mathlib.Core.List.{List, [], ◌∷◌}
use Prim.Native.Nat.{ℕ, zero, suc, ◌+◌, ◌-◌, ◌<◌}
use native.Mathlib.Numerals.{add-one}
use lib.Dec.{eqb}
use lib.ListN.{length, get_or, drop, replicate, length-drop}
use lib.Seq.{drop-cons}
use borrow.Author.Tests.{eqb-true}
use Rattle.model.proofs.Bools.{and_left, and_right}
use Rattle.model.specs.Pod.{zeros}

-- A list of zeros has nothing but zeros.
pub zeros-replicate : (n : ℕ) → zeros (replicate n 0) ≡ true
zeros-replicate zero = refl
zeros-replicate (suc n) = zeros-replicate n

-- A list with nothing but zeros is known by its length.
replicate-zeros : (l : List ℕ) → zeros l ≡ true → l ≡ replicate (length l) 0
replicate-zeros [] e = refl
replicate-zeros (b ∷ bs) e =
    ap₂ (λ x l. x ∷ l) (eqb-true b 0 (and_left (eqb b 0) (zeros bs) e)) (replicate-zeros bs (and_right (eqb b 0) (zeros bs) e))

-- So are the places from one on, where they are clear.
pub clear_places : (l : List ℕ) (n : ℕ) → zeros (drop n l) ≡ true → replicate (length l - n) 0 ≡ drop n l
clear_places l n e = ap (λ m. replicate m 0) (sym (length-drop n l)) ∙ sym (replicate-zeros (drop n l) e)

-- Places are clear from one on, if that one is 0 and they are clear from the next on.
pub clear_from : (l : List ℕ) (i : ℕ) → i < length l → zeros (drop i l) ≡ (eqb (get_or l i 0) 0 && zeros (drop (i + 1) l))
clear_from l i h = rw (add-one, drop-cons l i 0 h)

-- A part of zeros is zeros.
pub zeros-part : (n : ℕ) (l : List ℕ) → zeros l ≡ true → zeros (drop n l) ≡ true
zeros-part zero l e = e
zeros-part (suc n) [] e = refl
zeros-part (suc n) (b ∷ bs) e = zeros-part n bs (and_right (eqb b 0) (zeros bs) e)
