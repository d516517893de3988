-- A flat run of numbers row by row, as a loop over the slots reads it. Cited by the crates that read a frame or an image. Assumes nothing.
use mathlib.Core.Path.{◌≡◌, refl, ap}
use mathlib.Core.List.{List, [], ◌∷◌}
use Prim.Native.Nat.{ℕ, suc, ◌+◌, ◌-◌, ◌*◌, ◌<◌}
use native.Mathlib.Omega.{arith}
use native.Mathlib.Nat.{mul-suc}
use native.Mathlib.Numerals.{add-one}
use lib.IntN.{ℤ, pos}
use lib.ListN.{get_or}
use Rattle.model.specs.Panel.{per_slot}
use Rattle.model.specs.Frame.{numbers_from, rows_from}

-- Slot s's row, and then the rows of the slots after it.
pub rows_next : (k n s : ℕ) (f : List ℤ) → s < n → rows_from k (n - s) f (k * s) ≡ numbers_from k f (k * s) ∷ rows_from k (n - (s + 1)) f (k * (s + 1))
unfolding rows_from
rows_next k n s f h =
    let m : n - s ≡ suc (n - (s + 1)) = omega arith in
    let e : k * s + k ≡ k * (s + 1) = rw (add-one, mul-suc) in
    rw m (ap {B = List (List ℤ)} (λ at. numbers_from k f (k * s) ∷ rows_from k (n - (s + 1)) f at) e)

pub rows_none : (k : ℕ) (f : List ℤ) (at : ℕ) → rows_from k 0 f at ≡ []
unfolding rows_from
rows_none k f at = refl

-- A slot's numbers, at the offsets that code writes.
pub row_of_slot : (f : List ℤ) (at : ℕ)
    → numbers_from per_slot f at ≡ get_or f at (pos 0) ∷ get_or f (at + 1) (pos 0) ∷ get_or f (at + 2) (pos 0) ∷ get_or f (at + 3) (pos 0) ∷ get_or f (at + 4) (pos 0) ∷ get_or f (at + 5) (pos 0) ∷ []
row_of_slot f at =
    let two : at + 1 + 1 ≡ at + 2 = omega arith in
    let three : at + 2 + 1 ≡ at + 3 = omega arith in
    let four : at + 3 + 1 ≡ at + 4 = omega arith in
    let five : at + 4 + 1 ≡ at + 5 = omega arith in
    rw (two, three, four, five)
