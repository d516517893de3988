-- Two tests that are asked in other words than the model's. Cited by the proofs of `slot_ok` and `numbers_ok`. Assumes nothing.
use mathlib.Core.Path.{◌≡◌, ap, ◌∙◌}
use mathlib.Core.Bool.{Bool}
use Prim.Native.Nat.{ℕ}
use native.Mathlib.Omega.{arith}
use lib.Dec.{leb}
use lib.IntN.{ℤ, pos}
use borrow.Author.Tests.{le-leb}
use mir.Syntax.{w32}
use mir.Val.{SFits, of_z, to_z}
use mir.ValLaws.{to_z-of_z}
use Rattle.model.specs.Numbers.{between_z}

-- A number that is not negative is good up to its largest value.
pub fits_top : (v top : ℕ) → leb v top ≡ between_z (pos 0) (pos top) (pos v)
fits_top v top = rw (le-leb 0 v (omega arith))

-- What a test says that was asked of a number's bits.
pub told : (b : Bool) (top : ℕ) (v : ℤ) → SFits w32 v → b ≡ between_z (pos 0) (pos top) (to_z w32 (of_z w32 v)) → b ≡ between_z (pos 0) (pos top) v
told b top v f e = e ∙ ap (between_z (pos 0) (pos top)) (to_z-of_z w32 v f)
