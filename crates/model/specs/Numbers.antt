-- Tests on whole numbers: equality and ranges. Cited by every other file of specs/. Assumes nothing.
use Rattle.std.specs.Prelude.{Bool, false, ◌&&◌, ℕ, leb, eqb, ℤ, pos, negsuc}
use Rattle.std.specs.Int.Signed.{le_z}

-- Two whole numbers are the same.
abbrev pub eq_z : ℤ → ℤ → Bool
eq_z (pos a) (pos b) = eqb a b
eq_z (pos a) (negsuc b) = false
eq_z (negsuc a) (pos b) = false
eq_z (negsuc a) (negsuc b) = eqb a b

-- The tracking id of an unused slot.
abbrev pub minus_one : ℤ
minus_one = negsuc 0

-- v is low to high, both included.
abbrev pub between : ℕ → ℕ → ℕ → Bool
between low high v = leb low v && leb v high

-- The same for whole numbers.
abbrev pub between_z : ℤ → ℤ → ℤ → Bool
between_z low high v = le_z low v && le_z v high
