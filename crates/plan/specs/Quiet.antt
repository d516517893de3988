-- Rows that leave their slot as it is. Cited by the contracts here and by the writer. Assumes nothing.
use Rattle.std.specs.Prelude.{◌≡◌, Bool, true, false, not, cond, ◌&&◌, List, [], ◌∷◌, ℕ, ◌*◌, ◌<◌, ◌≤◌, eqb, ℤ, pos, get_or}
use Rattle.std.specs.Int.{w32}
use Rattle.std.proofs.Common.{SFits}
use Rattle.model.specs.Panel.{per_slot}
use Rattle.model.specs.Numbers.{eq_z}
use Rattle.model.specs.Table.{live}
use Rattle.model.specs.Records.{bits_of}
use Rattle.model.specs.Frame.{numbers_from, kind_of}
use Rattle.panel.specs.declared.Slot.{Slot}
use Rattle.panel.specs.Seen.{blank}

-- A slot's numbers but its id are the bits of its row's.
abbrev pub same_numbers : Slot → List ℤ → Bool
same_numbers was g = eqb was.x (bits_of (get_or g 1 (pos 0))) && (eqb was.y (bits_of (get_or g 2 (pos 0))) && (eqb was.pressure (bits_of (get_or g 3 (pos 0))) && (eqb was.major (bits_of (get_or g 4 (pos 0))) && eqb was.minor (bits_of (get_or g 5 (pos 0))))))

-- Kind 0 where no contact is, or kind 1 with the contact's own numbers. A pressure of 0 is not quiet: a slot may hold it, and no frame may give it.
abbrev pub quiet_row : Slot → List ℤ → Bool
quiet_row was g = cond (live was.id.0) (eq_z (kind_of g) (pos 1) && (not (eqb was.pressure 0) && same_numbers was g)) (eq_z (kind_of g) (pos 0))

-- The row of slot s is quiet.
abbrev pub quiet_at : List ℤ → List Slot → ℕ → Bool
quiet_at frame t s = quiet_row (get_or t s blank) (numbers_from per_slot frame (per_slot * s))

-- Every number is of 32 bits, as all that are read from a frame are.
abbrev pub Of32 : List ℤ → Type 0
Of32 [] = Unit {0}
Of32 (v ∷ vs) = SFits w32 v × Of32 vs

-- The row of slot s is quiet, and read.
pub record QuietAt (frame : List ℤ) (t : List Slot) (s : ℕ) : Type 0 where
  pub is : quiet_at frame t s ≡ true
  pub fits : Of32 (numbers_from per_slot frame (per_slot * s))

-- r is the first of n slots, from the slot `from` on, whose row is not quiet, or n where all are.
pub record NextLoud (from n : ℕ) (t : List Slot) (frame : List ℤ) (r : ℕ) : Type 0 where
  pub after : from ≤ r
  pub inside : r ≤ n
  pub quiet : (s : ℕ) → from ≤ s → s < r → QuietAt frame t s
  pub loud : r < n → quiet_at frame t r ≡ false

-- The first of all.
abbrev pub FirstLoud : ℕ → List Slot → List ℤ → ℕ → Type 0
FirstLoud n t frame r = NextLoud 0 n t frame r
