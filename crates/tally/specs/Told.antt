-- What changed, as it is told slot by slot. Cited by the contracts here, by the plan and by the writer. Assumes nothing.
use Rattle.std.specs.Prelude.{◌≡◌, List, ℕ, ◌<◌, ◌≤◌, ◌+◌, ◌*◌, ◌^◌, eqb}
use Rattle.model.specs.Panel.{per_slot}
use Rattle.model.specs.Sending.{one_unless, changed_numbers, changed_mask}
use Rattle.panel.specs.declared.Slot.{Slot}
use Rattle.panel.specs.Seen.{table_of, SameFrom}
use Rattle.tally.specs.declared.Changed.{Changed}

-- Nothing changed.
abbrev pub unchanged : Changed
unchanged = record { slots = 0; numbers = 0 }

-- Slot s is counted too, of which d numbers changed: its bit is set if there are any.
abbrev pub with_slot : Changed → ℕ → ℕ → Changed
with_slot c s d = record { slots = c.slots + one_unless (eqb d 0) * 2 ^ s; numbers = c.numbers + d }

-- Slots before s alone are counted: there is room for those from s on.
pub record Before (s : ℕ) (c : Changed) : Type 0 where
  pub slots : c.slots < 2 ^ s
  pub numbers : c.numbers ≤ per_slot * s

-- What c tells of two tables that are the same from slot s on: all that changed from the old one to the new one.
pub record Tells (s : ℕ) (old new : List Slot) (c : Changed) : Type 0 where
  pub slots : c.slots ≡ changed_mask (table_of old) (table_of new)
  pub numbers : c.numbers ≡ changed_numbers (table_of old) (table_of new)
  pub before : Before s c
  pub rest : SameFrom s old new
