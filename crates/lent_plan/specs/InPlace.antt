-- What a plan in place is given, and what it answers. Cited by the contracts here and by the lent writer. Assumes nothing.
use Rattle.std.specs.Prelude.{◌≡◌, Bool, true, false, List, ℕ, ℤ, length}
use Rattle.model.specs.Frame as F
use Rattle.panel.specs.declared.Slot.{Slot}
use Rattle.panel.specs.declared.Setup.{Setup}
use Rattle.tally.specs.declared.Changed.{Changed}
use Rattle.tally.specs.Told.{unchanged}
use Rattle.plan.specs.declared.Planned.{Planned}
use Rattle.plan.specs.Walk.{Ready, RowsLeft, Plans}
use Rattle.lent.specs.Lent.{table_size, table_in}
use Rattle.lent_plan.specs.declared.Plan.{Plan}

-- ---- what is given

-- The bytes of a state's table and of a copy of it, and else what a plan of that table is given.
pub record ReadyIn (u : Setup) (k : ℕ) (frame : List ℤ) (from : ℕ) (old t : List ℕ) : Type 0 where
  pub ready : Ready u (table_in old) k frame from
  pub old_size : length old ≡ table_size
  pub size : length t ≡ table_size
  pub copied : table_in t ≡ table_in old

-- The bytes of a state's table, and those of a table whose slots before s are made, where c tells what changed in them.
pub record LeftIn (u : Setup) (s k : ℕ) (frame : List ℤ) (c : Changed) (old t : List ℕ) : Type 0 where
  pub left : RowsLeft u s k (table_in old) (table_in t) c frame
  pub old_size : length old ≡ table_size
  pub size : length t ≡ table_size

-- ---- what is answered

-- An answer with the table that was made in place.
abbrev pub with_table : Plan → List Slot → Planned
with_table r t = record { table = t; counter = r.counter; changes = r.changes; good = r.good }

-- A row is bad: the counter as it was, and nothing is told to have changed.
abbrev pub refusal : ℕ → Plan
refusal k = record { counter = k; changes = unchanged; good = false }

-- The answer and the table in place, by whether all rows are good. Where one is not, the table may be made in part: nothing is said of it.
abbrev pub PlansIn : Bool → ℕ → List Slot → ℕ → F.Planned → Plan → List Slot → Type 0
PlansIn true n old k p r new = Plans n old p (with_table r new)
PlansIn false n old k p r new = r ≡ refusal k
