-- What a walk over a frame's rows is given, and what it answers. Cited by the contracts here and by the writer. Assumes nothing.
use Rattle.std.specs.Prelude.{◌≡◌, Bool, true, false, List, ℕ, ◌-◌, ◌*◌, ◌<◌, ◌≤◌, ℤ, length, take, drop}
use Rattle.model.specs.Panel.{base, setup_good, id_count, per_slot}
use Rattle.model.specs.Table.{good_records}
use Rattle.model.specs.Frame as F
use Rattle.panel.specs.declared.Slot.{Slot}
use Rattle.panel.specs.declared.Setup.{Setup}
use Rattle.panel.specs.Seen.{table_of, setup_of, fields_of, axes_of}
use Rattle.tally.specs.declared.Changed.{Changed}
use Rattle.tally.specs.Told.{unchanged, Tells}
use Rattle.plan.specs.declared.Planned.{Planned}
use Rattle.plan.specs.Quiet.{QuietAt}

-- ---- what is given

-- A good setup, a table and a counter as a state has them, and a frame of the panel's size.
pub record Given (u : Setup) (old : List Slot) (k : ℕ) (frame : List ℤ) : Type 0 where
  pub setup : setup_good base (setup_of u) ≡ true
  pub slots : good_records (fields_of u) u.n (table_of old) ≡ true
  pub counts : k < id_count
  pub size : length frame ≡ per_slot * u.n

-- The same, and the rows before slot `from` are quiet.
pub record Ready (u : Setup) (old : List Slot) (k : ℕ) (frame : List ℤ) (from : ℕ) : Type 0 where
  pub given : Given u old k frame
  pub inside : from ≤ u.n
  pub quiet : (s : ℕ) → s < from → QuietAt frame old s

-- The rows from slot s on are left: the slots before it are made, and c tells what changed in them.
pub record RowsLeft (u : Setup) (s k : ℕ) (old made : List Slot) (c : Changed) (frame : List ℤ) : Type 0 where
  pub given : Given u old k frame
  pub inside : s ≤ u.n
  pub tells : Tells s old made c

-- They are good.
abbrev pub rows_good : Setup → List ℤ → ℕ → Bool
rows_good u frame s = F.good_rows (axes_of u) (F.rows_from per_slot (u.n - s) frame (per_slot * s))

-- ---- what is answered

-- A planned table and counter, as the model's.
abbrev pub planned_of : Planned → F.Planned
planned_of r = record { table = table_of r.table; counter = r.counter }

-- The first s slots of t, and what the rows from s on make of the others, where `taken` are the ids taken and k is the counter.
abbrev pub plan_from : List ℤ → ℕ → ℕ → List ℤ → List Slot → ℕ → F.Planned
plan_from taken k n frame t s = F.after (table_of (take s t)) (F.planned taken k (F.rows_from per_slot (n - s) frame (per_slot * s)) (table_of (drop s t)))

-- An answer r holds the plan p of n good rows, and tells what it changes in the old table.
pub record Plans (n : ℕ) (old : List Slot) (p : F.Planned) (r : Planned) : Type 0 where
  pub plan : planned_of r ≡ p
  pub tells : Tells n old r.table r.changes
  pub good : r.good ≡ true

-- A row is bad: the table and the counter as they were.
abbrev pub refused_plan : List Slot → ℕ → Planned
refused_plan old k = record { table = old; counter = k; changes = unchanged; good = false }

-- The answer by whether all rows are good.
abbrev pub PlansBy : Bool → ℕ → List Slot → ℕ → F.Planned → Planned → Type 0
PlansBy true n old k p r = Plans n old p r
PlansBy false n old k p r = r ≡ refused_plan old k
