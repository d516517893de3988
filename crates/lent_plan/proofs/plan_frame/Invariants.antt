-- `lent_plan::plan_frame` judges the rows of a frame, makes its table in place and its counter and tells what changes, up to the first contact that begins; the rest is `give_ids`'. Assumes nothing.
use mathlib.Core.Path.{◌≡◌}
use mathlib.Core.List.{List}
use Prim.Native.Nat.{ℕ, ◌≤◌, ◌-◌}
use lib.IntN.{ℤ}
use lib.ListN.{length}
use Rattle.model.specs.Panel.{per_slot, records}
use Rattle.model.specs.Table.{ids}
use Rattle.model.specs.Frame.{values_good, rows_from, framed}
use Rattle.panel.specs.declared.Slot.{Slot}
use Rattle.panel.specs.declared.Setup.{Setup}
use Rattle.panel.specs.Seen.{table_of, panel_seen}
use Rattle.tally.specs.declared.Changed.{Changed}
use Rattle.tally.specs.Told.{Tells}
use Rattle.plan.specs.Walk.{rows_good, plan_from}
use Rattle.lent.specs.Lent.{table_size, table_in}
use Rattle.lent_plan.proofs.plan_frame.Given as goal

-- The first s rows are good and their slots made, and no id is given: what is left is what the frame plans, and c tells what changed.
pub record Kept (u : Setup) (old : List Slot) (counter : ℕ) (frame : List ℤ) (t : List Slot) (c : Changed) (s : ℕ) : Type 0 where
  pub inside : s ≤ u.n
  pub few : u.n ≤ records
  pub good : values_good (panel_seen u) frame ≡ rows_good u frame s
  pub whole : framed counter (rows_from per_slot u.n frame 0) (table_of old) ≡ plan_from (ids (table_of old)) counter u.n frame t s
  pub tells : Tells s old t c

abbrev pub invariant-loop-s : goal.invariant-loop-s
invariant-loop-s l = (length l.t ≡ table_size) × Kept l.setup (table_in l.old) l.counter l.frame (table_in l.t) l.changes l.s

abbrev pub decreases-loop-s : goal.decreases-loop-s
decreases-loop-s l = l.setup.n - l.s
