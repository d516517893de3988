-- `plan::give_ids` judges the rest of a frame's rows, makes its table and counter and tells what changes. The first m of `taken` are the ids taken so far. Assumes nothing.
use mathlib.Core.Path.{◌≡◌}
use mathlib.Core.List.{List}
use Prim.Native.Nat.{ℕ, ◌<◌, ◌≤◌, ◌+◌, ◌*◌}
use lib.IntN.{ℤ}
use lib.ListN.{length, take}
use Rattle.model.specs.Panel.{id_count, records}
use Rattle.model.specs.Frame.{Planned}
use Rattle.common.specs.Marks.{Met}
use Rattle.panel.specs.declared.Slot.{Slot}
use Rattle.panel.specs.declared.Setup.{Setup}
use Rattle.tally.specs.declared.Changed.{Changed}
use Rattle.tally.specs.Told.{Tells}
use Rattle.plan.specs.Walk.{rows_good, plan_from}
use Rattle.plan.proofs.give_ids.Given as goal

-- The rows from s₀ to s are good, and their slots made; `promised` is what was to be planned from the start.
pub record Made (u : Setup) (old : List Slot) (frame : List ℤ) (s₀ : ℕ) (promised : Planned) (taken : List ℤ) (held m : ℕ) (t : List Slot) (k s : ℕ) (c : Changed) : Type 0 where
  pub inside : s ≤ u.n
  pub few_taken : m ≤ u.n + s
  pub counts : k < id_count
  pub slots : length t ≡ records
  pub places : length taken ≡ 2 * records
  pub met : Met held (take m taken)
  pub good : rows_good u frame s₀ ≡ rows_good u frame s
  pub whole : promised ≡ plan_from (take m taken) k u.n frame t s
  pub tells : Tells s old t c

abbrev pub invariant-loop-s : goal.invariant-loop-s
invariant-loop-s l =
    Made l.setup l.old l.frame l.initial.s (plan_from (take l.initial.m l.initial.taken) l.initial.k l.setup.n l.frame l.initial.t l.initial.s) l.taken l.held l.m l.t l.k l.s l.changes
