-- `lent_plan::ids_of` has the ids of a table's first slots in its first places. The loop has copied i of them. Assumes nothing.
use mathlib.Core.Path.{◌≡◌}
use Prim.Native.Nat.{◌≤◌, ◌*◌}
use lib.ListN.{length, take}
use Rattle.model.specs.Panel.{records}
use Rattle.model.specs.Table.{ids}
use Rattle.panel.specs.Seen.{table_of}
use Rattle.lent.specs.Lent.{table_in}
use Rattle.lent_plan.proofs.ids_of.Given as goal

abbrev pub invariant-loop-i : goal.invariant-loop-i
invariant-loop-i l = (l.i ≤ l.n) × (length l.l ≡ 2 * records) × (take l.i l.l ≡ ids (table_of (take l.i (table_in l.t))))
