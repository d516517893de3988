-- `lent::put_table`: as many slots are stored as were passed. Assumes nothing.
use mathlib.Core.Path.{◌≡◌}
use Prim.Native.Nat.{◌≤◌}
use lib.ListN.{take}
use Rattle.model.specs.Panel.{records}
use Rattle.model.specs.Records.{lay}
use Rattle.lent.specs.Lent.{table_bytes}
use Rattle.lent.proofs.put_table.Given as goal

abbrev pub invariant-loop-i : goal.invariant-loop-i
invariant-loop-i l = (l.i ≤ records) × (l.b ≡ lay l.at (table_bytes (take l.i l.t)) l.initial.b)
