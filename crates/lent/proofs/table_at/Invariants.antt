-- `lent::table_at`: as many slots are read as were passed. Assumes nothing.
use mathlib.Core.Path.{◌≡◌}
use Prim.Native.Nat.{◌≤◌}
use lib.ListN.{length, take}
use Rattle.model.specs.Panel.{records}
use Rattle.lent.specs.Lent.{slots_from}
use Rattle.lent.proofs.table_at.Given as goal

abbrev pub invariant-loop-i : goal.invariant-loop-i
invariant-loop-i l = (l.i ≤ records) × (length l.t ≡ records) × (take l.i l.t ≡ slots_from l.i l.b l.at)
