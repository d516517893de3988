-- `lent_pointer::ids_in` has the ids of a table. The loop has taken out i of them. Assumes nothing.
use Prim.Native.Nat.{◌≤◌}
use Rattle.pointer.proofs.Turns.{Copied}
use Rattle.lent.specs.Lent.{table_in}
use Rattle.lent_pointer.proofs.ids_in.Given as goal

abbrev pub invariant-loop-i : goal.invariant-loop-i
invariant-loop-i l = (l.i ≤ l.n) × Copied l.n (table_in l.t) l.l l.i
