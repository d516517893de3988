-- `lent_reader::tables_same`: the two tables, byte by byte. The loop has compared i bytes; that they are bytes is known once one was read. Assumes nothing.
use Prim.Native.Nat.{◌<◌}
use Rattle.lent.specs.Lent.{Bytes}
use Rattle.lent_reader.proofs.Judged.{Compared}
use Rattle.lent_reader.proofs.tables_same.Given as goal

abbrev pub invariant-loop-i : goal.invariant-loop-i
invariant-loop-i l = Compared l.b l.same l.i × (0 < l.i → Bytes l.b)
