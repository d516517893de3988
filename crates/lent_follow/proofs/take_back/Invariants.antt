-- `lent_follow::take_back`: the shown table over the pending one. The loop has copied i bytes. Assumes nothing.
use Rattle.lent.specs.Lent.{table_size}
use Rattle.lent_follow.proofs.Copied.{Copied}
use Rattle.lent_follow.proofs.take_back.Given as goal

abbrev pub invariant-loop-i : goal.invariant-loop-i
invariant-loop-i l = Copied 0 table_size l.initial.t l.t l.i
