-- `lent_follow::show_all`: the pending table over the shown one. The loop has copied i bytes. Assumes nothing.
use Rattle.lent.specs.Lent.{table_size}
use Rattle.lent_follow.proofs.Copied.{Copied}
use Rattle.lent_follow.proofs.show_all.Given as goal

abbrev pub invariant-loop-i : goal.invariant-loop-i
invariant-loop-i l = Copied table_size 0 l.initial.t l.t l.i
