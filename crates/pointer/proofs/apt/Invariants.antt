-- `pointer::apt` tells whether ranks and told numbers are as the table has them. The loop has taken out i ids. Assumes nothing.
use Rattle.pointer.proofs.Turns.{Copied}
use Rattle.pointer.proofs.apt.Given as goal

abbrev pub invariant-loop-i : goal.invariant-loop-i
invariant-loop-i l = Copied l.n l.t l.ids l.i
