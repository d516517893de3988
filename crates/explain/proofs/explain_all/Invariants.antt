-- What is left gets shorter with each piece that is taken.
use Rattle.std.proofs.Common.{length}
use Rattle.explain.proofs.explain_all.Given as goal

abbrev pub decreases-loop-rest : goal.decreases-loop-rest
decreases-loop-rest l = length l.rest
