-- What is left gets shorter with each part that is put on the page.
use Rattle.std.proofs.Common.{length}
use Rattle.stream.proofs.Out.put.Given as goal

abbrev pub decreases-loop-rest : goal.decreases-loop-rest
decreases-loop-rest l = length l.rest
