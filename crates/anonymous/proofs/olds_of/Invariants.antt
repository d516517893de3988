-- `anonymous::olds_of` gathers a table's contacts. The loop has gone through s records. Assumes nothing.
use Rattle.anonymous.proofs.Gathered.{Gathered}
use Rattle.anonymous.proofs.olds_of.Given as goal

abbrev pub invariant-loop-s : goal.invariant-loop-s
invariant-loop-s l = Gathered l.t l.x l.y l.live l.count l.s
