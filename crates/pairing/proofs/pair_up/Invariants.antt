-- `pairing::pair_up` meets its contract. The invariant: the first i contacts have their choices, and those that are left find the rest. Assumes nothing.
use Rattle.model.specs.Pairing.{points}
use Rattle.pairing.proofs.Walked.{Walked}
use Rattle.pairing.proofs.pair_up.Given as goal

abbrev pub invariant-loop-i : goal.invariant-loop-i
invariant-loop-i l = Walked (points l.news 0 l.nx l.ny) l.ox l.oy l.olds l.news l.out l.free l.i
