-- `pairing::fill` meets its contract. The invariant: the tables are those of the old contacts from i on. Assumes nothing.
use Rattle.model.specs.Pairing.{points}
use Rattle.pairing.proofs.Filled.{Filled}
use Rattle.pairing.proofs.fill.Given as goal

abbrev pub invariant-loop-i : goal.invariant-loop-i
invariant-loop-i l = Filled (points l.news 0 l.nx l.ny) l.ox l.oy l.olds l.news l.i l.row l.made
