-- `pairing::place` meets its contract. The invariant: the slots before this one have their contacts. Assumes nothing.
use Rattle.pairing.proofs.Placing.{Placing}
use Rattle.pairing.proofs.place.Given as goal

abbrev pub invariant-loop-slot : goal.invariant-loop-slot
invariant-loop-slot l = Placing l.live l.pairing l.left l.out l.paired l.fresh l.slot
