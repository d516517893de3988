-- `pairing::left_of` meets its contract. The invariant: those below c that are left over stand in front. Assumes nothing.
use Rattle.pairing.proofs.Lefts.{Lefts}
use Rattle.pairing.proofs.left_of.Given as goal

abbrev pub invariant-loop-c : goal.invariant-loop-c
invariant-loop-c l = Lefts l.pairing l.news l.left l.count l.c
