-- `pairing::turn` meets its contract. The invariant: the sets from `free` on are made, and the smaller ones as they were. Assumes nothing.
use Rattle.pairing.proofs.Rows.{Part}
use Rattle.pairing.proofs.turn.Given as goal

abbrev pub invariant-loop-free : goal.invariant-loop-free
invariant-loop-free l = Part l.offers l.initial.row l.row l.initial.made l.made l.i l.all l.free
