-- `packets::read_packets`: the contacts of a type A frame, in one walk over its records. Assumes nothing.
use Rattle.packets.proofs.Turns.{Read}
use Rattle.packets.proofs.read_packets.Given as goal

abbrev pub invariant-loop-k : goal.invariant-loop-k
invariant-loop-k l = Read l.bytes l.x l.y l.pressure l.w l.k
