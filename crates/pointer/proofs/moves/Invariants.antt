-- `pointer::moves` are the ranks after a frame, and what the display is to be told. The loop has taken i ids out of both tables. Assumes nothing.
use Rattle.pointer.proofs.Turns.{Copied}
use Rattle.pointer.proofs.moves.Given as goal

abbrev pub invariant-loop-i : goal.invariant-loop-i
invariant-loop-i l = Copied l.n l.old l.was l.i × Copied l.n l.new l.is l.i
