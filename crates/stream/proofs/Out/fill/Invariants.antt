-- The loop has put `n` bytes at the buffer's start.
use Rattle.std.proofs.Common.{◌-◌, ◌≤◌, length}
use Rattle.stream.proofs.Out.fill.Given as goal

abbrev pub invariant-loop-n : goal.invariant-loop-n
invariant-loop-n l = l.n ≤ length l.buf

abbrev pub decreases-loop-n : goal.decreases-loop-n
decreases-loop-n l = length l.initial.buf - l.n
