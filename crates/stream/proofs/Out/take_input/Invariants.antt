-- The bytes that were not used lie at the front of the buffer, fewer than what a call leaves at most, and the program's part may be called again.
use Rattle.std.proofs.Common.{◌≤◌, ◌<◌, ◌+◌, ℕ, length}
use denote.Param.Always.{always_mut}
use Rattle.stream.proofs.Out.take_input.Given as goal

abbrev pub invariant-loop : goal.invariant-loop
invariant-loop g l = (l.held ≤ length l.buf) × (always_mut g.F.FnMut l.initial.take → always_mut g.F.FnMut l.take)
    × ((k : ℕ) → ((f : _) (out : _) (bytes : _) (n : ℕ) (after : _) (next : _) → goal.F-step g f out bytes n after next → length bytes.now < n + k) → 0 < k → l.held < k)
