-- The bytes that are left lead from the state so far to the same state.
use Rattle.std.proofs.Common.{◌≡◌, drop}
use Rattle.pod.specs.Seen.{state_after}
use Rattle.words.proofs.feed.Given as goal

abbrev pub invariant-loop-byte : goal.invariant-loop-byte
invariant-loop-byte l = state_after l.fn.begun l.bytes ≡ state_after l.state (drop l.byte-index l.bytes)
