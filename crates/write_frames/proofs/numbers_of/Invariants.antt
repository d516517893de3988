-- `write_frames::numbers_of` stays inside its bytes and numbers. Assumes nothing.
use Rattle.std.proofs.Common.{◌*◌, ◌≤◌, length}
use Rattle.model.specs.Panel.{per_slot, records}
use Rattle.write_frames.proofs.numbers_of.Given as goal

abbrev pub invariant-loop-i : goal.invariant-loop-i
invariant-loop-i l = (4 * l.count ≤ length l.bytes) × (l.count ≤ per_slot * records)
