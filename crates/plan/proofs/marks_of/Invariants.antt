-- `plan::marks_of` has a bit for each id. The loop has put in the bits of the first. Assumes nothing.
use Prim.Native.Nat.{◌≤◌}
use lib.ListN.{length, take}
use Rattle.common.specs.Marks.{Met}
use Rattle.plan.proofs.marks_of.Given as goal

abbrev pub invariant-loop-id : goal.invariant-loop-id
invariant-loop-id l = (l.id-index ≤ length l.ids) × Met l.held (take l.id-index l.ids)
