-- `lent_send::keep` stores the slots that changed, which makes t the new table. The loop has stored those whose bits `left` no longer has. Assumes nothing.
use Rattle.lent_send.proofs.Kept.{Keeps}
use Rattle.lent_send.proofs.keep.Given as goal

abbrev pub invariant-loop-left : goal.invariant-loop-left
invariant-loop-left l = Keeps l.new l.t l.left

abbrev pub decreases-loop-left : goal.decreases-loop-left
decreases-loop-left l = l.left
