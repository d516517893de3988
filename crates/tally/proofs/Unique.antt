-- The tally's promises leave no choice: each law is of the contract itself. Assumes nothing.
use mathlib.Core.Path.{sym, ◌∙◌}
use Rattle.model.specs.Unique.{OneAnswer}
use Rattle.tally.proofs.Changed.none.Reads as none
use Rattle.tally.proofs.differ.Reads as differ
use Rattle.tally.proofs.with_slot.Reads as with-slot
use Rattle.tally.proofs.with_changed.Reads as with-changed
use Rattle.tally.proofs.without_current.Reads as without-current
use Rattle.tally.proofs.event_count.Reads as event-count

pub none_one : OneAnswer none.Learnt
none_one κs a r q s t e g = e ∙ sym g

pub differ_one : OneAnswer differ.Learnt
differ_one κs a r q s t e g = e.1 ∙ sym g.1

pub with_slot_one : OneAnswer with-slot.Learnt
with_slot_one κs a r q s t e g = e ∙ sym g

pub with_changed_one : OneAnswer with-changed.Learnt
with_changed_one κs a r q s t e g = e ∙ sym g

pub without-current_one : OneAnswer without-current.Learnt
without-current_one κs a r q s t e g = e ∙ sym g

pub event-count_one : OneAnswer event-count.Learnt
event-count_one κs a r q s t e g = e.0 ∙ sym g.0
