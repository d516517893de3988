-- `hold_to_lift::may_lift` lifts at a contact only: each answer is told apart, and what `ask` promised of it is what lifts. Assumes nothing.
use mathlib.Core.Path.{sym, ap, ◌∙◌}
use Rattle.hold_to_lift.specs.Key.{lifts}
use Rattle.hold_to_lift.proofs.may_lift.Goals as goal

pub returns-in-Contact : goal.returns-in-Contact
returns-in-Contact c = ap lifts (sym c.in-Contact.is ∙ c.ask.ensures.answer)

pub returns-in-Empty : goal.returns-in-Empty
returns-in-Empty c = ap lifts (sym c.in-Empty.is ∙ c.ask.ensures.answer)

pub returns-in-Unknown : goal.returns-in-Unknown
returns-in-Unknown c = ap lifts (sym c.in-Unknown.is ∙ c.ask.ensures.answer)

pub returns-in-NoSuchSlot : goal.returns-in-NoSuchSlot
returns-in-NoSuchSlot c = ap lifts (sym c.in-NoSuchSlot.is ∙ c.ask.ensures.answer)

pub returns-in-Refused : goal.returns-in-Refused
returns-in-Refused c = ap lifts (sym c.in-Refused.is ∙ c.ask.ensures.answer)
