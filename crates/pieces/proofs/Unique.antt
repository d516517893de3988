-- The promises of a reader that takes pieces leave no choice: each law is of the contract itself. Assumes nothing.
use mathlib.Core.Path.{sym, ◌∙◌}
use Rattle.model.specs.Unique.{OneAnswer}
use Rattle.pieces.proofs.LineState.fresh.Reads as fresh
use Rattle.pieces.proofs.take.Reads as take
use Rattle.pieces.proofs.load.Reads as load
use Rattle.pieces.proofs.ask.Reads as ask

pub fresh_one : OneAnswer fresh.Learnt
fresh_one κs a r q s t e g = e ∙ sym g

pub take_one : OneAnswer take.Learnt
take_one κs a r q s t e g = e ∙ sym g

pub load_one : OneAnswer load.Learnt
load_one κs a r q s t e g = e ∙ sym g

pub ask_one : OneAnswer ask.Learnt
ask_one κs a r q s t e g = e.answer ∙ sym g.answer
