-- The reader's promises leave no choice: each law is of the contract itself. Assumes nothing.
use mathlib.Core.Path.{sym, ◌∙◌}
use Rattle.model.specs.Unique.{OneAnswer}
use Rattle.reader.proofs.state_ok.Reads as state-ok
use Rattle.reader.proofs.run_accepted.Reads as run-accepted
use Rattle.reader.proofs.run.Reads as run
use Rattle.reader.proofs.read_one.Reads as read_one
use Rattle.reader.proofs.load.Reads as load
use Rattle.reader.proofs.ask.Reads as ask

pub state_ok_one : OneAnswer state-ok.Learnt
state_ok_one κs a r q s t e g = e ∙ sym g

pub run-accepted_one : OneAnswer run-accepted.Learnt
run-accepted_one κs a r q s t e g = e ∙ sym g

pub run_one : OneAnswer run.Learnt
run_one κs a r q s t e g = e ∙ sym g

pub read_one_one : OneAnswer read_one.Learnt
read_one_one κs a r q s t e g = e ∙ sym g

pub load_one : OneAnswer load.Learnt
load_one κs a r q s t e g = e ∙ sym g

pub ask_one : OneAnswer ask.Learnt
ask_one κs a r q s t e g = e.answer ∙ sym g.answer
