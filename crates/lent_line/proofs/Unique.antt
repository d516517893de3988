-- The promises over lent bytes leave no choice: each law is of the contract itself. Assumes nothing.
use mathlib.Core.Path.{sym, ◌∙◌}
use Rattle.model.specs.Unique.{OneAnswer, OneLeft}
use Rattle.lent_line.proofs.line_fresh.Reads as line-fresh
use Rattle.lent_line.proofs.take.Reads as take
use Rattle.lent_line.proofs.line_load.Reads as line-load
use Rattle.lent_line.proofs.line_ask.Reads as line-ask

-- The number, the state's bytes, and the answer.
pub line-fresh_one : OneAnswer line-fresh.Learnt
line-fresh_one κs a r q s t e g = e.number ∙ sym g.number

pub line-fresh-state : OneLeft line-fresh.Learnt (λ κs s. s.0.now)
line-fresh-state κs a r q s t e g = e.state ∙ sym g.state

pub take_one : OneAnswer take.Learnt
take_one κs a r q s t e g = e.number ∙ sym g.number

pub take-state : OneLeft take.Learnt (λ κs s. s.0.now)
take-state κs a r q s t e g = e.state ∙ sym g.state

pub take-answer : OneLeft take.Learnt (λ κs s. s.1.1.0.now)
take-answer κs a r q s t e g = e.answer ∙ sym g.answer

pub line-load_one : OneAnswer line-load.Learnt
line-load_one κs a r q s t e g = e.number ∙ sym g.number

pub line-load-state : OneLeft line-load.Learnt (λ κs s. s.0.now)
line-load-state κs a r q s t e g = e.state ∙ sym g.state

pub line-ask_one : OneAnswer line-ask.Learnt
line-ask_one κs a r q s t e g = e.number ∙ sym g.number

pub line-ask-answer : OneLeft line-ask.Learnt (λ κs s. s.1.1.0.now)
line-ask-answer κs a r q s t e g = e.answer ∙ sym g.answer
