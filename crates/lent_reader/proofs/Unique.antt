-- The promises over lent bytes leave no choice: each law is of the contract itself. Assumes nothing.
use mathlib.Core.Path.{sym, ◌∙◌}
use Rattle.model.specs.Unique.{OneAnswer, OneLeft}
use Rattle.lent_reader.proofs.begun.Reads as begun
use Rattle.lent_reader.proofs.unpacked.Reads as unpacked
use Rattle.lent_reader.proofs.put_state.Reads as put-state
use Rattle.lent_reader.proofs.put_counts.Reads as put-counts
use Rattle.lent_reader.proofs.put_answer.Reads as put-answer
use Rattle.lent_reader.proofs.reader_fresh.Reads as reader-fresh
use Rattle.lent_reader.proofs.run.Reads as run
use Rattle.lent_reader.proofs.load.Reads as load
use Rattle.lent_reader.proofs.ask.Reads as ask

pub begun_one : OneAnswer begun.Learnt
begun_one κs a r q s t e g = e ∙ sym g

pub unpacked_one : OneAnswer unpacked.Learnt
unpacked_one κs a r q s t e g = e ∙ sym g

-- These answer nothing; every byte of the buffer, and every number.
pub put_state-left : OneLeft put-state.Learnt (λ κs s. s.0.now)
put_state-left κs a r q s t e g = e ∙ sym g

pub put_counts-left : OneLeft put-counts.Learnt (λ κs s. s.0.now)
put_counts-left κs a r q s t e g = e ∙ sym g

pub put_answer_one : OneAnswer put-answer.Learnt
put_answer_one κs a r q s t e g = e.0 ∙ sym g.0

pub put_answer-left : OneLeft put-answer.Learnt (λ κs s. s.0.now)
put_answer-left κs a r q s t e g = e.1 ∙ sym g.1

-- ---- the calls: the number, the state's bytes, and the answer

pub reader-fresh_one : OneAnswer reader-fresh.Learnt
reader-fresh_one κs a r q s t e g = e.number ∙ sym g.number

pub reader-fresh-state : OneLeft reader-fresh.Learnt (λ κs s. s.0.now)
reader-fresh-state κs a r q s t e g = e.state ∙ sym g.state

pub run_one : OneAnswer run.Learnt
run_one κs a r q s t e g = e.number ∙ sym g.number

pub run-state : OneLeft run.Learnt (λ κs s. s.0.now)
run-state κs a r q s t e g = e.state ∙ sym g.state

pub run-answer : OneLeft run.Learnt (λ κs s. s.1.1.0.now)
run-answer κs a r q s t e g = e.answer ∙ sym g.answer

pub load_one : OneAnswer load.Learnt
load_one κs a r q s t e g = e.number ∙ sym g.number

pub load-state : OneLeft load.Learnt (λ κs s. s.0.now)
load-state κs a r q s t e g = e.state ∙ sym g.state

pub ask_one : OneAnswer ask.Learnt
ask_one κs a r q s t e g = e.number ∙ sym g.number

pub ask-answer : OneLeft ask.Learnt (λ κs s. s.1.1.0.now)
ask-answer κs a r q s t e g = e.answer ∙ sym g.answer
