-- The promises of the calls over lent bytes leave no choice: each law is of the contract itself. Assumes nothing.
use mathlib.Core.Path.{sym, ◌∙◌}
use Rattle.model.specs.Unique.{OneAnswer, OneLeft}
use Rattle.lent_writer.proofs.fresh.Reads as fresh
use Rattle.lent_writer.proofs.write.Reads as write
use Rattle.lent_writer.proofs.write_anonymous.Reads as write-anonymous

-- The number.
pub fresh_one : OneAnswer fresh.Learnt
fresh_one κs a r q s t e g = e.number ∙ sym g.number

pub write_one : OneAnswer write.Learnt
write_one κs a r q s t e g = e.number ∙ sym g.number

pub write_anonymous_one : OneAnswer write-anonymous.Learnt
write_anonymous_one κs a r q s t e g = e.number ∙ sym g.number

-- Every byte of the state.
pub fresh-state : OneLeft fresh.Learnt (λ κs s. s.0.now)
fresh-state κs a r q s t e g = e.state ∙ sym g.state

pub write_state : OneLeft write.Learnt (λ κs s. s.0.now)
write_state κs a r q s t e g = e.state ∙ sym g.state

pub write_anonymous_state : OneLeft write-anonymous.Learnt (λ κs s. s.0.now)
write_anonymous_state κs a r q s t e g = e.state ∙ sym g.state

-- Every byte of the buffer.
pub write_left : OneLeft write.Learnt (λ κs s. s.1.1.0.now)
write_left κs a r q s t e g = e.buffer ∙ sym g.buffer

pub write_anonymous_left : OneLeft write-anonymous.Learnt (λ κs s. s.1.1.0.now)
write_anonymous_left κs a r q s t e g = e.buffer ∙ sym g.buffer

-- The count, the need and the changed slots.
pub write_told : OneLeft write.Learnt (λ κs s. s.1.1.1.1.0.now)
write_told κs a r q s t e g = e.answer ∙ sym g.answer

pub write_anonymous_told : OneLeft write-anonymous.Learnt (λ κs s. s.1.1.1.1.0.now)
write_anonymous_told κs a r q s t e g = e.answer ∙ sym g.answer
