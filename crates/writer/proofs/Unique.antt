-- The writer's promises leave no choice: each law is of the contract itself. Assumes nothing.
use mathlib.Core.Path.{sym, ◌∙◌}
use Rattle.model.specs.Unique.{OneAnswer, OneLeft}
use Rattle.writer.proofs.WriterState.fresh.Reads as fresh
use Rattle.writer.proofs.state_ok.Reads as state-ok
use Rattle.writer.proofs.refused.Reads as refused
use Rattle.writer.proofs.write.Reads as write

pub fresh_one : OneAnswer fresh.Learnt
fresh_one κs a r q s t e g = e ∙ sym g

pub state_ok_one : OneAnswer state-ok.Learnt
state_ok_one κs a r q s t e g = e ∙ sym g

pub refused_one : OneAnswer refused.Learnt
refused_one κs a r q s t e g = e ∙ sym g

pub write_one : OneAnswer write.Learnt
write_one κs a r q s t e g = e.0 ∙ sym g.0

-- Every byte of the buffer.
pub write_left : OneLeft write.Learnt (λ κs s. s.1.1.0.now)
write_left κs a r q s t e g = e.1 ∙ sym g.1
