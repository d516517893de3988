-- The promises leave no choice: each law is of the contract itself. Assumes nothing.
use mathlib.Core.Path.{sym, ◌∙◌}
use Rattle.model.specs.Unique.{OneAnswer, OneLeft}
use Rattle.anonymous.proofs.read_frame.Reads as read-frame
use Rattle.anonymous.proofs.write.Reads as write

pub read-frame_one : OneAnswer read-frame.Learnt
read-frame_one κs a r q s t e g = e ∙ sym g

pub write_one : OneAnswer write.Learnt
write_one κs a r q s t e g = e.0 ∙ sym g.0

-- Every byte of the buffer.
pub write_left : OneLeft write.Learnt (λ κs s. s.1.1.0.now)
write_left κs a r q s t e g = e.1 ∙ sym g.1
