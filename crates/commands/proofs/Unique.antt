-- The promises of the commands leave no choice: each law is of the contract itself. Assumes nothing.
use mathlib.Core.Path.{sym, ◌∙◌}
use Rattle.model.specs.Unique.{OneAnswer, OneLeft}
use Rattle.commands.proofs.read.Reads as read
use Rattle.commands.proofs.size_of.Reads as size_of
use Rattle.commands.proofs.write.Reads as write

pub read_one : OneAnswer read.Learnt
read_one κs a r q s t e g = e.answer ∙ sym g.answer

pub size_of_one : OneAnswer size_of.Learnt
size_of_one κs a r q s t e g = e ∙ sym g

pub write_one : OneAnswer write.Learnt
write_one κs a r q s t e g = e.answer ∙ sym g.answer

-- Every byte of the buffer.
pub write_left : OneLeft write.Learnt (λ κs s. s.1.1.0.now)
write_left κs a r q s t e g = e.buffer ∙ sym g.buffer
