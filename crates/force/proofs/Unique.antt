-- The force stick's promises leave no choice: each law is of the contract itself. Assumes nothing.
use mathlib.Core.Path.{sym, ◌∙◌}
use Rattle.model.specs.Unique.{OneAnswer, OneLeft}
use Rattle.force.proofs.join.Reads as join
use Rattle.force.proofs.word_of.Reads as word_of
use Rattle.force.proofs.signed_byte.Reads as signed-byte
use Rattle.force.proofs.read.Reads as read
use Rattle.force.proofs.write.Reads as write

pub read_one : OneAnswer read.Learnt
read_one κs a r q s t e g = e.answer ∙ sym g.answer

pub write_one : OneAnswer write.Learnt
write_one κs a r q s t e g = e.answer ∙ sym g.answer

-- Every byte of the buffer.
pub write_left : OneLeft write.Learnt (λ κs s. s.1.0.now)
write_left κs a r q s t e g = e.buffer ∙ sym g.buffer

-- Numbers from bytes, for a program that reads reports in another form.
pub join_one : OneAnswer join.Learnt
join_one κs a r q s t e g = e ∙ sym g

pub word_of_one : OneAnswer word_of.Learnt
word_of_one κs a r q s t e g = e ∙ sym g

pub signed_byte_one : OneAnswer signed-byte.Learnt
signed_byte_one κs a r q s t e g = e ∙ sym g
