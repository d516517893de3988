-- The promises of the lent devices leave no choice: each law is of the contract itself. Assumes nothing.
use mathlib.Core.Path.{sym, ◌∙◌}
use Rattle.model.specs.Unique.{OneAnswer, OneLeft}
use Rattle.lent_devices.proofs.make_block.Reads as make-block
use Rattle.lent_devices.proofs.lay_blocks.Reads as lay-blocks
use Rattle.lent_devices.proofs.read_block.Reads as read-block
use Rattle.lent_devices.proofs.force_write.Reads as force-write
use Rattle.lent_devices.proofs.force_read.Reads as force-read

pub make_block_one : OneAnswer make-block.Learnt
make_block_one κs a r q s t e g = e.number ∙ sym g.number

-- Every byte of the lent block.
pub make_block-left : OneLeft make-block.Learnt (λ κs s. s.1.1.0.now)
make_block-left κs a r q s t e g = e.block ∙ sym g.block

pub lay-blocks_one : OneAnswer lay-blocks.Learnt
lay-blocks_one κs a r q s t e g = e.number ∙ sym g.number

-- Every byte of the buffer,
pub lay-blocks-left : OneLeft lay-blocks.Learnt (λ κs s. s.1.1.0.now)
lay-blocks-left κs a r q s t e g = e.buffer ∙ sym g.buffer

-- and every number of the answer.
pub lay-blocks-answer : OneLeft lay-blocks.Learnt (λ κs s. s.1.1.1.1.0.now)
lay-blocks-answer κs a r q s t e g = e.answer ∙ sym g.answer

pub read-block_one : OneAnswer read-block.Learnt
read-block_one κs a r q s t e g = e.number ∙ sym g.number

pub read-block-answer : OneLeft read-block.Learnt (λ κs s. s.1.1.0.now)
read-block-answer κs a r q s t e g = e.answer ∙ sym g.answer

pub force_write_one : OneAnswer force-write.Learnt
force_write_one κs a r q s t e g = e.number ∙ sym g.number

pub force_write_left : OneLeft force-write.Learnt (λ κs s. s.1.0.now)
force_write_left κs a r q s t e g = e.buffer ∙ sym g.buffer

pub force_write_answer : OneLeft force-write.Learnt (λ κs s. s.1.1.1.0.now)
force_write_answer κs a r q s t e g = e.answer ∙ sym g.answer

pub force_read_one : OneAnswer force-read.Learnt
force_read_one κs a r q s t e g = e.next ∙ sym g.next

pub force_read-answer : OneLeft force-read.Learnt (λ κs s. s.1.1.0.now)
force_read-answer κs a r q s t e g = e.answer ∙ sym g.answer
