-- The recorder's promises leave no choice: each law is of the contract itself. Assumes nothing.
use mathlib.Core.Path.{sym, ◌∙◌}
use Rattle.model.specs.Unique.{OneAnswer, OneLeft}
use Rattle.recorder.proofs.make_block.Reads as make-block
use Rattle.recorder.proofs.lay_blocks.Reads as lay-blocks
use Rattle.recorder.proofs.read_block.Reads as read-block

pub make_block_one : OneAnswer make-block.Learnt
make_block_one κs a r q s t e g = e ∙ sym g

pub lay-blocks_one : OneAnswer lay-blocks.Learnt
lay-blocks_one κs a r q s t e g = e.answer ∙ sym g.answer

-- Every byte of the buffer.
pub lay-blocks-left : OneLeft lay-blocks.Learnt (λ κs s. s.1.1.0.now)
lay-blocks-left κs a r q s t e g = e.buffer ∙ sym g.buffer

pub read-block_one : OneAnswer read-block.Learnt
read-block_one κs a r q s t e g = e.answer ∙ sym g.answer
