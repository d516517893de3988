-- The promises on lent bytes leave no choice: each law is of the contract itself. Assumes nothing.
use mathlib.Core.Path.{sym, ◌∙◌}
use Rattle.model.specs.Unique.{OneAnswer, OneLeft}
use Rattle.lent.proofs.put_word.Reads as put_word
use Rattle.lent.proofs.slot_at.Reads as slot_at
use Rattle.lent.proofs.put_slot.Reads as put-slot
use Rattle.lent.proofs.setup_at.Reads as setup-at
use Rattle.lent.proofs.put_setup.Reads as put-setup
use Rattle.lent.proofs.table_at.Reads as table_at
use Rattle.lent.proofs.put_table.Reads as put-table
use Rattle.lent.proofs.copy_of.Reads as copy_of

pub slot-at_one : OneAnswer slot_at.Learnt
slot-at_one κs a r q s t e g = e ∙ sym g

pub setup-at_one : OneAnswer setup-at.Learnt
setup-at_one κs a r q s t e g = e ∙ sym g

pub table-at_one : OneAnswer table_at.Learnt
table-at_one κs a r q s t e g = e ∙ sym g

pub copy_of_one : OneAnswer copy_of.Learnt
copy_of_one κs a r q s t e g = e ∙ sym g

-- These answer nothing; every byte that is lent.
pub put_word-left : OneLeft put_word.Learnt (λ κs s. s.0.now)
put_word-left κs a r q s t e g = e ∙ sym g

pub put_slot-left : OneLeft put-slot.Learnt (λ κs s. s.0.now)
put_slot-left κs a r q s t e g = e ∙ sym g

pub put_setup-left : OneLeft put-setup.Learnt (λ κs s. s.0.now)
put_setup-left κs a r q s t e g = e ∙ sym g

pub put_table-left : OneLeft put-table.Learnt (λ κs s. s.0.now)
put_table-left κs a r q s t e g = e ∙ sym g
