-- The promises leave no choice: each law is of the contract itself. Assumes nothing.
use mathlib.Core.Path.{sym, ◌∙◌}
use Rattle.model.specs.Unique.{OneAnswer, OneLeft}
use Rattle.lent_send.proofs.send_slots.Reads as send-slots
use Rattle.lent_send.proofs.keep.Reads as keep

pub send_slots_one : OneAnswer send-slots.Learnt
send_slots_one κs a r q s t e g = λ i. record { end = (e.ends ∙ sym g.ends) i; last = record { 0 = (e.last ∙ sym g.last) i } }

-- Every byte of the buffer.
pub send_slots-left : OneLeft send-slots.Learnt (λ κs s. s.0.now)
send_slots-left κs a r q s t e g = e.bytes ∙ sym g.bytes

-- Every byte of the table.
pub keep_left : OneLeft keep.Learnt (λ κs s. s.0.now)
keep_left κs a r q s t e g = e ∙ sym g
