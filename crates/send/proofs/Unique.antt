-- The sending's promises leave no choice: each law is of the contract itself. Assumes nothing.
use mathlib.Core.Path.{sym, ◌∙◌}
use Rattle.model.specs.Unique.{OneAnswer, OneLeft}
use Rattle.send.proofs.send_slots.Reads as send-slots
use Rattle.send.proofs.send_touch.Reads as send-touch
use Rattle.send.proofs.send_end.Reads as send-end

pub send_slots_one : OneAnswer send-slots.Learnt
send_slots_one κs a r q s t e g = λ i. record { end = (e.ends ∙ sym g.ends) i; last = record { 0 = (e.last ∙ sym g.last) i } }

-- Every byte of the buffer.
pub send_slots-left : OneLeft send-slots.Learnt (λ κs s. s.0.now)
send_slots-left κs a r q s t e g = e.bytes ∙ sym g.bytes

pub send_touch_one : OneAnswer send-touch.Learnt
send_touch_one κs a r q s t e g = e.0 ∙ sym g.0

pub send_touch-left : OneLeft send-touch.Learnt (λ κs s. s.0.now)
send_touch-left κs a r q s t e g = e.1 ∙ sym g.1

pub send_end_left : OneLeft send-end.Learnt (λ κs s. s.0.now)
send_end_left κs a r q s t e g = e ∙ sym g
