-- The promises on type A frames leave no choice: each law is of the contract itself. Assumes nothing.
use mathlib.Core.Path.{sym, ◌∙◌}
use Rattle.model.specs.Unique.{OneAnswer}
use Rattle.packets.proofs.read_packets.Reads as read-packets
use Rattle.packets.proofs.values_ok.Reads as values-ok

pub read_packets_one : OneAnswer read-packets.Learnt
read_packets_one κs a r q s t e g = e ∙ sym g

pub values_ok_one : OneAnswer values-ok.Learnt
values_ok_one κs a r q s t e g = e ∙ sym g
