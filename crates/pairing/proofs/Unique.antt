-- The pairing's promises leave no choice: each law is of the contract itself. Assumes nothing.
use mathlib.Core.Path.{sym, ◌∙◌}
use Rattle.model.specs.Unique.{OneAnswer}
use Rattle.pairing.proofs.pair_up.Reads as pair-up
use Rattle.pairing.proofs.place.Reads as place

pub pair_up_one : OneAnswer pair-up.Learnt
pair_up_one κs a r q s t e g = e ∙ sym g

pub place_one : OneAnswer place.Learnt
place_one κs a r q s t e g = e ∙ sym g
