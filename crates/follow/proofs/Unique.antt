-- The run's promises leave no choice: each law is of the contract itself. Assumes nothing.
use mathlib.Core.Path.{sym, ◌∙◌}
use Rattle.model.specs.Unique.{OneAnswer}
use Rattle.follow.proofs.lost.Reads as lost
use Rattle.follow.proofs.counted.Reads as counted
use Rattle.follow.proofs.follow.Reads as follow

pub lost_one : OneAnswer lost.Learnt
lost_one κs a r q s t e g = e ∙ sym g

pub counted_one : OneAnswer counted.Learnt
counted_one κs a r q s t e g = e ∙ sym g

pub follow_one : OneAnswer follow.Learnt
follow_one κs a r q s t e g = e ∙ sym g
