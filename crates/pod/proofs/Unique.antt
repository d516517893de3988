-- The pod's promises leave no choice: each law is of the contract itself. Assumes nothing.
use mathlib.Core.Path.{sym, ◌∙◌}
use Rattle.model.specs.Unique.{OneAnswer}
use Rattle.pod.proofs.PodState.fresh.Reads as fresh
use Rattle.pod.proofs.well_formed.Reads as well-formed
use Rattle.pod.proofs.clock_ok.Reads as clock-ok
use Rattle.pod.proofs.step.Reads as step

pub fresh_one : OneAnswer fresh.Learnt
fresh_one κs a r q s t e g = e ∙ sym g

pub well_formed_one : OneAnswer well-formed.Learnt
well_formed_one κs a r q s t e g = e ∙ sym g

pub clock_ok_one : OneAnswer clock-ok.Learnt
clock_ok_one κs a r q s t e g = e ∙ sym g

pub step_one : OneAnswer step.Learnt
step_one κs a r q s t e g = e.answer ∙ sym g.answer
