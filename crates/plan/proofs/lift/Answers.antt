-- `plan::lift` is a slot without a contact. Assumes nothing.
use mathlib.Core.Path.{refl}
use Rattle.plan.proofs.lift.Goals as goal

pub returns : goal.returns
returns c = refl
