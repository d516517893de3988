-- `pod::PodState::emptied` meets its contract: its places and its count compute to those of the model's state that holds nothing.
-- Cited by the proofs of its callers; assumes nothing.
use mathlib.Core.Path.{refl}
use Rattle.pod.proofs.PodState.emptied.Goals as goal

pub returns : goal.returns
returns c = refl
