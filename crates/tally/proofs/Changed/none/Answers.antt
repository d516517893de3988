-- `Changed::none` tells of no change. Assumes nothing.
use mathlib.Core.Path.{refl}
use Rattle.tally.proofs.Changed.none.Goals as goal

pub returns : goal.returns
returns c = refl
