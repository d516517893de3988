-- `pointer::clear` tells whether nothing is ranked and nothing was told. Assumes nothing.
use mathlib.Core.Path.{ap₂}
use mathlib.Core.Bool.{◌&&◌}
use Rattle.pointer.proofs.clear.Goals as goal

pub returns : goal.returns
returns c = ap₂ (λ a b. a && b) c.zero_from.ensures c.pointers_same.ensures
