-- `pointer::lives` tells whether an id is live. Assumes nothing.
use mathlib.Core.Path.{◌∙◌, ap}
use mathlib.Core.Bool.{not}
use mir.Syntax.{w32}
use mir.ValLaws.{to_z-of_z}
use Rattle.model.specs.Numbers.{eq_z, minus_one}
use Rattle.pointer.proofs.lives.Goals as goal

pub returns : goal.returns
returns c = ap not (c.same.ensures ∙ ap (λ z. eq_z z minus_one) (to_z-of_z w32 c.args.id c.ranges.id))
