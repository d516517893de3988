-- `pointer::goes_on` tells whether a contact goes on, by its id before and after. Assumes nothing.
use mathlib.Core.Path.{◌∙◌, ap, ap₂}
use mathlib.Core.Bool.{◌&&◌}
use mir.Syntax.{w32}
use mir.ValLaws.{to_z-of_z}
use Rattle.model.specs.Numbers.{eq_z}
use Rattle.model.specs.Table.{live}
use Rattle.pointer.proofs.goes_on.Goals as goal

pub returns : goal.returns
returns c =
    let s = c in
    let was = to_z-of_z w32 s.args.was s.ranges.was in
    let is = to_z-of_z w32 s.args.is s.ranges.is in
    ap₂ (λ x y. x && y) (c.lives.ensures ∙ ap live is) (c.same.ensures ∙ ap₂ eq_z was is)
