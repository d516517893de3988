-- `packets::contact_ok`: whether a frame may have a contact's row. Assumes nothing.
use mathlib.Core.Path.{◌∙◌}
use mir.Syntax.{w32}
use mir.ValLaws.{to_z-of_z}
use Rattle.packets.proofs.Steps.{row_same}
use Rattle.packets.proofs.contact_ok.Goals as goal

pub returns : goal.returns
returns c =
    let s = c in
    let a = s.args in
    c.row_ok.ensures
    ∙ row_same a.setup (to_z-of_z w32 a.x s.ranges.x) (to_z-of_z w32 a.y s.ranges.y) (to_z-of_z w32 a.pressure s.ranges.pressure)
