-- `packets::begun`: whether a number of a packet was told. Assumes nothing.
use mathlib.Core.Path.{◌∙◌}
use Rattle.std.proofs.Math.Bool.{or_assoc}
use Rattle.packets.proofs.Steps.{some_told}
use Rattle.packets.proofs.begun.Goals as goal

pub returns : goal.returns
returns c =
    let a = c.args in
    or_assoc a.x.told a.y.told a.pressure.told ∙ some_told a.x.told a.y.told a.pressure.told _ _ _
