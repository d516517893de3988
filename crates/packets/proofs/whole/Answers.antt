-- `packets::whole`: whether no number of a packet lacks. Assumes nothing.
use mathlib.Core.Path.{◌∙◌}
use Rattle.std.proofs.Math.Bool.{and_assoc}
use Rattle.packets.proofs.Steps.{all_told}
use Rattle.packets.proofs.whole.Goals as goal

pub returns : goal.returns
returns c =
    let a = c.args in
    and_assoc a.x.told a.y.told a.pressure.told ∙ all_told a.x.told a.y.told a.pressure.told _ _ _
