-- `packets::finished`: the answer at the end of the walk. Assumes nothing.
use mathlib.Core.Bool.{not}
use Rattle.std.proofs.Math.Bool.{and_assoc}
use Rattle.packets.specs.Walk.{walk_of}
use Rattle.packets.proofs.Steps.{ended_as}
use Rattle.packets.proofs.finished.Goals as goal

pub returns : goal.returns
returns c =
    let s = c.args in
    rw (and_assoc s.w.sound s.w.ended (not c.begun-open.result)) (ended_as (walk_of s.w) s.x s.y s.pressure c.begun-open.result c.begun-open.ensures)
