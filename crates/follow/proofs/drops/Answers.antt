-- `follow::drops`: the end of a run at a bad value or a loss. Assumes nothing.
use Prim.Native.Nat.{◌+◌}
use Rattle.model.specs.Reader.{dropped}
use Rattle.follow.specs.Runs.{left_from, so_far}
use Rattle.follow.proofs.Ends.{counts-told}
use Rattle.follow.proofs.drops.Goals as goal

pub returns : goal.returns
returns c =
    let a = c.args in
    let bs = a.bytes.now in
    let x = so_far bs a.so a.bad in
    counts-told a.shown (record { 0 = a.current }) dropped _ x (left_from bs (a.k + 1)) _ c.lost.ensures c.counted.ensures
