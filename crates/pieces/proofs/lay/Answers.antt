-- `pieces::lay`: the part that is written holds the bytes that were passed. Assumes nothing.
use mathlib.Core.Path.{◌≡◌}
use mathlib.Core.List.{append_assoc}
use Prim.Native.Nat.{◌+◌, ◌-◌}
use native.Mathlib.Omega.{arith}
use lib.ListN.{length}
use lib.Seq.{take-length, drop-drop}
use Rattle.pieces.proofs.lay.Goals as goal

pub returns : goal.returns
returns c =
    let at = c.args.at in
    let to = c.args.to.now in
    let from = c.args.from.now in
    let n : at + length from - at ≡ length from = omega arith in
    rw (c.copy_from_slice.ensures.after, n) (simp (take-length, append_assoc, drop-drop))
