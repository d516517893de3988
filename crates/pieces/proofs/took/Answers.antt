-- `pieces::took`: the run's state, the bytes after its last record in their places, and the counts added up. Assumes nothing.
use mathlib.Core.Path.{◌≡◌}
use Prim.Native.Nat.{◌*◌, ◌/◌, ◌%◌}
use native.Mathlib.Omega.{arith}
use lib.ListN.{length, length-drop}
use Rattle.model.specs.Pieces.{left_bytes}
use Rattle.pieces.proofs.took.Goals as goal

pub returns : goal.returns
returns c =
    let rest = c.args.rest.now in
    let few : length rest % 8 ≡ length (left_bytes rest) = omega (arith, length-drop (8 * (length rest / 8)) rest) in
    rw (c.left_of.ensures, c.added.ensures, few)
