-- `pieces::left_of`: the bytes after the last whole record, laid over zeros. Assumes nothing.
use mathlib.Core.Path.{◌≡◌, ap, ◌∙◌}
use Prim.Native.Nat.{ℕ, ◌-◌, ◌*◌, ◌/◌}
use native.Mathlib.Omega.{arith}
use lib.ListN.{length, take, drop, replicate, length-drop}
use lib.Seq.{paste, take_all}
use Rattle.model.specs.Pieces.{places, left_bytes}
use Rattle.model.proofs.Pieces.{left-few}
use Rattle.pieces.proofs.Laid.{start-laid}
use Rattle.pieces.proofs.left_of.Goals as goal

pub returns : goal.returns
returns c =
    let rest = c.args.rest.now in
    let w = 8 * (length rest / 8) in
    let part : take (length rest - w) (drop w rest) ≡ left_bytes rest = take_all (length rest - w) (drop w rest) (omega (arith, length-drop w rest)) in
    c.lay.ensures ∙ ap (λ l. paste (replicate {A = ℕ} places 0) 0 l (length l)) part ∙ start-laid (left_bytes rest) (left-few rest)
