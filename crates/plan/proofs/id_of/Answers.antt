-- `plan::id_of` is a number below 65,536 as an id. Assumes nothing.
use native.Mathlib.Omega.{arith}
use mir.Syntax.{w32}
use mir.ValLaws.{to_z_pos}
use Rattle.plan.proofs.id_of.Goals as goal

pub returns : goal.returns
returns c =
    let e = to_z_pos w32 c.args.k (omega arith) in
    λ t. record { 0 = e t }
