-- `plan::refused` is the answer to a bad row. Assumes nothing.
use mathlib.Core.Path.{ap}
use mathlib.Core.Bool.{false}
use Rattle.tally.specs.declared.Changed.{Changed}
use Rattle.plan.specs.declared.Planned.{Planned}
use Rattle.plan.proofs.refused.Goals as goal

pub returns : goal.returns
returns c =
    let a = c.args in
    ap {B = Planned} (λ (n : Changed). record { table = a.old; counter = a.counter; changes = n; good = false }) c.none.ensures
