-- What is seen of a writer's state and held again is the state, whatever it holds: so a refusal hands it back. Cited by the proofs here. Assumes nothing.
use mathlib.Core.Path.{◌≡◌, ap}
use Rattle.panel.proofs.Back.{table_back}
use Rattle.writer.specs.declared.WriterState.{WriterState}
use Rattle.writer.specs.Seen.{seen, held}

pub state_back : (s : WriterState) → held (seen s) ≡ s
state_back s =
    ap (λ t. record { table = t; ranks = s.ranks; setup = s.setup; current = s.current; counter = s.counter; told = s.told; pointer = s.pointer })
    (table_back s.table)
