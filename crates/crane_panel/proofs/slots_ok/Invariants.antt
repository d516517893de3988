-- `crane_panel::slots_ok` tells whether the panel's slots are good. The loop has passed i good ones. Assumes nothing.
use mathlib.Core.Path.{◌≡◌}
use Prim.Native.Nat.{◌-◌}
use lib.ListN.{take, drop}
use Rattle.model.specs.Table.{good_records}
use Rattle.crane_panel.specs.Seen.{table_of, fields_of}
use Rattle.crane_panel.proofs.slots_ok.Given as goal

abbrev pub invariant-loop-i : goal.invariant-loop-i
invariant-loop-i l =
    good_records (fields_of l.setup) l.setup.n (table_of (take l.setup.n l.t)) ≡ good_records (fields_of l.setup) (l.setup.n - l.i) (table_of (drop l.i (take l.setup.n l.t)))
