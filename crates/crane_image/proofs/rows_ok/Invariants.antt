-- `crane_image::rows_ok` tells whether every row is good. The loop has passed i good rows. Assumes nothing.
use mathlib.Core.Path.{◌≡◌}
use Prim.Native.Nat.{◌-◌, ◌*◌}
use Rattle.model.specs.Panel.{crane_per_slot}
use Rattle.model.specs.Table.{good_records}
use Rattle.model.specs.Frame.{rows_from}
use Rattle.crane_panel.specs.Seen.{fields_of}
use Rattle.crane_image.proofs.rows_ok.Given as goal

abbrev pub invariant-loop-i : goal.invariant-loop-i
invariant-loop-i l = good_records (fields_of l.setup) l.setup.n (rows_from crane_per_slot l.setup.n l.image 0) ≡ good_records (fields_of l.setup) (l.setup.n - l.i) (rows_from crane_per_slot (l.setup.n - l.i) l.image (crane_per_slot * l.i))
