-- `lent_writer::all_zero` tells whether every rank is 0. The loop has looked at those below i. Assumes nothing.
use mathlib.Core.Path.{◌≡◌}
use mathlib.Core.Bool.{not, ◌&&◌}
use Prim.Native.Nat.{◌≤◌, ◌-◌}
use lib.ListN.{drop}
use Rattle.model.specs.Panel.{records}
use Rattle.model.specs.Pointing.{zeros}
use Rattle.lent_writer.proofs.all_zero.Given as goal

abbrev pub invariant-loop-i : goal.invariant-loop-i
invariant-loop-i l = (l.i ≤ records) × (zeros records l.ranks ≡ (not l.some && zeros (records - l.i) (drop l.i l.ranks)))
