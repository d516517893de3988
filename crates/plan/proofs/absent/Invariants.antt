-- `plan::absent` tells whether a number is none of the taken ids. The loop has compared the first; `found`: it was one of those. Assumes nothing.
use mathlib.Core.Path.{◌≡◌}
use mathlib.Core.Bool.{not, ◌&&◌}
use Prim.Native.Nat.{◌≤◌}
use lib.ListN.{length, drop}
use Rattle.model.specs.Table.{unheld}
use Rattle.plan.proofs.absent.Given as goal

abbrev pub invariant-loop-id : goal.invariant-loop-id
invariant-loop-id l = (l.id-index ≤ length l.taken) × (unheld l.v.0 l.taken ≡ (not l.found && unheld l.v.0 (drop l.id-index l.taken)))
