-- `pointer::oldest_slot` is the first live slot of rank 0, or 0. The loop has passed i slots without one. Assumes nothing.
use mathlib.Core.Path.{◌≡◌}
use Prim.Native.Nat.{◌≤◌, ◌+◌}
use lib.ListN.{drop}
use Rattle.model.specs.Pointer.{oldest_slot}
use Rattle.pointer.proofs.oldest_slot.Given as goal

abbrev pub invariant-loop-i : goal.invariant-loop-i
invariant-loop-i l = (l.i ≤ l.n) × (oldest_slot l.ids l.ranks ≡ l.i + oldest_slot (drop l.i l.ids) (drop l.i l.ranks))
