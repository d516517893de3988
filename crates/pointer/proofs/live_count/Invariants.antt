-- `pointer::live_count` counts live ids. The loop has counted those of the first i. Assumes nothing.
use mathlib.Core.Path.{◌≡◌}
use Prim.Native.Nat.{◌≤◌, ◌+◌}
use lib.ListN.{drop}
use Rattle.model.specs.Ranks.{live_count}
use Rattle.pointer.proofs.live_count.Given as goal

abbrev pub invariant-loop-i : goal.invariant-loop-i
invariant-loop-i l = (l.i ≤ l.n) × (l.count ≤ l.i) × (live_count l.ids ≡ l.count + live_count (drop l.i l.ids))
