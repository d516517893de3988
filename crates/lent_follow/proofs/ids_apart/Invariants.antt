-- `lent_follow::ids_apart` tells whether live ids of the pending table differ. The loop has walked over those below k, unless low bits met. Assumes nothing.
use mathlib.Core.Path.{◌≡◌}
use mathlib.Core.Bool.{true}
use Prim.Native.Nat.{◌≤◌}
use Rattle.common.proofs.Apart.{Walked}
use Rattle.panel.specs.Seen.{slot_of}
use Rattle.lent_follow.specs.InPlace.{pending_in}
use Rattle.lent_follow.proofs.ids_apart.Given as goal

abbrev pub invariant-loop-k : goal.invariant-loop-k
invariant-loop-k l = (l.k ≤ l.n) × (l.apart ≡ true → Walked slot_of (pending_in l.t) l.k l.met)
