-- `show_force::say_packets` ends, since each answer that does not wait moves on, and the place of what waits is no further than the end. Assumes nothing.
use mathlib.Core.Path.{sym, ◌∙◌}
use Prim.Native.Nat.{◌<◌, ◌≤◌}
use native.Mathlib.Omega.{arith}
use lib.ListN.{length}
use Rattle.force.proofs.Promises.{moves-on, stays-inside}
use Rattle.show_force.proofs.say_packets.Goals.{Else-waits}
use Rattle.show_force.proofs.say_packets.Goals as goal

pub returns-then-waits : goal.returns-then-waits
returns-then-waits c = stays-inside _ _ _ c.read-found.ensures

-- An answer that does not wait moves on, and not past the end.
onward : (c : Else-waits)
    → (c.loop-at.at < c.read-found.result.next)
    × (c.read-found.result.next ≤ length c.args.bytes.now)
onward c = moves-on _ _ _ c.read-found.ensures (sym c.waits.ensures ∙ c.if-waits.false)

pub loop-at-smaller : goal.loop-at-smaller
loop-at-smaller c = omega (arith, onward (goal.at.loop-at-smaller c).Else-waits)

pub loop-at-preserved : goal.loop-at-preserved
loop-at-preserved c = (onward (goal.at.loop-at-preserved c).Else-waits).1
