-- `force::mark_from` finds the first 0x2B: what is still to be searched gives the same place. Assumes nothing.
use mathlib.Core.Path.{◌≡◌}
use Prim.Native.Nat.{◌≤◌, max}
use lib.ListN.{length}
use Rattle.model.specs.Force.{mark_from}
use Rattle.force.proofs.mark_from.Given as goal

abbrev pub invariant-loop-place : goal.invariant-loop-place
invariant-loop-place l = record { within : l.place ≤ max l.at (length l.bytes); same : mark_from l.bytes l.at ≡ mark_from l.bytes l.place }
