-- `crane_panel::ids_differ` tells whether the live ids differ. Assumes nothing.
use Rattle.crane_panel.specs.Seen.{slot_of}
use Rattle.common.proofs.Apart.{Walked}
use Rattle.crane_panel.proofs.ids_differ.Given as goal

-- The first k slots are walked over.
abbrev pub invariant-loop-k : goal.invariant-loop-k
invariant-loop-k l = Walked slot_of l.t l.k l.met
