-- `pairing::marks_of` meets its contract. The invariant: what is marked is what the first numbers hold. Assumes nothing.
use mathlib.Core.Path.{◌≡◌}
use Prim.Native.Nat.{◌≤◌}
use lib.ListN.{take}
use Rattle.pairing.specs.Cells.{marks}
use Rattle.pairing.proofs.marks_of.Given as goal

abbrev pub invariant-loop-c : goal.invariant-loop-c
invariant-loop-c l = (l.c-index ≤ 32) × (l.marks ≡ marks (take l.c-index l.pairing))
