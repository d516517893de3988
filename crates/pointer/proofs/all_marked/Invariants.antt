-- `pointer::all_marked` tells whether the flags below a number are all set. The loop has found j of them set. Assumes nothing.
use mathlib.Core.Path.{◌≡◌}
use mathlib.Core.Bool.{true}
use Prim.Native.Nat.{◌≤◌}
use Rattle.pointer.specs.Marks.{marked}
use Rattle.pointer.proofs.all_marked.Given as goal

abbrev pub invariant-loop-j : goal.invariant-loop-j
invariant-loop-j l = (l.j ≤ l.top) × (marked l.j l.m ≡ true)
