-- `pieces::unused_clear`: the places passed make no difference. Assumes nothing.
use mathlib.Core.Path.{◌≡◌}
use lib.ListN.{drop}
use Rattle.model.specs.Pod.{zeros}
use Rattle.pieces.proofs.unused_clear.Given as goal

abbrev pub invariant-loop-i : goal.invariant-loop-i
invariant-loop-i l = zeros (drop l.count l.left) ≡ zeros (drop l.i l.left)
