-- `pod::unused_clear` meets its contract: the loop's invariant is that the places passed make no difference. Cited by the
-- proofs of its callers; assumes nothing.
use mathlib.Core.Path.{◌≡◌}
use lib.ListN.{drop}
use Rattle.model.specs.Pod.{zeros}
use Rattle.pod.proofs.unused_clear.Given as goal

abbrev pub invariant-loop-i : goal.invariant-loop-i
invariant-loop-i l = zeros (drop l.count l.bytes) ≡ zeros (drop l.i l.bytes)
