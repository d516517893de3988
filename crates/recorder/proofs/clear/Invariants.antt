-- `recorder::clear` meets its contract: the bits of the bytes before i are joined, and all bytes are zero if these and those from i on are. Assumes nothing.
use mathlib.Core.Path.{◌≡◌}
use mathlib.Core.Bool.{◌&&◌}
use lib.Dec.{eqb}
use Rattle.model.specs.Pod.{zeros}
use Rattle.model.specs.Recorder.{part}
use Rattle.recorder.proofs.clear.Given as goal

abbrev pub invariant-loop-i : goal.invariant-loop-i
invariant-loop-i l = zeros (part l.from l.to l.b) ≡ (eqb l.bits 0 && zeros (part l.i l.to l.b))
