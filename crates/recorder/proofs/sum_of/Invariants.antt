-- `recorder::sum_of` meets its contract: the loop has summed the bytes before i. Assumes nothing.
use mathlib.Core.Path.{◌≡◌}
use mathlib.Core.List.{List}
use Prim.Native.Nat.{ℕ, ◌*◌, ◌≤◌}
use lib.ListN.{take}
use Rattle.model.specs.Recorder.{weighed}
use Rattle.recorder.proofs.sum_of.Given as goal

-- Bytes before i are summed, each of which adds at most 129,540.
pub record Summed (b : List ℕ) (sum i : ℕ) : Type 0 where
  pub small : sum ≤ 129_540 * i
  pub total : sum ≡ weighed 1 (take i b)

abbrev pub invariant-loop-i : goal.invariant-loop-i
invariant-loop-i l = Summed l.b l.sum l.i
