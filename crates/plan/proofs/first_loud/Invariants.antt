-- `plan::first_loud` is the first slot whose row does not leave it as it is. The loop has passed s quiet rows. Assumes nothing.
use Prim.Native.Nat.{ℕ, ◌≤◌, ◌<◌}
use Rattle.plan.specs.Quiet.{QuietAt}
use Rattle.plan.proofs.first_loud.Given as goal

abbrev pub invariant-loop-s : goal.invariant-loop-s
invariant-loop-s l = (l.s ≤ l.n) × ((i : ℕ) → i < l.s → QuietAt l.frame l.t i)
