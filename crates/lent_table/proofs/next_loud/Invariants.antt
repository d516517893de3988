-- `lent_table::next_loud` is the first slot from a slot on whose row does not leave it as it is. The loop has passed the quiet rows before s. Assumes nothing.
use Prim.Native.Nat.{ℕ, ◌≤◌, ◌<◌}
use Rattle.plan.specs.Quiet.{QuietAt}
use Rattle.lent.specs.Lent.{table_in}
use Rattle.lent_table.proofs.next_loud.Given as goal

abbrev pub invariant-loop-s : goal.invariant-loop-s
invariant-loop-s l = (l.from ≤ l.s) × (l.s ≤ l.n) × ((i : ℕ) → i < l.s → l.from ≤ i → QuietAt l.frame (table_in l.t) i)
