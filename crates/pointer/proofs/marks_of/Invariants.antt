-- `pointer::marks_of` marks the ranks of the contacts that go on. The loop has passed i records. Assumes nothing.
use mathlib.Core.Path.{◌≡◌}
use mathlib.Core.List.{List}
use Prim.Native.Nat.{ℕ, ◌≤◌}
use lib.IntN.{ℤ}
use lib.ListN.{length, drop}
use Rattle.model.specs.Panel.{records}
use Rattle.model.specs.Ranks.{ages}
use Rattle.model.proofs.RanksMarks.{Marked}
use Rattle.pointer.specs.Seen.{fates_by}
use Rattle.pointer.proofs.marks_of.Given as goal

pub record MarkedTo (n : ℕ) (old new : List ℤ) (ranks m : List ℕ) (i : ℕ) : Type 0 where
  pub inside : i ≤ n
  pub full : length m ≡ records
  pub marks : Marked m (ages records (fates_by (drop i old) (drop i new)) (drop i ranks)) (ages records (fates_by old new) ranks)

abbrev pub invariant-loop-i : goal.invariant-loop-i
invariant-loop-i l = MarkedTo l.n l.old l.new l.ranks l.m l.i
