-- `pointer::ranks_after` are the ranks after a frame. The loop has made i of them. Assumes nothing.
use mathlib.Core.Path.{◌≡◌}
use mathlib.Core.List.{List}
use Prim.Native.Nat.{ℕ, ◌≤◌, ◌<◌}
use lib.IntN.{ℤ, pos}
use lib.ListN.{length, get_or}
use Rattle.model.specs.Panel.{records}
use Rattle.pointer.specs.Seen.{fate_by}
use Rattle.pointer.specs.Marks.{age_by}
use Rattle.pointer.proofs.ranks_after.Given as goal

-- The age of a record.
abbrev pub aged : List ℤ → List ℤ → List ℕ → ℕ → ℕ
aged old new ranks b = age_by (fate_by (get_or old b (pos 0)) (get_or new b (pos 0))) (get_or ranks b 0)

pub record RankedTo (n : ℕ) (old new : List ℤ) (ranks below l : List ℕ) (i : ℕ) : Type 0 where
  pub inside : i ≤ n
  pub full : length l ≡ records
  pub told : (b : ℕ) → b < i → get_or l b 0 ≡ get_or below (aged old new ranks b) 0
  pub zeros : (b : ℕ) → i ≤ b → get_or l b 0 ≡ 0

abbrev pub invariant-loop-i : goal.invariant-loop-i
invariant-loop-i l = RankedTo l.n l.old l.new l.ranks l.below l.l l.i
