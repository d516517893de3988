-- `pointer::sums_of` counts the flags below each number. The loop has summed up j flags. Assumes nothing.
use mathlib.Core.Path.{◌≡◌}
use mathlib.Core.List.{List}
use Prim.Native.Nat.{ℕ, suc, ◌≤◌, ◌<◌}
use lib.Dec.{eqb}
use lib.ListN.{length, get_or}
use Rattle.model.specs.Panel.{records}
use Rattle.model.specs.Ranks.{one_more_if}
use Rattle.pointer.proofs.sums_of.Given as goal

pub record SumsTo (m s : List ℕ) (j : ℕ) : Type 0 where
  pub inside : j ≤ records
  pub full : length s ≡ suc records
  pub small : get_or s j 0 ≤ j
  pub first : get_or s 0 0 ≡ 0
  pub more : (b : ℕ) → b < j → get_or s (suc b) 0 ≡ one_more_if (eqb (get_or m b 0) 1) (get_or s b 0)

abbrev pub invariant-loop-j : goal.invariant-loop-j
invariant-loop-j l = SumsTo l.m l.s l.j
