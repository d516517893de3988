-- `pointer::ids_stay` tells whether two lists of ids are the same. The loop has found the same ids in the slots whose bits `left` no longer has. Assumes nothing.
use mathlib.Core.Path.{◌≡◌}
use mathlib.Core.List.{List}
use Prim.Native.Nat.{ℕ, ◌<◌, ◌^◌}
use lib.IntN.{ℤ}
use Rattle.model.specs.Panel.{records}
use Rattle.model.specs.Table.{eq_slot}
use Rattle.pointer.proofs.Covered.{stays_in}
use Rattle.pointer.proofs.ids_stay.Given as goal

-- All ids are the same exactly where those are whose slots are left.
pub record Looked (old new : List ℤ) (left : ℕ) : Type 0 where
  pub bits : left < 2 ^ records
  pub rest : eq_slot old new ≡ stays_in left old new

abbrev pub invariant-loop-left : goal.invariant-loop-left
invariant-loop-left l = Looked l.old l.new l.left

abbrev pub decreases-loop-left : goal.decreases-loop-left
decreases-loop-left l = l.left
