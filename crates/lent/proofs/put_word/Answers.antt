-- `lent::put_word` stores a number's four bytes at a position. Assumes nothing.
use mathlib.Core.Path.{◌≡◌, ap₂, ◌∙◌}
use mathlib.Core.List.{List, ◌++◌}
use Prim.Native.Nat.{ℕ, ◌+◌}
use native.Mathlib.Omega.{arith}
use lib.ListN.{take}
use borrow.Rule.Slice.PartMut.{Post-is}
use Rattle.std.proofs.Math.Nat.{div-div-eq-div-mul}
use Rattle.model.specs.Records.{low_bytes, lay}
use Rattle.lent.proofs.put_word.Goals as goal

pub returns : goal.returns
unfolding lay
returns c =
    let a = c.args in
    let bytes : c.copy_from_slice.new.self ≡ low_bytes 4 a.v = c.copy_from_slice.ensures.after ∙ c.to_le_bytes.ensures ∙ simp div-div-eq-div-mul in
    ap₂ (λ (xs ys : List ℕ). take a.at a.b.now ++ (xs ++ ys)) bytes (Post-is a.at (a.at + 4) a.b.now (omega arith))
