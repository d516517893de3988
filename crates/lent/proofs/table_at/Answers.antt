-- `lent::table_at`: as many slots are read as were passed. Assumes nothing.
use mathlib.Core.Path.{sym, ap₂, ◌∙◌}
use mathlib.Core.List.{◌∷◌, [], ◌++◌}
use Prim.Native.Nat.{◌<◌}
use native.Mathlib.Numerals.{add-one}
use native.Mathlib.Omega.{arith}
use lib.ListN.{length, length-set}
use lib.Seq.{take-suc-set}
use borrow.Author.Rules.{rules}
use Rattle.lent.proofs.Tables.{slots-none, slots-more}
use Rattle.lent.proofs.table_at.Goals as goal

pub loop-i-init : goal.loop-i-init
loop-i-init c = (omega arith, search rules, sym (slots-none c.args.b.now c.args.at))

pub loop-i-preserved : goal.loop-i-preserved
loop-i-preserved c =
    let a = c.args in
    let l = c.loop-i in
    let inside : l.i < length l.t = omega arith in (
      omega arith,
      simp length-set l.invariant.1,
      rw add-one (
          take-suc-set l.t l.i c.slot_at.result inside
          ∙ ap₂ (λ x s. x ++ (s ∷ [])) l.invariant.2 c.slot_at.ensures
          ∙ sym (slots-more l.i a.b.now a.at)
          ),
    )
