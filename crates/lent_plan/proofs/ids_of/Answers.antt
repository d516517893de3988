-- `lent_plan::ids_of` has the ids of a table's first slots in its first places. The loop has copied i of them. Assumes nothing.
use borrow.Author.Rules.{rules}
use mathlib.Core.Path.{sym, ap, ◌∙◌}
use mathlib.Core.List.{List, ◌∷◌, [], ◌++◌}
use Prim.Native.Nat.{◌<◌}
use native.Mathlib.Numerals.{add-one}
use native.Mathlib.Omega.{arith}
use lib.IntN.{ℤ}
use lib.ListN.{length, take, length-set}
use lib.Seq.{take-suc-set}
use mir.Syntax.{w32}
use mir.Val.{SFits}
use mir.ValLaws.{to_z-of_z}
use Rattle.model.specs.Table.{ids}
use Rattle.common.proofs.Apart.{more-ids}
use Rattle.panel.specs.declared.Slot.{Slot}
use Rattle.panel.specs.Seen.{slot_of, table_of, blank}
use Rattle.lent.specs.Lent.{table_in}
use Rattle.lent_table.proofs.Read.{full as table_long}
use Rattle.lent_plan.proofs.ids_of.Goals as goal

pub loop-i-preserved : goal.loop-i-preserved
loop-i-preserved c =
    let l = c.loop-i in
    let t = table_in c.args.t.now in
    let v = c.slot_of.result.id.0 in
    let is = c.slot_of.ensures in
    let f : SFits w32 v = search rules in
    let room : l.i < length l.l = omega (arith, l.invariant.1) in
    let next = more-ids slot_of blank t l.i (omega (arith, table_long c.args.t.now)) ∙ ap (λ (x : Slot). ids (table_of (take l.i t)) ++ x.id.0 ∷ []) (sym is) in
    let more = take-suc-set l.l l.i v room ∙ ap (λ (a : List ℤ). a ++ v ∷ []) l.invariant.2 ∙ sym next in
    rw (to_z-of_z w32 v f) (search rules, length-set l.l l.i v ∙ l.invariant.1, rw add-one more)
