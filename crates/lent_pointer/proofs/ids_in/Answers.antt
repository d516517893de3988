-- `lent_pointer::ids_in` has the ids of a table. The loop has taken out i of them. Assumes nothing.
use borrow.Author.Rules.{rules}
use mathlib.Core.Path.{◌≡◌, ap, subst}
use native.Mathlib.Omega.{arith}
use mir.Syntax.{w32}
use mir.Val.{SFits}
use mir.ValLaws.{to_z-of_z}
use Rattle.panel.specs.declared.Slot.{Slot}
use Rattle.pointer.proofs.Turns.{Copied, copied-start, copied-turn, copied-over}
use Rattle.lent.specs.Lent.{table_in}
use Rattle.lent_table.proofs.Read.{full}
use Rattle.lent_pointer.proofs.ids_in.Goals as goal

pub loop-i-init : goal.loop-i-init
loop-i-init c = (search rules, copied-start _ _)

pub slot_of-requires : goal.slot_of-requires
slot_of-requires c =
    (omega (arith, c.loop-i-test.true, c.requires.0.few), c.requires.1)

pub loop-i-preserved : goal.loop-i-preserved
loop-i-preserved c =
    let l = c.loop-i in
    let t = c.args.t.now in
    let v = c.slot_of.result.id.0 in
    let f : SFits w32 v = search rules in
    let is = ap (λ (x : Slot). x.id.0) c.slot_of.ensures in
    let turned = copied-turn c.args.n (table_in t) l.l l.i l.invariant.1 c.loop-i-test.true c.requires.0.few (full t) in
    rw (to_z-of_z w32 v f, is) (omega (arith, c.loop-i-test.true), turned)

pub returns : goal.returns
returns c =
    let l = c.loop-i in
    let at : l.i ≡ c.args.n = omega (arith, l.invariant.0, c.loop-i-test.false) in
    copied-over c.args.n (table_in c.args.t.now) l.l c.requires.0 (subst (λ i. Copied c.args.n (table_in c.args.t.now) l.l i) at l.invariant.1)
