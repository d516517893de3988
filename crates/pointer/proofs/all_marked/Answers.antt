-- `pointer::all_marked` tells whether the flags below a number are all set. The loop has found j of them set. Assumes nothing.
use mathlib.Core.Path.{◌≡◌, sym, ap, ap₂, ◌∙◌}
use mathlib.Core.Bool.{true, ◌&&◌}
use native.Mathlib.Numerals.{add-one}
use native.Mathlib.Omega.{arith}
use lib.Dec.{eqb}
use lib.ListN.{get_or}
use borrow.Author.Tests.{eq-eqb, ne_eqb}
use Rattle.pointer.specs.Marks.{marked}
use Rattle.pointer.proofs.Tops.{unset_below}
use borrow.Author.Rules.{rules}
use Rattle.pointer.proofs.all_marked.Goals as goal

pub returns-then-m-j-ne1 : goal.returns-then-m-j-ne1
returns-then-m-j-ne1 c =
    let a = c.args in
    let l = c.loop-j in
    sym (unset_below l.j a.top a.m.now (search rules) (ne_eqb (get_or a.m.now l.j 0) 1 c.if-m-j-ne1.true))

pub loop-j-preserved : goal.loop-j-preserved
loop-j-preserved c =
    let a = c.args in
    let l = c.loop-j in
    let set : eqb (get_or a.m.now l.j 0) 1 ≡ true = eq-eqb (get_or a.m.now l.j 0) 1 c.if-m-j-ne1.false in
    (search rules, ap (λ k. marked k a.m.now) (add-one l.j) ∙ ap₂ (λ x y. x && y) set l.invariant.1)

pub returns : goal.returns
returns c =
    let a = c.args in
    let l = c.loop-j in
    let e : l.j ≡ a.top = omega arith in
    sym (sym (ap (λ k. marked k a.m.now) e) ∙ l.invariant.1)
