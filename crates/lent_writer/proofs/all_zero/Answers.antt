-- `lent_writer::all_zero` tells whether every rank is 0. The loop has looked at those below i. Assumes nothing.
use mathlib.Core.Path.{sym, ap, ◌∙◌}
use mathlib.Core.Bool.{not, ◌&&◌, and-true}
use Prim.Native.Nat.{◌+◌, ◌-◌}
use lib.Dec.{eqb}
use lib.ListN.{drop, get_or}
use Rattle.model.specs.Panel.{records}
use Rattle.model.specs.Pointing.{zeros}
use Rattle.pointer.proofs.Numbers.{zeros-turn, zeros-over, neither}
use borrow.Author.Rules.{rules}
use Rattle.lent_writer.proofs.all_zero.Goals as goal

pub loop-i-preserved : goal.loop-i-preserved
loop-i-preserved c =
    let l = c.loop-i in
    let rs = c.args.ranks.now in
    let v = eqb (get_or rs l.i 0) 0 in
    let turn = zeros-turn rs l.i (search rules) (search rules) in
    (search rules, l.invariant.1 ∙ ap (λ b. not l.some && b) turn ∙ neither l.some v (zeros (records - (l.i + 1)) (drop (l.i + 1) rs)))

pub returns : goal.returns
returns c =
    let l = c.loop-i in
    let rs = c.args.ranks.now in
    let over = zeros-over rs l.i (search rules) (search rules) in
    sym (l.invariant.1 ∙ ap (λ b. not l.some && b) over ∙ and-true (not l.some))
