-- `recorder::clear` meets its contract: the bits of the bytes before i are joined, and all bytes are zero if these and those from i on are. Assumes nothing.
use mathlib.Core.Path.{refl, sym, ap, ◌∙◌}
use mathlib.Core.Bool.{◌&&◌, and-true}
use Prim.Native.Nat.{◌≤◌}
use native.Mathlib.Omega.{arith}
use lib.Dec.{eqb}
use lib.ListN.{length, take, length-take, drop_of_length-le}
use borrow.Author.Rules.{rules}
use Rattle.model.specs.Pod.{zeros}
use Rattle.recorder.proofs.Laws.{clear_turn}
use Rattle.recorder.proofs.clear.Goals as goal

pub loop-i-init : goal.loop-i-init
loop-i-init c = refl

pub loop-i-preserved : goal.loop-i-preserved
loop-i-preserved c =
    let l = c.loop-i in
    l.invariant ∙ clear_turn c.args.b.now l.bits l.i c.args.to (search rules) (search rules)

pub returns : goal.returns
returns c =
    let l = c.loop-i in
    let a = c.args in
    let past : length (take a.to a.b.now) ≤ l.i = omega (arith, length-take a.to a.b.now) in
    sym (l.invariant ∙ ap (λ p. eqb l.bits 0 && zeros p) (drop_of_length-le (take a.to a.b.now) past) ∙ and-true (eqb l.bits 0))
