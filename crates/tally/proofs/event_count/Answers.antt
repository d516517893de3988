-- `tally::event_count` is the number of events, none where no number changed. Assumes nothing.
use mathlib.Core.Path.{sym, ap, ◌∙◌}
use mathlib.Core.Bool.{cond}
use Prim.Native.Nat.{◌+◌}
use native.Mathlib.Omega.{arith}
use lib.Count.{ones}
use borrow.Author.Tests.{eq-eqb, ne_eqb}
use Rattle.tally.proofs.event_count.Goals as goal

pub returns-then-numbers-eq0 : goal.returns-then-numbers-eq0
returns-then-numbers-eq0 c =
    let a = c.args in
    (sym (ap (λ b. cond b 0 (1 + a.numbers + ones a.others)) (eq-eqb a.numbers 0 c.if-numbers-eq0.true)), omega arith)

pub returns : goal.returns
returns c =
    let a = c.args in
    let some = ap (λ b. cond b 0 (1 + a.numbers + ones a.others)) (ne_eqb a.numbers 0 c.if-numbers-eq0.false) in
    (ap (λ n. 1 + a.numbers + n) c.ones-slots.ensures.1 ∙ sym some, omega (arith, c.ones-slots.ensures.0, c.requires))
