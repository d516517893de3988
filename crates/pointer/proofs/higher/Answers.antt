-- `pointer::higher` is the least number above both. Assumes nothing.
use mathlib.Core.Path.{sym, ap, ◌∙◌}
use mathlib.Core.Bool.{cond}
use Prim.Native.Nat.{suc}
use native.Mathlib.Omega.{arith}
use native.Mathlib.Numerals.{add-one}
use borrow.Author.Tests.{lt-ltb, le-ltb}
use Rattle.pointer.proofs.higher.Goals as goal

pub returns-then-r-top : goal.returns-then-r-top
returns-then-r-top c =
    let a = c.args in
    (sym (ap (λ b. cond b a.top (suc a.r)) (lt-ltb a.r a.top c.if-r-top.true)), omega arith)

pub returns : goal.returns
returns c =
    let a = c.args in
    (add-one a.r ∙ sym (ap (λ b. cond b a.top (suc a.r)) (le-ltb a.r a.top c.if-r-top.false)), omega arith)
