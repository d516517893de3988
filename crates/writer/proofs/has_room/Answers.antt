-- `writer::has_room` tells whether so many bytes have room from a position on. Assumes nothing.
use mathlib.Core.Path.{sym, ap, ◌∙◌}
use mathlib.Core.Bool.{◌&&◌}
use Prim.Native.Nat.{◌-◌}
use lib.Dec.{leb}
use borrow.Author.Tests.{le-leb, lt-leb}
use Rattle.writer.proofs.has_room.Goals as goal

pub returns-else-at-size : goal.returns-else-at-size
returns-else-at-size c =
    let a = c.args in
    let past = lt-leb a.at a.size c.if-at-size.false in
    past ∙ sym (ap (λ b. b && leb a.need (a.size - a.at)) past)

pub returns-then-at-size : goal.returns-then-at-size
returns-then-at-size c =
    let a = c.args in
    sym (ap (λ b. b && leb a.need (a.size - a.at)) (le-leb a.at a.size c.if-at-size.true))
