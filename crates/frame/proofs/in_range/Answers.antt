-- `frame::in_range` tells whether a number is least to top, by its bits. Assumes nothing.
use mathlib.Core.Path.{◌≡◌, sym, ap, subst, ◌∙◌}
use Prim.Native.Nat.{◌<◌, ◌≤◌}
use lib.Dec.{leb}
use borrow.Author.Tests.{lt-leb}
use mir.Syntax.{w32}
use mir.ValLaws.{to_z-of_z}
use Rattle.model.specs.Records.{bits_of}
use Rattle.frame.proofs.Ranges.{bits_below, bits_from}
use Rattle.frame.proofs.in_range.Goals.{After-bits_of-bits}
use Rattle.frame.proofs.in_range.Goals as goal

-- What the bits are.
own : (c : After-bits_of-bits) → c.bits_of-bits.result ≡ bits_of c.args.v
own c = c.bits_of-bits.ensures ∙ ap bits_of (to_z-of_z w32 c.args.v c.ranges.v)

pub returns-else-least-bits : goal.returns-else-least-bits
returns-else-least-bits c =
    let a = c.args in
    lt-leb a.least c.bits_of-bits.result c.if-least-bits.false ∙ sym (bits_below a.v a.least a.top (subst (λ n. n < a.least) (own (goal.at.returns-else-least-bits c).After-bits_of-bits) c.if-least-bits.false))

pub returns-then-least-bits : goal.returns-then-least-bits
returns-then-least-bits c =
    let a = c.args in
    let bits = own (goal.at.returns-then-least-bits c).After-bits_of-bits in
    ap (λ n. leb n a.top) bits ∙ bits_from a.v a.least a.top c.ranges.v c.requires (subst (λ n. a.least ≤ n) bits c.if-least-bits.true)
