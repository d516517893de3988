-- `plan::free` tells whether a number is none of the taken ids, by its bit or by all of them. Assumes nothing.
use mathlib.Core.Path.{refl, sym, ap, ◌∙◌}
use borrow.Author.Tests.{eq-eqb}
use lib.Bits.{bit_and}
use lib.IntN.{pos}
use Rattle.common.specs.declared.TrackingId.{TrackingId}
use Rattle.model.specs.Table.{unheld}
use Rattle.plan.proofs.free.Goals as goal

pub mark_of-requires : goal.mark_of-requires
mark_of-requires c = c.requires.0

pub returns-then-held-mark_of-eq0 : goal.returns-then-held-mark_of-eq0
returns-then-held-mark_of-eq0 c =
    let s = c in
    let z = sym (ap (bit_and s.args.held) c.mark_of.ensures) ∙ c.if-held-mark_of-eq0.true in
    eq-eqb _ _ c.if-held-mark_of-eq0.true ∙ sym (s.requires.1 (pos s.args.k) refl z)

pub id_of-requires : goal.id_of-requires
id_of-requires c = c.requires.0

pub returns-else-held-mark_of-eq0 : goal.returns-else-held-mark_of-eq0
returns-else-held-mark_of-eq0 c =
    let l = c.args.taken.now in
    c.absent.ensures ∙ ap (λ (v : TrackingId). unheld v.0 l) c.id_of.ensures
