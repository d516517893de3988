-- `lent::put_slot` stores a slot's six numbers at a position. Assumes nothing.
use mathlib.Core.Path.{◌≡◌, ap, ◌∙◌}
use mir.Syntax.{w32}
use mir.Val.{SFits}
use mir.ValLaws.{to_z-of_z}
use Rattle.model.specs.Records.{bits_of, lay}
use Rattle.lent.specs.Lent.{slot_bytes}
use Rattle.lent.proofs.Slots.{six_bytes, six_laid}
use borrow.Author.Rules.{rules}
use Rattle.lent.proofs.put_slot.Goals as goal

pub returns : goal.returns
unfolding slot_bytes
returns c =
    let a = c.args in
    let z = a.s.id.0 in
    let fits : SFits w32 z = search rules in
    let bits : c.bits_of.result ≡ bits_of z = rw (to_z-of_z w32 z fits) at c.bits_of.ensures in
    six_laid a.at _ _ _ _ _ _ a.b.now _ _ _ _ _ _ c.requires c.put_word.ensures c.put_word-2.ensures c.put_word-3.ensures c.put_word-4.ensures c.put_word-5.ensures c.put_word-6.ensures
    ∙ ap (λ v. lay a.at (six_bytes v a.s.x a.s.y a.s.pressure a.s.major a.s.minor) a.b.now) bits
