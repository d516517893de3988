-- `packets::value_of`: a number of a packet, 0 where it lacks. Assumes nothing.
use mathlib.Core.Path.{sym, ◌∙◌}
use mir.Syntax.{w32}
use mir.Val.{SFits}
use mir.ValLaws.{to_z-of_z}
use Rattle.packets.proofs.Steps.{is-told, not-told}
use borrow.Author.Rules.{rules}
use Rattle.packets.proofs.value_of.Goals as goal

pub returns-then-n : goal.returns-then-n
returns-then-n c =
    let f : SFits w32 c.signed_of.result = search rules in
    to_z-of_z w32 c.signed_of.result f ∙ c.signed_of.ensures ∙ sym (is-told c.args.n c.if-n.true)

pub returns : goal.returns
returns c = sym (not-told c.args.n c.if-n.false)
