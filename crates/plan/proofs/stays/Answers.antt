-- `plan::stays` is a slot in which no contact begins, by its kind. Assumes nothing.
use mathlib.Core.Path.{◌≡◌, sym, ap, ◌∙◌}
use lib.IntN.{pos}
use mir.Syntax.{w32}
use mir.Val.{SFits}
use mir.ValLaws.{to_z-of_z}
use Rattle.model.specs.Numbers.{eq_z}
use Rattle.panel.specs.Seen.{row_of}
use Rattle.plan.specs.Row.{stayed}
use borrow.Author.Rules.{rules}
use Rattle.plan.proofs.stays.Goals.{After-same}
use Rattle.plan.proofs.stays.Goals as goal

kind_0 : (c : After-same) → c.same.result ≡ eq_z c.args.r.first (pos 0)
kind_0 c =
    let v = c.args.r.first in
    let f : SFits w32 v = search rules in
    c.same.ensures ∙ ap (λ z. eq_z z (pos 0)) (to_z-of_z w32 v f)

pub returns-then-same : goal.returns-then-same
returns-then-same c =
    let k = c in
    let a = k.args in
    c.lift.ensures ∙ ap (λ z. stayed z a.was (row_of a.r)) (sym (sym (kind_0 (goal.at.returns-then-same k).After-same) ∙ c.if-same.true))

pub returns : goal.returns
returns c =
    let k = c in
    let a = k.args in
    c.contact.ensures ∙ ap (λ z. stayed z a.was (row_of a.r)) (sym (sym (kind_0 (goal.at.returns k).After-same) ∙ c.if-same.false))
