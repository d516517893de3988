-- `frame::row_ok` tells whether one slot's row is good, by its kind. Assumes nothing.
use borrow.Author.Rules.{rules}
use mathlib.Core.Path.{◌≡◌, sym, ap, ◌∙◌}
use mathlib.Core.Bool.{◌||◌}
use lib.IntN.{pos}
use mir.Syntax.{w32}
use mir.Val.{SFits}
use mir.ValLaws.{to_z-of_z}
use Rattle.model.specs.Numbers.{eq_z, between_z}
use Rattle.common.proofs.Signs.{first-false, first-true, or-true, or_false}
use Rattle.frame.proofs.Ranges.{contact-kind}
use Rattle.frame.proofs.row_ok.Goals.{After-in_range, After-same}
use Rattle.frame.proofs.row_ok.Goals as goal

kind_0 : (c : After-same) → c.same.result ≡ eq_z c.args.r.first (pos 0)
kind_0 c =
    let f : SFits w32 c.args.r.first = search rules in
    c.same.ensures ∙ ap (λ z. eq_z z (pos 0)) (to_z-of_z w32 c.args.r.first f)

kind-12 : (c : After-in_range) → c.in_range.result ≡ (eq_z c.args.r.first (pos 1) || eq_z c.args.r.first (pos 2))
kind-12 c =
    let f : SFits w32 c.args.r.first = search rules in
    c.in_range.ensures ∙ ap (between_z (pos 1) (pos 2)) (to_z-of_z w32 c.args.r.first f) ∙ contact-kind c.args.r.first

pub returns-then-same : goal.returns-then-same
returns-then-same c = c.if-same.true ∙ sym (or-true _ _ (sym (kind_0 (goal.at.returns-then-same c).After-same) ∙ c.if-same.true))

pub returns-else-in_range : goal.returns-else-in_range
returns-else-in_range c =
    let at = goal.at.returns-else-in_range c in
    c.if-in_range.false ∙ sym (or_false _ _ (sym (kind_0 at.After-same) ∙ c.if-same.false) ∙ first-false _ _ (sym (kind-12 at.After-in_range) ∙ c.if-in_range.false))

pub returns-then-in_range : goal.returns-then-in_range
returns-then-in_range c =
    let at = goal.at.returns-then-in_range c in
    c.numbers_in.ensures ∙ sym (or_false _ _ (sym (kind_0 at.After-same) ∙ c.if-same.false) ∙ first-true _ _ (sym (kind-12 at.After-in_range) ∙ c.if-in_range.true))
