-- `plan::begins` tells whether a contact begins, kind by kind. Assumes nothing.
use mathlib.Core.Path.{◌≡◌, refl, ap, ◌∙◌}
use mathlib.Core.Bool.{Bool, true, false, not, cond}
use lib.IntN.{pos}
use mir.Syntax.{w32}
use mir.Val.{SFits}
use mir.ValLaws.{to_z-of_z}
use Rattle.model.specs.Numbers.{eq_z, minus_one}
use Rattle.model.specs.Frame.{goes_on, begins}
use Rattle.plan.specs.Row.{begun}
use borrow.Author.Rules.{rules}
use Rattle.plan.proofs.begins.Goals.{After-same, After-same-then-not-same}
use Rattle.plan.proofs.begins.Goals as goal

kind_0 : (c : After-same) → c.same.result ≡ eq_z c.args.kind (pos 0)
kind_0 c = c.same.ensures ∙ ap (λ z. eq_z z (pos 0)) (to_z-of_z w32 c.args.kind c.ranges.kind)

kind_2 : (c : After-same-then-not-same) → c.same-then-not-same.result ≡ eq_z c.args.kind (pos 2)
kind_2 c = c.same-then-not-same.ensures ∙ ap (λ z. eq_z z (pos 2)) (to_z-of_z w32 c.args.kind c.ranges.kind)

unused-begins : (b : Bool) → b ≡ begun (cond (not b) goes_on begins)
unused-begins true = refl
unused-begins false = refl

pub returns-then-same : goal.returns-then-same
returns-then-same c =
    let at = goal.at.returns-then-same c in
    rw (← kind_0 at.After-same, c.if-not-same.true, ← kind_2 at.After-same-then-not-same, c.if-same.true)

pub returns-else-same : goal.returns-else-same
returns-else-same c =
    let i = c.args.id.0 in
    let f : SFits w32 i = search rules in
    let z = rw (to_z-of_z w32 i f) at c.same-else-same.ensures in
    let at = goal.at.returns-else-same c in
    rw (← kind_0 at.After-same, c.if-not-same.true, ← kind_2 at.After-same-then-not-same, c.if-same.false) (z ∙ unused-begins (eq_z i minus_one))

pub returns-else-not-same : goal.returns-else-not-same
returns-else-not-same c = rw (← kind_0 (goal.at.returns-else-not-same c).After-same, c.if-not-same.false)
