-- `plan::quiet` tells whether a row leaves its slot as it is, by whether a contact is there. Assumes nothing.
use mathlib.Core.Path.{◌≡◌, refl, sym, ap, ap₂, ◌∙◌}
use mathlib.Core.Bool.{Bool, true, false, not, cond, ◌&&◌}
use lib.Dec.{eqb}
use lib.IntN.{pos}
use mir.Syntax.{w32}
use mir.Val.{SFits}
use mir.ValLaws.{to_z-of_z}
use Rattle.model.specs.Numbers.{eq_z, minus_one}
use Rattle.panel.specs.Seen.{row_of}
use Rattle.plan.specs.Quiet.{same_numbers, quiet_row}
use borrow.Author.Rules.{rules}
use Rattle.plan.proofs.quiet.Goals.{After-same, After-same-2, Start}
use Rattle.plan.proofs.quiet.Goals as goal

dead : (c : After-same) → (let i = c.args.was.id.0 in c.same.result ≡ eq_z i minus_one)
dead c =
    let i = c.args.was.id.0 in
    let f : SFits w32 i = search rules in
    c.same.ensures ∙ ap (λ z. eq_z z minus_one) (to_z-of_z w32 i f)

dead-at-After-same-2 : (c : After-same-2) → (let i = c.args.was.id.0 in c.same.result ≡ eq_z i minus_one)
dead-at-After-same-2 c =
    let i = c.args.was.id.0 in
    let f : SFits w32 i = search rules in
    c.same.ensures ∙ ap (λ z. eq_z z minus_one) (to_z-of_z w32 i f)

-- The test of a contact that is there.
abbrev own : Start → Bool
own s = let a = s.args in eq_z a.r.first (pos 1) && (not (eqb a.was.pressure 0) && same_numbers a.was (row_of a.r))

abbrev own-at-After-same-2 : After-same-2 → Bool
own-at-After-same-2 s = let a = s.args in eq_z a.r.first (pos 1) && (not (eqb a.was.pressure 0) && same_numbers a.was (row_of a.r))

pub returns-then-same : goal.returns-then-same
returns-then-same c =
    let at = goal.at.returns-then-same c in
    let d = c in
    let a = d.args in
    let k = a.r.first in
    let f : SFits w32 k = search rules in
    let none = sym (dead at.After-same) ∙ d.if-same.true in
    c.same-then-same.ensures ∙ ap (λ z. eq_z z (pos 0)) (to_z-of_z w32 k f) ∙ sym (ap (λ b. cond (not b) (own at.Start) (eq_z k (pos 0))) none)

kind-is : (k : After-same-2) → k.same-2.result ≡ eq_z k.args.r.first (pos 1)
kind-is k =
    let v = k.args.r.first in
    let f : SFits w32 v = search rules in
    k.same-2.ensures ∙ ap (λ z. eq_z z (pos 1)) (to_z-of_z w32 v f)

-- The whole test, by what the kind's test says and what the rest does.
by_kind : (k : After-same-2) (x y : Bool) → (let a = k.args in k.same-2.result ≡ x → (not (eqb a.was.pressure 0) && same_numbers a.was (row_of a.r)) ≡ y → (x && y) ≡ quiet_row a.was (row_of a.r))
by_kind k x y ex ey =
    let a = k.args in
    let e = k in
    let some = sym (dead-at-After-same-2 e) ∙ e.if-same.false in
    ap₂ ◌&&◌ (sym ex ∙ kind-is k) (sym ey) ∙ sym (ap (λ b. cond (not b) (own-at-After-same-2 k) (eq_z a.r.first (pos 0))) some)

pub returns-then-same-2 : goal.returns-then-same-2
returns-then-same-2 c = ap (λ y. not (eqb c.args.was.pressure 0) && y) c.numbers_same.ensures ∙ by_kind (goal.at.returns-then-same-2 c).After-same-2 true _ c.if-same-2.true refl

pub returns-else-same-2 : goal.returns-else-same-2
returns-else-same-2 c = c.if-same-2.false ∙ by_kind (goal.at.returns-else-same-2 c).After-same-2 false _ c.if-same-2.false refl
