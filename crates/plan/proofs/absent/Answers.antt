-- `plan::absent` tells whether a number is none of the taken ids. The loop has compared the first; `found`: it was one of those. Assumes nothing.
use borrow.Author.Rules.{rules}
use mathlib.Core.Path.{◌≡◌, refl, sym, ap, ◌∙◌}
use mathlib.Core.Bool.{Bool, true, false, not, ◌&&◌, ◌||◌, and-true}
use Prim.Native.Nat.{◌+◌}
use lib.IntN.{pos}
use lib.ListN.{drop, get_or}
use mir.Syntax.{w32}
use mir.Val.{SFits}
use mir.ValLaws.{to_z-of_z}
use Rattle.model.specs.Numbers.{eq_z}
use Rattle.model.specs.Table.{unheld}
use Rattle.panel.proofs.Tables.{unheld-step, unheld_end}
use Rattle.plan.proofs.absent.Goals as goal

neither : (a b c : Bool) → (not a && (not b && c)) ≡ (not (a || b) && c)
neither true b c = refl
neither false b c = refl

pub loop-id-init : goal.loop-id-init
loop-id-init c = (search rules, refl)

pub loop-id-preserved : goal.loop-id-preserved
loop-id-preserved c =
    let a = c.args in
    let l = c.loop-id in
    let ids = a.taken.now in
    let z = a.v.0 in
    let g : SFits w32 z = search rules in
    let w = get_or ids l.id-index (pos 0) in
    let f : SFits w32 w = search rules in
    let same : c.same-found.result ≡ eq_z z w = rw (to_z-of_z w32 z g, to_z-of_z w32 w f) at c.same-found.ensures in
    let rest = unheld z (drop (l.id-index + 1) ids) in
    let turn = unheld-step ids l.id-index (pos 0) z (search rules) ∙ ap (λ b. not b && rest) (sym same) in
    (search rules, l.invariant.1 ∙ ap (λ b. not l.found && b) turn ∙ neither l.found c.same-found.result rest)

pub returns : goal.returns
returns c =
    let l = c.loop-id in
    sym (l.invariant.1 ∙ ap (λ b. not l.found && b) (unheld_end c.args.taken.now l.id-index (pos 0) c.args.v.0 (search rules)) ∙ and-true (not l.found))
