-- `anonymous::olds_of` gathers a table's contacts. The loop has gone through s records. Assumes nothing.
use borrow.Author.Rules.{rules}
use mathlib.Core.Path.{◌≡◌, ap, ◌∙◌}
use mathlib.Core.Bool.{not}
use mathlib.Core.List.{List}
use Prim.Native.Nat.{◌<◌}
use lib.ListN.{length, get_or}
use mir.Syntax.{w32}
use mir.Val.{SFits}
use mir.ValLaws.{to_z-of_z}
use Rattle.model.specs.Panel.{records}
use Rattle.model.specs.Numbers.{eq_z, minus_one}
use Rattle.model.specs.Table.{live}
use Rattle.panel.specs.declared.Slot.{Slot}
use Rattle.panel.specs.Seen.{blank}
use Rattle.panel.proofs.Tables.{unmapped}
use Rattle.anonymous.proofs.Gathered.{gathers, gathers_none, gathers_one, gathered_all}
use Rattle.anonymous.proofs.olds_of.Goals.{After-same-lives, then-lives, else-lives}
use Rattle.anonymous.proofs.olds_of.Goals as goal

abbrev table : After-same-lives → List Slot
table p = p.args.t

full : (p : After-same-lives) → length (table p) ≡ records
full p = search (rules, unmapped)

inside : (p : After-same-lives) → p.loop-s.s < records
inside p = search rules

lives : (p : After-same-lives) → not p.same-lives.result ≡ live (get_or (table p) p.loop-s.s blank).id.0
lives p =
    let w = (get_or (table p) p.loop-s.s blank).id.0 in
    let f : SFits w32 w = search rules in
    ap not (p.same-lives.ensures ∙ ap (λ z. eq_z z minus_one) (to_z-of_z w32 w f))

-- ---- the needs

pub loop-s-init : goal.loop-s-init
loop-s-init c = gathers c.args.t

pub loop-s-preserved : goal.loop-s-preserved
loop-s-preserved c =
    let l = c.loop-s in
    let here = (goal.at.loop-s-preserved c).After-same-lives in
    let near = c.requires l.s in
    elim c.if-lives.branch [
      | then-lives w ↦ rw (w.x-is, w.y-is, w.count-is) (gathers_one l.invariant (full here) (inside here) (not c.same-lives.result) (lives here) (ap not w.if-lives.true) near.0 near.1)
      | else-lives w ↦ rw (w.x-is, w.y-is, w.count-is) (gathers_none l.invariant (full here) (inside here) (not c.same-lives.result) (lives here) (ap not w.if-lives.false))
    ]

pub returns : goal.returns
returns c = gathered_all c.loop-s.invariant (search (rules, unmapped)) c.loop-s-test.false
