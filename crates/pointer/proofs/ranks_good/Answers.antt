-- `pointer::ranks_good` tells whether ranks are well formed beside ids. The loop has marked the live ranks of i records. Assumes nothing.
use mathlib.Core.Path.{◌≡◌, refl, sym, ap, ◌∙◌, subst}
use mathlib.Core.Bool.{cond, ◌&&◌}
use Prim.Native.Nat.{suc}
use native.Mathlib.Omega.{arith}
use lib.Dec.{eqb, ltb}
use lib.IntN.{pos}
use lib.ListN.{drop, get_or}
use borrow.Author.Tests.{eq-eqb, ne_eqb}
use mir.Syntax.{w32}
use mir.Val.{SFits}
use mir.ValLaws.{to_z-of_z}
use Rattle.model.specs.Panel.{records}
use Rattle.model.specs.Table.{live}
use Rattle.model.specs.Ranks.{live_ranks, zero_unused, no_gaps}
use Rattle.model.proofs.RanksMarks.{Marked, marked_start}
use Rattle.pointer.proofs.Idle.{idle_zeros, idle_ranks, idle_ranked}
use Rattle.pointer.proofs.Tops.{Above, above-start, gaps_told}
use Rattle.pointer.proofs.Ranked.{too_high, rank_unused, good-live, good_idle}
use borrow.Author.Rules.{rules}
use Rattle.pointer.proofs.ranks_good.Goals.{After-lives, then-lives+else-r-ge-RECORDS, else-lives+else-r-ne0}
use Rattle.pointer.proofs.ranks_good.Goals as goal

-- Whether the id that was read is live.
found : (c : After-lives) → (let a = c.args in
    live (get_or a.ids.now c.loop-i.i (pos 0)) ≡ c.lives.result)
found c =
    let a = c.args in
    let w = get_or a.ids.now c.loop-i.i (pos 0) in
    let f : SFits w32 w = search rules in
    sym (c.lives.ensures ∙ ap live (to_z-of_z w32 w f))

pub loop-i-init : goal.loop-i-init
loop-i-init c =
    let a = c.args in
    let k = live_ranks a.ids.now a.ranks.now in
    (search rules, record { inside = search rules; full = refl; low = search rules; marks = marked_start records k; tops = above-start k; unused = refl })

-- A rank past the panel's slots.
pub returns-then-not-zero_from : goal.returns-then-not-zero_from
returns-then-not-zero_from c =
    let z = c in
    let s = z in
    let a = s.args in
    sym (idle_ranked a.n a.ids.now a.ranks.now s.requires.0 s.requires.1 (sym z.zero_from.ensures ∙ c.if-not-zero_from.true))

pub returns-then-r-ge-RECORDS : goal.returns-then-r-ge-RECORDS
returns-then-r-ge-RECORDS c = sym (too_high c.args.ids.now c.args.ranks.now c.loop-i.i (search rules) (omega arith))

pub returns-then-r-ne0 : goal.returns-then-r-ne0
returns-then-r-ne0 c =
    let l = c.loop-i in
    let here = (goal.at.returns-then-r-ne0 c).After-lives in
    sym (rank_unused c.args.ids.now c.args.ranks.now l.held l.top l.i l.invariant.1 (search rules) (search rules) (found here ∙ c.if-lives.false)
    (sym (ap (λ x. eqb x 0) c.from-r.ensures) ∙ ne_eqb c.from-r.result 0 c.if-r-ne0.true))

pub loop-i-preserved : goal.loop-i-preserved
loop-i-preserved c =
    let a = c.args in
    let l = c.loop-i in
    let here = (goal.at.loop-i-preserved c).After-lives in
    let r = c.from-r.ensures in
    elim c.if-lives.branch [
      | then-lives+else-r-ge-RECORDS w ↦
          let z = w.higher-top.ensures in
          let good = good-live a.ids.now a.ranks.now l.held l.top l.i l.invariant.1 (search rules) (search rules) (search rules) (found here ∙ w.if-lives.true)
          (omega (arith, r)) w.higher-top.result (z.0 ∙ ap (λ x. cond (ltb x l.top) l.top (suc x)) r) z.1 in
          rw (w.held-is, w.top-is, r) (search rules, good)
      | else-lives+else-r-ne0 w ↦
          let good = good_idle a.ids.now a.ranks.now l.held l.top l.i l.invariant.1 (search rules) (search rules) (search rules) (found here ∙ w.if-lives.false)
          (sym (ap (λ x. eqb x 0) r) ∙ eq-eqb c.from-r.result 0 w.if-r-ne0.false) in
          rw (w.held-is, w.top-is) (search rules, good)
    ]

pub returns : goal.returns
returns c =
    let e = c in
    let z = e in
    let s = z in
    let a = s.args in
    let l = c.loop-i in
    let ids = a.ids.now in
    let ranks = a.ranks.now in
    let k = live_ranks ids ranks in
    let at : l.i ≡ a.n = omega arith in
    let over = ap (λ i. live_ranks (drop i ids) (drop i ranks)) at ∙ idle_ranks a.n ids ranks s.requires.0 in
    let marks = subst (λ x. Marked l.held x k) over l.invariant.1.marks in
    let tops = subst (λ x. Above l.top x k) over l.invariant.1.tops in
    let gaps = gaps_told l.held k l.top (omega (arith, l.invariant.1.full)) marks tops in
    let zeroed = ap (λ i. zero_unused (drop i ids) (drop i ranks)) at ∙ idle_zeros a.n ids ranks s.requires.0 ∙ sym z.zero_from.ensures ∙ e.if-not-zero_from.false in
    c.all_marked.ensures ∙ sym gaps ∙ ap (λ b. b && no_gaps k k) (sym (l.invariant.1.unused ∙ zeroed))
