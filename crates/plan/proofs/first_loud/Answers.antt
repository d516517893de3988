-- `plan::first_loud` is the first slot whose row does not leave it as it is. The loop has passed s quiet rows. Assumes nothing.
use mathlib.Core.Path.{◌≡◌, sym, ap, subst, ◌∙◌}
use native.Mathlib.Omega.{arith}
use lib.ListN.{get_or}
use mir.Syntax.{w32}
use mir.Val.{SFits}
use borrow.Author.Rules.{rules}
use Rattle.panel.specs.Seen.{row_of, blank}
use Rattle.plan.specs.Quiet.{quiet_row, quiet_at, Of32, QuietAt}
use Rattle.plan.proofs.Still.{one_more}
use Rattle.plan.proofs.first_loud.Goals.{After-quiet, After-row_at-r}
use Rattle.plan.proofs.first_loud.Goals as goal

-- What a turn's test says of the row of slot s.
told : (c : After-quiet)
    → (let l = c in let a = l.args in c.quiet.result ≡ quiet_at a.frame.now a.t l.loop-s.s)
told c =
    let l = c in
    let a = l.args in
    c.quiet.ensures ∙ ap (quiet_row (get_or a.t l.loop-s.s blank)) c.row_at-r.ensures

-- The row's numbers are of 32 bits.
fitting : (c : After-row_at-r) → Of32 (row_of c.row_at-r.result)
fitting c =
    let r = c.row_at-r.result in
    let k : SFits w32 r.first = search rules in
    let x : SFits w32 r.x = search rules in
    let y : SFits w32 r.y = search rules in
    let p : SFits w32 r.pressure = search rules in
    let a : SFits w32 r.major = search rules in
    let i : SFits w32 r.minor = search rules in
    (k, (x, (y, (p, (a, (i, tt))))))

pub loop-s-init : goal.loop-s-init
loop-s-init c = (search rules, λ i h. absurd (omega arith))

pub row_at-r-requires : goal.row_at-r-requires
row_at-r-requires c = omega (arith, c.loop-s-test.true, c.requires.1)

pub returns-then-not-quiet : goal.returns-then-not-quiet
returns-then-not-quiet c =
    let q = c in
    let l = q.loop-s in
    record { after = omega arith; inside = l.invariant.0; quiet = λ i f h. l.invariant.1 i h; loud = λ h. sym (told (goal.at.returns-then-not-quiet q).After-quiet) ∙ c.if-not-quiet.true }

pub loop-s-preserved : goal.loop-s-preserved
loop-s-preserved c =
    let q = c in
    let l = q in
    let a = l.args in
    let here = sym (told (goal.at.loop-s-preserved q).After-quiet) ∙ c.if-not-quiet.false in
    let read = q in
    let fits = subst Of32 read.row_at-r.ensures (fitting (goal.at.loop-s-preserved read).After-row_at-r) in
    (search rules, one_more (QuietAt a.frame.now a.t) l.loop-s.s l.loop-s.invariant.1 (record { is = here; fits = fits }))

pub returns : goal.returns
returns c =
    let l = c.loop-s in
    record { after = omega arith; inside = omega arith; quiet = λ i f h. l.invariant.1 i (omega (arith, c.loop-s-test.false)); loud = λ h. absurd (omega arith) }
