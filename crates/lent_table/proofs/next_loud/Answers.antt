-- `lent_table::next_loud` is the first slot from a slot on whose row does not leave it as it is. The loop has passed the quiet rows before s. Assumes nothing.
use mathlib.Core.Path.{◌≡◌, sym, ap₂, subst, ◌∙◌}
use Prim.Native.Nat.{◌≤◌}
use borrow.Author.Rules.{rules}
use Rattle.panel.specs.Seen.{row_of}
use Rattle.plan.specs.Quiet.{quiet_row, quiet_at, Of32, QuietAt}
use Rattle.plan.proofs.Still.{one_more}
use Rattle.lent.specs.Lent.{table_in}
use Rattle.lent_table.proofs.Read.{slot_is}
use Rattle.lent_table.proofs.next_loud.Goals.{After-quiet}
use Rattle.lent_table.proofs.next_loud.Goals as goal

-- What a turn's test says of the row of slot s.
told : (c : After-quiet) → c.quiet.result ≡ quiet_at c.args.frame.now (table_in c.args.t.now) c.loop-s.s
told c = c.quiet.ensures ∙ ap₂ quiet_row (c.slot_at.ensures ∙ slot_is c.args.t.now c.loop-s.s (search rules)) c.row_at-r.ensures

pub returns-then-not-quiet : goal.returns-then-not-quiet
returns-then-not-quiet c =
    let l = c.loop-s in
    record { after = l.invariant.0; inside = l.invariant.1; quiet = λ i f h. l.invariant.2 i h f; loud = λ h. sym (told (goal.at.returns-then-not-quiet c).After-quiet) ∙ c.if-not-quiet.true }

pub loop-s-preserved : goal.loop-s-preserved
loop-s-preserved c =
    let a = c.args in
    let here = sym (told (goal.at.loop-s-preserved c).After-quiet) ∙ c.if-not-quiet.false in
    let fits : Of32 (row_of c.row_at-r.result) = search rules in
    (search rules, search rules, one_more (λ i. a.from ≤ i → QuietAt a.frame.now (table_in a.t.now) i) c.loop-s.s c.loop-s.invariant.2 (λ f. record { is = here; fits = subst Of32 c.row_at-r.ensures fits }))
