-- `reader::run`: refusals 2 and 6, and the run's answer. Assumes nothing.
use borrow.Author.Tests.{ne_eqb, eq-eqb}
use mathlib.Core.Path.{◌≡◌, sym, ap, ◌∙◌}
use mathlib.Core.Bool.{true}
use Rattle.model.specs.Panel.{base}
use Rattle.model.specs.States.{reader_good}
use Rattle.model.proofs.Answers.{run-bad-state, run_ragged, run-whole}
use Rattle.common.specs.declared.Verdict.TheVariants as W
use Rattle.reader.specs.States.{seen, ran_from}
use Rattle.reader.specs.Seen.{refused_run}
use Rattle.reader.proofs.Held.{state_back}
use Rattle.reader.proofs.run.Goals.{Else-not-state_ok}
use Rattle.reader.proofs.run.Goals as goal

-- The state passed its test.
good : (c : Else-not-state_ok) → reader_good base (seen c.args.state) ≡ true
good c = sym c.state_ok.ensures ∙ c.if-not-state_ok.false

pub returns-then-not-state_ok : goal.returns-then-not-state_ok
returns-then-not-state_ok c =
    let k = c in
    let a = k.args in
    c.run_refused.ensures ∙ ap (refused_run W.State) (sym (state_back a.state))
    ∙ sym (ap ran_from (run-bad-state base (seen a.state) a.bytes.now (sym k.state_ok.ensures ∙ c.if-not-state_ok.true)))

pub returns-then-bytes-ne0 : goal.returns-then-bytes-ne0
returns-then-bytes-ne0 c =
    let p = c in
    let a = p.args in
    c.run_refused-then-bytes-ne0.ensures ∙ ap (refused_run W.Ragged) (sym (state_back a.state))
    ∙ sym (ap ran_from (run_ragged base (seen a.state) a.bytes.now (good (goal.at.returns-then-bytes-ne0 p).Else-not-state_ok) (ne_eqb _ 0 c.if-bytes-ne0.true)))

pub run_accepted-requires : goal.run_accepted-requires
run_accepted-requires c = good (goal.at.run_accepted-requires c).Else-not-state_ok

pub returns : goal.returns
returns c =
    let p = c in
    let a = p.args in
    c.run_accepted.ensures ∙ sym (ap ran_from (run-whole base (seen a.state) a.bytes.now (good (goal.at.returns p).Else-not-state_ok) (eq-eqb _ 0 c.if-bytes-ne0.false)))
