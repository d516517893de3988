-- `crane_reader::read_one`: refusal 2, and the answer of a run over the one record. Assumes nothing.
use borrow.Author.Rules.{rules}
use mathlib.Core.Path.{◌≡◌, refl, sym, ap, ◌∙◌}
use Prim.Native.Nat.{◌<◌}
use native.Mathlib.Omega.{arith}
use lib.ListN.{replicate}
use mathlib.Core.Bool.{true}
use Rattle.model.specs.Panel.{crane}
use Rattle.model.specs.Records.{events_of}
use Rattle.model.specs.Reader.{run}
use Rattle.model.specs.States.{reader_good}
use Rattle.model.proofs.Answers.{step-bad-state, step-whole}
use Rattle.crane_panel.specs.Seen.{panel_seen}
use Rattle.common.specs.declared.Verdict.TheVariants as W
use Rattle.records.specs.Seen.{event_of}
use Rattle.records.proofs.RoundTrip.{one_record}
use Rattle.crane_reader.specs.States.{seen, ran_from}
use Rattle.crane_reader.specs.Seen.{refused_run}
use Rattle.crane_reader.specs.States.{answered}
use Rattle.crane_reader.proofs.Held.{state_back}
use Rattle.crane_reader.proofs.read_one.Goals.{Else-not-state_ok}
use Rattle.crane_reader.proofs.read_one.Goals as goal

-- The state passed its test.
good : (c : Else-not-state_ok) → reader_good crane (seen c.args.state) ≡ true
good c = sym c.state_ok.ensures ∙ c.if-not-state_ok.false

pub returns-then-not-state_ok : goal.returns-then-not-state_ok
returns-then-not-state_ok c =
    let k = c in
    let a = k.args in
    c.run_refused.ensures ∙ ap (refused_run W.State) (sym (state_back a.state))
    ∙ sym (ap ran_from (step-bad-state crane (seen a.state) (event_of a.e) (sym k.state_ok.ensures ∙ c.if-not-state_ok.true)))

pub run_accepted-requires : goal.run_accepted-requires
run_accepted-requires c = good (goal.at.run_accepted-requires c).Else-not-state_ok

pub returns : goal.returns
returns c =
    let p = c in
    let a = p.args in
    let put = c.put in
    let kind : a.e.kind < 65_536 = search rules in
    let code : a.e.code < 65_536 = search rules in
    let value : a.e.value < 4_294_967_296 = omega (arith, p.well_formed.1) in
    c.run_accepted.ensures
    ∙ ap (λ es. answered a.state.setup (run (panel_seen a.state.setup) (seen a.state).reader es)) (ap events_of put.ensures ∙ one_record a.e (replicate 8 0) refl kind code value)
    ∙ sym (ap ran_from (step-whole crane (seen a.state) (event_of a.e) (good (goal.at.returns p).Else-not-state_ok)))
