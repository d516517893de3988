-- `reader::ask`: refusal 2, then the slot number, then the mode. Assumes nothing.
use borrow.Author.Tests.{le-ltb, lt-ltb}
use mathlib.Core.Path.{◌≡◌, sym, ap, ◌∙◌}
use mathlib.Core.Bool.{true}
use native.Mathlib.Omega.{arith}
use Rattle.model.specs.Panel.{base}
use Rattle.model.specs.States.{reader_good}
use Rattle.model.proofs.Answers.{ask-bad-state, ask_no_slot, ask-slot}
use Rattle.reader.specs.States.{seen}
use Rattle.reader.specs.Seen.{asked_from}
use Rattle.reader.proofs.States.{good-small}
use Rattle.reader.proofs.Back.{answers}
use Rattle.reader.proofs.ask.Goals.{Else-not-state_ok}
use Rattle.reader.proofs.ask.Goals as goal

-- The state passed its test.
good : (c : Else-not-state_ok) → reader_good base (seen c.args.state) ≡ true
good c = sym c.state_ok.ensures ∙ c.if-not-state_ok.false

pub returns-then-not-state_ok : goal.returns-then-not-state_ok
returns-then-not-state_ok c =
    let a = c.args in
    answers a.state a.slot.0 _
    (sym (ap asked_from (ask-bad-state base (seen a.state) a.slot.0 (sym c.state_ok.ensures ∙ c.if-not-state_ok.true))))

pub returns-then-state-slot : goal.returns-then-state-slot
returns-then-state-slot c =
    let p = c in
    let a = p.args in
    answers a.state a.slot.0 _
    (sym (ap asked_from (ask_no_slot base (seen a.state) a.slot.0 (good (goal.at.returns-then-state-slot p).Else-not-state_ok) (le-ltb a.slot.0 a.state.setup.n c.if-state-slot.true))))

pub answer_in-requires : goal.answer_in-requires
answer_in-requires c =
    let p = c in
    omega (arith, c.if-state-slot.false, (good-small p.args.state (good (goal.at.answer_in-requires p).Else-not-state_ok)).n)

pub returns : goal.returns
returns c =
    let p = c in
    let a = p.args in
    answers a.state a.slot.0 _
    (c.answer_in.ensures
    ∙ sym (ap asked_from (ask-slot base (seen a.state) a.slot.0 (good (goal.at.returns p).Else-not-state_ok) (lt-ltb a.slot.0 a.state.setup.n c.if-state-slot.false))))
