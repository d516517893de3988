-- `pieces::ask`: refusal 2 for the left-over bytes, and else the reader's own answer. Assumes nothing.
use mathlib.Core.Path.{refl, sym, ap, ◌∙◌, subst}
use mathlib.Core.Bool.{cond}
use Rattle.model.specs.Panel.{base}
use Rattle.model.specs.Calls as C
use Rattle.model.specs.Calls.{ask_call, refused}
use Rattle.model.proofs.PiecesCalls.{ask_by_left}
use Rattle.common.specs.declared.Verdict.TheVariants.{State}
use Rattle.reader.specs.declared.SlotAnswer.TheVariants.{Refused}
use Rattle.reader.specs.Seen.{AnswersAs}
use Rattle.pieces.specs.Seen.{seen}
use Rattle.pieces.proofs.ask.Goals as goal

pub returns-then-left_ok : goal.returns-then-left_ok
returns-then-left_ok c =
    let a = c.args in
    let s = seen a.state in
    let good = sym c.left_ok.ensures ∙ c.if-left_ok.true in
    let e = ask_by_left base s a.slot.0 ∙ ap (λ b. cond b (ask_call base s.reader a.slot.0) (refused C.state)) good in
    subst (λ q. AnswersAs q c.ask.result) (sym e) c.ask.ensures

pub returns-else-left_ok : goal.returns-else-left_ok
returns-else-left_ok c =
    let a = c.args in
    let s = seen a.state in
    let bad = sym c.left_ok.ensures ∙ c.if-left_ok.false in
    let e = ask_by_left base s a.slot.0 ∙ ap (λ b. cond b (ask_call base s.reader a.slot.0) (refused C.state)) bad in
    subst (λ q. AnswersAs q (Refused State)) (sym e) (record { answer = refl; number = refl; values = refl })
