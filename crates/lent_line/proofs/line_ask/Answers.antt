-- `lent_line::line_ask`: bytes that are not formed, and the answer of the state that they hold. Assumes nothing.
use mathlib.Core.Path.{◌≡◌, sym, ap, ◌∙◌, subst}
use mathlib.Core.Bool.{true}
use Rattle.model.specs.Panel.{base}
use Rattle.model.specs.Pieces.{line_ask_call}
use Rattle.reader.specs.Seen.{AnswersAs, answer_seen}
use Rattle.pieces.specs.Seen.{seen}
use Rattle.lent_reader.specs.Seen.{asked_row}
use Rattle.lent_line.specs.Layout.{formed, unpacked}
use Rattle.lent_line.proofs.Asked.{asked-few, line_back, ask_in}
use Rattle.lent_line.proofs.line_ask.Goals.{After-ask, Else-not-formed}
use Rattle.lent_line.proofs.line_ask.Goals as goal

-- The bytes are formed.
whole : (c : Else-not-formed) → formed c.args.state.now ≡ true
whole c = sym c.formed.ensures ∙ c.if-not-formed.false

-- The answer by value, of the state that they hold.
answers : (c : After-ask) → (let a = c.args in AnswersAs (line_ask_call base (seen (unpacked a.state.now)) a.slot) c.ask.result)
answers c = let a = c.args in subst (λ s. AnswersAs (line_ask_call base (seen s) a.slot) c.ask.result) c.unpacked.ensures c.ask.ensures

pub put_answer-requires : goal.put_answer-requires
put_answer-requires c =
    let a = c.args in
    asked-few (unpacked a.state.now) a.slot c.ask.result (answers (goal.at.put_answer-requires c).After-ask).answer

pub returns : goal.returns
returns c =
    let a = c.args in
    ask_in a.state.now a.slot true (whole (goal.at.returns c).Else-not-formed) c.put_answer.result c.put_answer.new.answer
    (c.put_answer.ensures.0 ∙ (answers (goal.at.returns c).After-ask).number)
    (c.put_answer.ensures.1 ∙ ap (λ x. asked_row (answer_seen x)) (answers (goal.at.returns c).After-ask).answer ∙ ap asked_row (line_back (unpacked a.state.now) a.slot))
