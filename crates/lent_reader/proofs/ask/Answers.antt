-- `lent_reader::ask`: bytes that are not formed, and the answer of the state that they hold. Assumes nothing.
use mathlib.Core.Path.{subst}
use Rattle.model.specs.Panel.{base}
use Rattle.model.specs.Calls.{ask_call}
use Rattle.reader.specs.States.{seen}
use Rattle.reader.specs.Seen.{AnswersAs}
use Rattle.lent_reader.specs.Layout.{unpacked}
use Rattle.lent_reader.proofs.Asked.{asked-few}
use Rattle.lent_reader.proofs.ask.Goals.{After-ask, Else-not-formed}
use Rattle.lent_reader.proofs.ask.Goals as goal

-- The answer by value, of the state that they hold.
answers : (c : After-ask) → (let a = c.args in AnswersAs (ask_call base (seen (unpacked a.state.now)) a.slot) c.ask.result)
answers c = let a = c.args in subst (λ s. AnswersAs (ask_call base (seen s) a.slot) c.ask.result) c.unpacked.ensures c.ask.ensures

pub put_answer-requires : goal.put_answer-requires
put_answer-requires c =
    asked-few (unpacked c.args.state.now) c.args.slot c.ask.result (answers (goal.at.put_answer-requires c).After-ask).answer
