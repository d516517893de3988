-- What the promises of the cranes' reader settle, for every answer that they allow: the number and the values of a question, and the state after a run. Assumes nothing.
use mathlib.Core.Path.{◌≡◌, ap, ◌∙◌}
use mathlib.Core.List.{List}
use Prim.Native.Nat.{ℕ}
use Rattle.model.specs.Unique.{Gives}
use Rattle.model.specs.Panel.{crane}
use Rattle.model.specs.Records.{events_of}
use Rattle.model.specs.States.{reader_good}
use Rattle.model.specs.Calls as C
use Rattle.model.specs.Calls.{is_accepted, run_verdict, run_call, asked_number, asked_values, ask_call}
use Rattle.model.proofs.Calls.{passed, by_verdict, events_steady}
use Rattle.crane_reader.specs.declared.ReaderState.{ReaderState}
use Rattle.crane_reader.specs.declared.RunAnswer.{RunAnswer}
use Rattle.crane_reader.specs.States.{seen, held, ran_from}
use Rattle.crane_reader.proofs.Held.{state_back, good-seen}
use Rattle.crane_reader.specs.Seen.{answer_seen, refusal_of, values_of}
use Rattle.crane_reader.proofs.Back.{back_call}
use Rattle.crane_reader.proofs.ask.Reads as ask

-- ---- of the contract of `ask` itself

-- The answer is the model's.
pub ask-answer : Gives ask.Learnt (λ κs r. answer_seen r) (λ κs a. ask_call crane (seen a.0) a.1.0.0)
ask-answer κs a r s e = ap answer_seen e.answer ∙ back_call a.0 a.1.0.0

-- Its refusal number is the model's.
pub ask-number : Gives ask.Learnt (λ κs r. refusal_of r) (λ κs a. asked_number (ask_call crane (seen a.0) a.1.0.0))
ask-number κs a r s e = e.number

-- Its values are the model's.
pub ask-values : Gives ask.Learnt (λ κs r. values_of r) (λ κs a. asked_values (ask_call crane (seen a.0) a.1.0.0))
ask-values κs a r s e = e.values

-- ---- the state after a run

-- An accepted run leaves a good state and a refused one the state as it came in, so that what is held of either is seen again.
back_run : (s : ReaderState) (bs : List ℕ) → seen (held (run_call crane (seen s) bs).state) ≡ (run_call crane (seen s) bs).state
unfolding run_call run_verdict
back_run s bs =
    by_verdict (λ (a : C.Ran). seen (held a.state) ≡ a.state) (is_accepted (run_verdict crane (seen s) bs)) _ _
    (λ h. good-seen s.setup _ (events_steady crane (seen s) (events_of bs) (passed (reader_good crane (seen s)) C.state _ tt h).0))
    (ap seen (state_back s))

-- The state of any answer that `run` allows is the model's.
pub run-state : (s : ReaderState) (bs : List ℕ) (q : RunAnswer) → q ≡ ran_from (run_call crane (seen s) bs) → seen q.state ≡ (run_call crane (seen s) bs).state
run-state s bs q e = ap (λ (x : RunAnswer). seen x.state) e ∙ back_run s bs
