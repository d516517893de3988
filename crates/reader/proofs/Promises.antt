-- What the promises of the reader's calls settle, for every answer that they allow: the number and the values of a question, and the state after
-- a run, one record or a load. Cited by link. Assumes nothing.
use mathlib.Core.Path.{◌≡◌, ap, ◌∙◌}
use mathlib.Core.List.{List, [], ◌∷◌}
use Prim.Native.Nat.{ℕ}
use lib.IntN.{ℤ}
use Rattle.model.specs.Unique.{Gives}
use Rattle.model.specs.Panel.{base}
use Rattle.model.specs.Events as E
use Rattle.model.specs.Records.{events_of}
use Rattle.model.specs.States.{reader_good}
use Rattle.model.specs.Calls as C
use Rattle.model.specs.Calls.{check, is_accepted, run_verdict, run_call, step_call, load_verdict, load_call, asked_number, asked_values, ask_call}
use Rattle.model.proofs.Calls.{passed, by_verdict, events_steady, loaded_steady}
use Rattle.records.specs.declared.Event.{Event}
use Rattle.records.specs.Seen.{event_of}
use Rattle.reader.specs.declared.ReaderState.{ReaderState}
use Rattle.reader.specs.declared.RunAnswer.{RunAnswer}
use Rattle.reader.specs.States.{seen, held, ran_from}
use Rattle.reader.proofs.Held.{state_back, good-seen}
use Rattle.reader.specs.declared.LoadAnswer.{LoadAnswer}
use Rattle.reader.specs.Seen.{loaded_from, answer_seen, refusal_of, values_of}
use Rattle.reader.proofs.Back.{back_call}
use Rattle.reader.proofs.ask.Reads as ask

-- ---- of the contract of `ask` itself

-- The answer is the model's.
pub ask-answer : Gives ask.Learnt (λ κs r. answer_seen r) (λ κs a. ask_call base (seen a.0) a.1.0.0)
ask-answer κs a r s e = ap answer_seen e.answer ∙ back_call a.0 a.1.0.0

-- Its refusal number is the model's.
pub ask-number : Gives ask.Learnt (λ κs r. refusal_of r) (λ κs a. asked_number (ask_call base (seen a.0) a.1.0.0))
ask-number κs a r s e = e.number

-- Its values are the model's.
pub ask-values : Gives ask.Learnt (λ κs r. values_of r) (λ κs a. asked_values (ask_call base (seen a.0) a.1.0.0))
ask-values κs a r s e = e.values

-- ---- the state after a run, and after a load

-- An accepted run leaves a good state and a refused one the state as it came in, so that what is held of either is seen again.
back_run : (s : ReaderState) (bs : List ℕ) → seen (held (run_call base (seen s) bs).state) ≡ (run_call base (seen s) bs).state
unfolding run_call run_verdict
back_run s bs =
    by_verdict (λ (a : C.Ran). seen (held a.state) ≡ a.state) (is_accepted (run_verdict base (seen s) bs)) _ _
    (λ h. good-seen s.setup _ (events_steady base (seen s) (events_of bs) (passed (reader_good base (seen s)) C.state _ tt h).0))
    (ap seen (state_back s))

-- The state of any answer that `run` allows is the model's.
pub run-state : (s : ReaderState) (bs : List ℕ) (q : RunAnswer) → q ≡ ran_from (run_call base (seen s) bs) → seen q.state ≡ (run_call base (seen s) bs).state
run-state s bs q e = ap (λ (x : RunAnswer). seen x.state) e ∙ back_run s bs

back_step : (s : ReaderState) (e : E.Event) → seen (held (step_call base (seen s) e).state) ≡ (step_call base (seen s) e).state
unfolding step_call
back_step s e =
    by_verdict (λ (a : C.Ran). seen (held a.state) ≡ a.state) (is_accepted (check (reader_good base (seen s)) C.state C.accepted)) _ _
    (λ h. good-seen s.setup _ (events_steady base (seen s) (e ∷ []) (passed (reader_good base (seen s)) C.state _ tt h).0))
    (ap seen (state_back s))

-- The state of any answer that `read_one` allows is the model's.
pub read_one_state : (s : ReaderState) (e : Event) (q : RunAnswer) → q ≡ ran_from (step_call base (seen s) (event_of e))
    → seen q.state ≡ (step_call base (seen s) (event_of e)).state
read_one_state s e q h = ap (λ (x : RunAnswer). seen x.state) h ∙ back_step s (event_of e)

back_load : (s : ReaderState) (m : List ℤ) (c : ℕ) → seen (held (load_call base (seen s) m c).state) ≡ (load_call base (seen s) m c).state
unfolding load_call
back_load s m c = by_verdict (λ x. seen (held x) ≡ x) (is_accepted (load_verdict base (seen s) m c)) _ _ (λ h. good-seen s.setup _ (loaded_steady base (seen s) m c h)) (ap seen (state_back s))

-- The state of any answer that `load` allows is the model's.
pub load-state : (s : ReaderState) (m : List ℤ) (c : ℕ) (q : LoadAnswer) → q ≡ loaded_from (load_call base (seen s) m c) → seen q.state ≡ (load_call base (seen s) m c).state
load-state s m c q e = ap (λ (x : LoadAnswer). seen x.state) e ∙ back_load s m c
