-- What 02's K3 says, of the contracts alone: the answers that `step` allows to any bytes, beside document 01's machine. Assumes nothing.
use mathlib.Core.Path.{◌≡◌, refl, ap, ap₂, ◌∙◌}
use mathlib.Core.Bool.{true, false}
use mathlib.Core.List.{List, [], ◌∷◌}
use Prim.Native.Nat.{ℕ}
use lib.Dec.{leb}
use lib.ListN.{length, set}
use Rattle.model.specs.Pod as M
use Rattle.model.proofs.Pod.{fresh-formed}
use Rattle.model.proofs.SelfTest.{run-plain, answers-plain, differs_once}
use Rattle.pod.specs.declared.PodState.{PodState}
use Rattle.pod.specs.declared.PodAnswer.{PodAnswer}
use Rattle.pod.specs.Seen.{seen, report_seen, AnswersAs, state_after, Answered, reports_of, state_left}
use Rattle.pod.proofs.Laws.{report-seen}
use Rattle.pod.proofs.PodState.fresh.Reads as fresh
use Rattle.pod.proofs.step.Reads as step

-- What `Answered` asks of each answer is the contract of `step` itself.
pub answered-is : (κs : _) (a : _) (r : PodAnswer) (t : _) → step.Learnt κs a r t → AnswersAs a.0 a.1.0 r
answered-is κs a r t e = e

-- Whatever the contract allows, the answers are the model's,
answered-reports : (s : PodState) (bs : List ℕ) (rs : List PodAnswer) → Answered s bs rs → reports_of rs ≡ M.answers_by M.amended (seen s) bs
answered-reports s [] [] h = refl
answered-reports s [] (r ∷ rs) h = absurd h
answered-reports s (b ∷ bs) [] h = absurd h
answered-reports s (b ∷ bs) (r ∷ rs) h =
    ap₂ (λ x xs. x ∷ xs)
    (ap (λ (q : PodAnswer). report_seen q.report) h.0.answer ∙ report-seen (M.step (seen s) b).report)
    (answered-reports r.state bs rs h.1 ∙ ap (λ (q : PodAnswer). M.answers_by M.amended (seen q.state) bs) h.0.answer)

-- and so is the state that they leave.
answered-left : (s : PodState) (bs : List ℕ) (rs : List PodAnswer) → Answered s bs rs → state_left s rs ≡ state_after s bs
answered-left s [] [] h = refl
answered-left s [] (r ∷ rs) h = absurd h
answered-left s (b ∷ bs) [] h = absurd h
answered-left s (b ∷ bs) (r ∷ rs) h = answered-left r.state bs rs h.1 ∙ ap (λ (q : PodAnswer). state_after q.state bs) h.0.answer

module _ (s : PodState) (bs : List ℕ) (rs : List PodAnswer) (h : Answered s bs rs) where
  -- A state that does not wait is answered as document 01's machine answers it, and left as that leaves it.
  pub unwaiting_answers : s.waits ≡ false → reports_of rs ≡ M.answers_by M.unamended (seen s) bs
  unwaiting_answers e = answered-reports s bs rs h ∙ answers-plain (seen s) bs e

  pub unwaiting_state : s.waits ≡ false → seen (state_left s rs) ≡ (M.run_by M.unamended (seen s) bs).state
  unwaiting_state e = ap seen (answered-left s bs rs h) ∙ ap (λ r. r.state) (run-plain (seen s) bs e)

  -- A well-formed state that waits is answered so too, but for the first 0xF0 that stands as a first byte,
  pub waiting-answers : M.well_formed (seen s) ≡ true → s.waits ≡ true
      → reports_of rs ≡ set (M.answers_by M.unamended (seen s) bs) (M.before_self_test (seen s) bs) M.self_test_passed
  waiting-answers f e = answered-reports s bs rs h ∙ (differs_once (seen s) bs f e).answers

  -- and left so, waiting on where there was none.
  pub waiting-state : M.well_formed (seen s) ≡ true → s.waits ≡ true
      → seen (state_left s rs) ≡ M.waiting (leb (length bs) (M.before_self_test (seen s) bs)) (M.run_by M.unamended (seen s) bs).state
  waiting-state f e = ap seen (answered-left s bs rs h) ∙ (differs_once (seen s) bs f e).state

-- From power-up on: whatever `fresh` answers is such a state.
pub fresh-answers : (κs : _) (a : _) (s : PodState) (t : _) → fresh.Learnt κs a s t → (bs : List ℕ) (rs : List PodAnswer) → Answered s bs rs
    → reports_of rs ≡ set (M.answers_by M.unamended M.fresh bs) (M.before_self_test M.fresh bs) M.self_test_passed
fresh-answers κs a s t e bs rs h =
    answered-reports s bs rs h ∙ ap (λ (q : PodState). M.answers_by M.amended (seen q) bs) e ∙ (differs_once M.fresh bs fresh-formed refl).answers

-- It is also the state after a reset, whatever the state was before.
pub fresh-is-reset : (κs : _) (a : _) (s : PodState) (t : _) → fresh.Learnt κs a s t → (before : PodState) → seen s ≡ M.after_reset (seen before)
fresh-is-reset κs a s t e before = ap seen e
