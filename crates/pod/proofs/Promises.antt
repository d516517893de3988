-- What the pod's promises settle: one answer for every input, document 01's refusal number and numbers of it, and well-formed states.
-- Cited by the proofs of show_pod; assumes nothing.
use mathlib.Core.Path.{◌≡◌, refl, sym, ap, subst}
use mathlib.Core.Bool.{true}
use mathlib.Core.List.{List, ◌∷◌, ◌++◌}
use Prim.Native.Nat.{ℕ}
use Rattle.model.specs.Unique.{Gives}
use Rattle.model.specs.Pod as M
use Rattle.model.specs.Refusals.{Exact, pod_rows}
use Rattle.model.proofs.Pod.{step-formed, pod_exact, run-cut}
use Rattle.pod.specs.declared.PodState.{PodState}
use Rattle.pod.specs.declared.PodAnswer.{PodAnswer}
use Rattle.pod.specs.Seen.{seen, held, refusal_of, numbers_of, step_answer, state_after}
use Rattle.pod.proofs.step.Reads as step

-- What is seen of a state is held again.
pub held-seen : (s : PodState) → held (seen s) ≡ s
held-seen s = refl

-- What is held of a state is seen again.
pub seen-held : (s : M.State) → seen (held s) ≡ s
seen-held s = refl

-- A step keeps a state well formed.
pub step_steady : (s : PodState) (byte : ℕ) → M.well_formed (seen s) ≡ true → M.well_formed (seen (step_answer s byte).state) ≡ true
step_steady s byte e = step-formed (seen s) byte e

-- ---- of the contract of `step` itself, in document 01's numbers

-- Its refusal number is 2 if and only if the state is not well formed, and 0 if and only if it is.
pub step_exact : (κs : _) (a : _) (r : PodAnswer) (t : _) → step.Learnt κs a r t → Exact (refusal_of r.report) (pod_rows (seen a.0))
step_exact κs a r t e = subst (λ n. Exact n (pod_rows (seen a.0))) (sym e.refusal) (pod_exact (seen a.0) a.1.0)

-- Its numbers are the model's.
pub step-numbers : Gives step.Learnt (λ κs r. numbers_of r.report) (λ κs a. M.report_numbers (M.step (seen a.0) a.1.0).report)
step-numbers κs a r s e = e.numbers

-- ---- a run

-- The state after a byte and others is that after the others, from the state that the byte's step leaves.
pub after_one : (s : PodState) (b : ℕ) (bs : List ℕ) → state_after s (b ∷ bs) ≡ state_after (step_answer s b).state bs
after_one s b bs = refl

-- The state after bytes and then others does not depend on the cut.
pub after-cut : (s : PodState) (xs ys : List ℕ) → state_after s (xs ++ ys) ≡ state_after (state_after s xs) ys
after-cut s xs ys = ap (λ r. held r.state) (run-cut (seen s) xs ys)
