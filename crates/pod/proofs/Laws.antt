-- Laws on answers. Cited by the proofs of the pod's functions; assumes nothing.
use mathlib.Core.Path.{◌≡◌, refl, ap, ◌∙◌}
use Prim.Native.Nat.{ℕ}
use Rattle.model.specs.Pod as M
use Rattle.pod.specs.declared.PodState.{PodState}
use Rattle.pod.specs.declared.PodAnswer.{PodAnswer}
use Rattle.pod.specs.Seen.{seen, held_report, report_seen, step_answer, AnswersAs}

-- What is held of an answer is seen again.
pub report-seen : (r : M.Report) → report_seen (held_report r) ≡ r
report-seen M.more = refl
report-seen (M.key_down key) = refl
report-seen (M.key_up key) = refl
report-seen (M.absolute flags x y) = refl
report-seen (M.relative left right dx dy) = refl
report-seen (M.time_of_day c) = refl
report-seen (M.both_sticks t0 p0 t1 p1) = refl
report-seen (M.one_stick which t p) = refl
report-seen M.self_test_passed = refl
report-seen M.bad_byte = refl
report-seen M.bad_report = refl
report-seen M.refused = refl

-- So all that `step` promises follows from the answer alone.
pub answers : (s : PodState) (b : ℕ) (r : PodAnswer) → r ≡ step_answer s b → AnswersAs s b r
answers s b r e =
    let back = ap (λ (x : PodAnswer). report_seen x.report) e ∙ report-seen (M.step (seen s) b).report in
    record { answer = e; refusal = ap M.report_refusal back; numbers = ap M.report_numbers back }
