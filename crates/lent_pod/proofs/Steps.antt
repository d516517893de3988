-- What the pod's two calls answer, refusal by refusal: each law shows a whole promise from what the code found. Assumes nothing.
use mathlib.Core.Path.{◌≡◌, refl, sym, ap, ◌∙◌}
use mathlib.Core.Bool.{true, false, cond}
use mathlib.Core.List.{List, []}
use Prim.Native.Nat.{ℕ, ◌<◌}
use native.Mathlib.Omega.{arith}
use lib.Dec.{eqb}
use lib.IntN.{ℤ, pos}
use lib.ListN.{length}
use Rattle.model.specs.Pod as M
use Rattle.model.proofs.Pod.{formed as facts, step-refused, step-formed}
use Rattle.pod.specs.declared.PodState.{PodState}
use Rattle.pod.specs.declared.PodAnswer.{PodAnswer}
use Rattle.pod.specs.Seen.{seen, held, report_seen, refusal_of, fresh_state, step_answer}
use Rattle.pod.proofs.Laws.{report-seen}
use Rattle.lent_pod.specs.Pods.{pod_size, formed, unpacked, packed, padded, report_told, PodFresh, step_of, PodStepped}

-- ---- a fresh state

pub fresh-refused : (b : List ℕ) (r : ℕ) → eqb (length b) pod_size ≡ false → r ≡ 2 → PodFresh b r b
fresh-refused b r e n = record { number = rw e n; state = rw e }

pub fresh-made : (b after : List ℕ) (r : ℕ) → eqb (length b) pod_size ≡ true → r ≡ 0 → after ≡ packed fresh_state → PodFresh b r after
fresh-made b after r e n p = record { number = rw e n; state = rw e p }

-- ---- a byte

-- Bytes that have not the form.
pub step_shapeless : (b : List ℕ) (byte r : ℕ) (told : List ℤ) → formed b ≡ false → r ≡ 2 → told ≡ padded (pos 0) 7 [] → PodStepped b byte r b told
step_shapeless b byte r told e n t = record { number = rw e n; state = rw e; answer = rw e t }

-- The library's answer, seen as the model's.
step-seen : (b : List ℕ) (byte : ℕ) (a : PodAnswer) → formed b ≡ true → a ≡ step_answer (unpacked b) byte → report_seen a.report ≡ (step_of b byte).report
step-seen b byte a e h = rw e (ap (λ (x : PodAnswer). report_seen x.report) h ∙ report-seen (M.step (seen (unpacked b)) byte).report)

-- A state that is not well formed.
pub step-turned : (b : List ℕ) (byte r : ℕ) (told : List ℤ) (a : PodAnswer) → formed b ≡ true → a ≡ step_answer (unpacked b) byte
    → r ≡ refusal_of a.report → eqb r 0 ≡ false → told ≡ report_told (report_seen a.report) → PodStepped b byte r b told
step-turned b byte r told a e h n z t =
    let q = step-seen b byte a e h in
    let n' : r ≡ M.report_refusal (step_of b byte).report = n ∙ ap M.report_refusal q in record {
      number = n';
      state = sym (ap (λ k. cond (eqb k 0) (packed (held (step_of b byte).state)) b) (sym n') ∙ ap (λ f. cond f (packed (held (step_of b byte).state)) b) z);
      answer = t ∙ ap report_told q;
    }

-- A byte that is taken.
pub step-taken : (b : List ℕ) (byte r : ℕ) (told : List ℤ) (a : PodAnswer) (after : List ℕ) → formed b ≡ true → a ≡ step_answer (unpacked b) byte
    → r ≡ refusal_of a.report → eqb r 0 ≡ true → told ≡ report_told (report_seen a.report) → after ≡ packed a.state → PodStepped b byte r after told
step-taken b byte r told a after e h n z t p =
    let q = step-seen b byte a e h in
    let n' : r ≡ M.report_refusal (step_of b byte).report = n ∙ ap M.report_refusal q in
    let s : a.state ≡ held (step_of b byte).state = rw e (ap (λ (x : PodAnswer). x.state) h) in record {
      number = n';
      state = p ∙ ap packed s ∙ sym (ap (λ k. cond (eqb k 0) (packed (held (step_of b byte).state)) b) (sym n') ∙ ap (λ f. cond f (packed (held (step_of b byte).state)) b) z);
      answer = t ∙ ap report_told q;
    }

-- ---- a state that is packed holds at most six bytes

-- Only a well-formed state is not refused.
taken-formed : (s : M.State) (byte : ℕ) → M.report_refusal (M.step s byte).report ≡ 0 → M.well_formed s ≡ true
taken-formed s byte e =
    elim (M.well_formed s) as (λ t. M.well_formed s ≡ t → M.well_formed s ≡ true)
    [ true ↦ λ h. h | false ↦ λ h. absurd (omega (arith, sym e ∙ ap (λ (a : M.Stepped). M.report_refusal a.report) (step-refused s byte h))) ] refl

pub few-held : (s : PodState) (byte : ℕ) (a : PodAnswer) → a ≡ step_answer s byte → refusal_of a.report ≡ 0 → a.state.count < 256
few-held s byte a h e =
    let q = M.step (seen s) byte in
    let z : M.report_refusal q.report ≡ 0 = sym (ap M.report_refusal (report-seen q.report)) ∙ sym (ap (λ (x : PodAnswer). refusal_of x.report) h) ∙ e in
    let few = (facts q.state (step-formed (seen s) byte (taken-formed (seen s) byte z))).few in
    omega (arith, few, ap (λ (x : PodAnswer). x.state.count) h)
