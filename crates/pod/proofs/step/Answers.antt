-- `pod::step` meets its contract: a refusal, a byte that is stored and a byte that ends its report are the model's three laws
-- of a step. Cited by the proofs of its callers; assumes nothing.
use mathlib.Core.Path.{◌≡◌, sym, ap, ap₂, ◌∙◌}
use mathlib.Core.Bool.{Bool, true, false}
use mathlib.Core.List.{[], ◌∷◌, ◌++◌}
use Prim.Native.Nat.{◌+◌, ◌-◌, ◌≤◌, ◌<◌}
use native.Mathlib.Omega.{arith}
use lib.ListN.{take}
use Rattle.model.specs.Pod as M
use Rattle.model.specs.Pod.{amended, length_of, held_in, emptied, well_formed, waits_after, first_of, accepted, ending}
use Rattle.model.proofs.Pod.{formed, lengths, step-refused, step-more, step-last}
use Rattle.pod.specs.declared.PodState.{PodState}
use Rattle.pod.specs.declared.Report.{Report}
use Rattle.pod.specs.declared.PodAnswer.{PodAnswer}
use Rattle.pod.specs.Seen.{kind_seen, seen, held, held_report, report_seen, held_step}
use Rattle.pod.proofs.Laws.{report-seen, answers}
use Rattle.pod.proofs.step.Goals.{After-opened-kind, Else-not-well_formed}
use Rattle.pod.proofs.step.Goals as goal

-- past the refusal the state is well formed
taken : (c : Else-not-well_formed) → well_formed (seen c.args.state) ≡ true
taken c = sym c.well_formed-2.ensures ∙ c.if-not-well_formed.false

-- the kind is that of the model's first byte
kind : (c : After-opened-kind)
    → let a = c.args in
    kind_seen c.opened-kind.result ≡ amended a.state.waits (first_of (held_in (seen a.state)) a.byte)
kind c = c.opened-kind.ensures ∙ ap (amended c.args.state.waits) c.first_of.ensures

-- the state that holds nothing, with the wait that an answer leaves, and the answer
answered : {t : PodState} {v : Bool} {r : Report} (w : Bool) (q : M.Report)
    → t ≡ held (emptied v) → v ≡ waits_after w (report_seen r) → r ≡ held_report q
    → ◌≡◌ {A = PodAnswer} (record { state = t; report = r }) (held_step (accepted w (ending q)))
answered w q p h e =
    ap₂ {C = PodAnswer} (λ t r. record { state = t; report = r })
    (p ∙ ap (λ v. held (emptied v)) (h ∙ ap (λ r. waits_after w (report_seen r)) e ∙ ap (waits_after w) (report-seen q)))
    e

pub returns-then-not-well_formed : goal.returns-then-not-well_formed
returns-then-not-well_formed c =
    let s = seen c.args.state in
    let e : well_formed s ≡ false = sym c.well_formed-2.ensures ∙ c.if-not-well_formed.true in
    answers _ _ _ (ap held_step (sym (step-refused s c.args.byte e)))

pub overflow_add-state : goal.overflow_add-state
overflow_add-state c = omega (arith, (formed (seen c.args.state) (taken (goal.at.overflow_add-state c).Else-not-well_formed)).few)

pub bounds-next-next : goal.bounds-next-next
bounds-next-next c = omega (arith, c.if-state-length_of.true, c.length_of.ensures, lengths (kind_seen c.opened-kind.result))

pub returns-then-state-length_of : goal.returns-then-state-length_of
returns-then-state-length_of c =
    let s = seen c.args.state in
    let b = c.args.byte in
    let at = goal.at.returns-then-state-length_of c in
    let e = kind at.After-opened-kind in
    let l : s.count + 1 < length_of (amended s.waits (first_of (held_in s) b)) = omega (arith, c.if-state-length_of.true, c.length_of.ensures, ap length_of e) in
    answers _ _ _ (ap held_step (sym (step-more s b (taken at.Else-not-well_formed) l)))

pub returns : goal.returns
returns c =
    let s = seen c.args.state in
    let b = c.args.byte in
    let at = goal.at.returns c in
    let e = kind at.After-opened-kind in
    let k = amended s.waits (first_of (held_in s) b) in
    let n = c.length_of.ensures in
    let l : length_of k ≤ s.count + 1 = omega (arith, c.if-state-length_of.false, n, ap length_of e) in
    let q = M.judged k (take (length_of k - 1) s.bytes ++ b ∷ []) in
    answers _ _ _
    (answered s.waits q c.emptied.ensures c.waits_after.ensures (rw e at c.judge-report.ensures)
    ∙ ap held_step (sym (step-last s b (taken at.Else-not-well_formed) l)))
