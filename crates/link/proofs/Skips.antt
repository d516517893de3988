-- What the promises of `run` and `read_one` tell of skipped events, for every answer that they allow: the counts by the events' numbers, and the
-- first one (K4). Cited by docs/PROMISES.md. Assumes nothing.
use mathlib.Core.Path.{◌≡◌, refl, sym, ap, ◌∙◌, subst}
use mathlib.Core.List.{List, [], ◌∷◌}
use Prim.Native.Nat.{ℕ, ◌%◌}
use lib.ListN.{length}
use borrow.Author.Tests.{eq-eqb}
use Rattle.model.specs.Panel.{base}
use Rattle.model.specs.Records.{events_of}
use Rattle.model.specs.Reader.{nothing, run}
use Rattle.model.specs.Skips.{SkipsTold}
use Rattle.model.specs.States.{reader_good}
use Rattle.model.specs.Calls as C
use Rattle.model.specs.Calls.{is_accepted, check, run_verdict, run_call, step_call}
use Rattle.model.proofs.Answers.{run-whole, step-whole}
use Rattle.model.proofs.Calls.{by_verdict}
use Rattle.model.proofs.Skips.{skips-told}
use Rattle.common.specs.declared.Verdict.TheVariants.{Accepted}
use Rattle.common.specs.Seen.{verdict_from, counts_of, counts_from}
use Rattle.common.proofs.Back.{counts-seen}
use Rattle.panel.specs.Seen.{panel_seen}
use Rattle.records.specs.declared.Event.{Event}
use Rattle.records.specs.Seen.{event_of}
use Rattle.reader.specs.declared.ReaderState.{ReaderState}
use Rattle.reader.specs.declared.RunAnswer.{RunAnswer}
use Rattle.reader.specs.States.{seen}
use Rattle.link.specs.Promises.{Ran, ReadOne, GoodReader}

-- A run over whole records of a well-formed state, any events and any mode.
pub run-skips : (s : ReaderState) (bs : List ℕ) (q : RunAnswer) → GoodReader s → length bs % 8 ≡ 0 → Ran s bs q
    → SkipsTold (panel_seen s.setup) (seen s).reader (events_of bs) (counts_of q.counts)
unfolding run
run-skips s bs q g w e =
    let whole = run-whole base (seen s) bs g (eq-eqb (length bs % 8) 0 w) in
    let told = ap (λ (x : RunAnswer). counts_of x.counts) e ∙ counts-seen (run_call base (seen s) bs).counts ∙ ap (λ (x : C.Ran). x.counts) whole in
    subst (SkipsTold (panel_seen s.setup) (seen s).reader (events_of bs)) (sym told) (skips-told (panel_seen s.setup) (seen s).reader (events_of bs))

-- One record by itself.
pub read_one_skips : (s : ReaderState) (e : Event) (q : RunAnswer) → GoodReader s → ReadOne s e q
    → SkipsTold (panel_seen s.setup) (seen s).reader (event_of e ∷ []) (counts_of q.counts)
unfolding run
read_one_skips s e q g h =
    let whole = step-whole base (seen s) (event_of e) g in
    let told = ap (λ (x : RunAnswer). counts_of x.counts) h ∙ counts-seen (step_call base (seen s) (event_of e)).counts ∙ ap (λ (x : C.Ran). x.counts) whole in
    subst (SkipsTold (panel_seen s.setup) (seen s).reader (event_of e ∷ [])) (sym told) (skips-told (panel_seen s.setup) (seen s).reader (event_of e ∷ []))

-- ---- a refused call: zeros and none

abbrev ZerosUnlessAccepted : C.Ran → Type 0
ZerosUnlessAccepted a = (verdict_from a.verdict ≡ Accepted → ⊥) → a.counts ≡ nothing

pub run-refused-none : (s : ReaderState) (bs : List ℕ) (q : RunAnswer) → Ran s bs q → (q.verdict ≡ Accepted → ⊥) → q.counts ≡ counts_from nothing
unfolding run_call
run-refused-none s bs q e n =
    let zeros = by_verdict ZerosUnlessAccepted (is_accepted (run_verdict base (seen s) bs)) _ _ (λ _ m. absurd (m refl)) (λ _. refl) in
    ap (λ (x : RunAnswer). x.counts) e ∙ ap counts_from (zeros (λ v. n (ap (λ (x : RunAnswer). x.verdict) e ∙ v)))

pub read_one_refused-none : (s : ReaderState) (e : Event) (q : RunAnswer) → ReadOne s e q → (q.verdict ≡ Accepted → ⊥) → q.counts ≡ counts_from nothing
unfolding step_call
read_one_refused-none s e q h n =
    let zeros = by_verdict ZerosUnlessAccepted (is_accepted (check (reader_good base (seen s)) C.state C.accepted)) _ _ (λ _ m. absurd (m refl)) (λ _. refl) in
    ap (λ (x : RunAnswer). x.counts) h ∙ ap counts_from (zeros (λ v. n (ap (λ (x : RunAnswer). x.verdict) h ∙ v)))
