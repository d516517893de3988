-- Of the code: a run over whole records and then over more is the run over both, `read_one` is `run` on its eight bytes, and so the whole state
-- is fixed after every single event. Cited by docs/PROMISES.md. Assumes nothing.
use mathlib.Core.Path.{◌≡◌, sym, ap, ap₂, ◌∙◌}
use mathlib.Core.Bool.{true}
use mathlib.Core.List.{List, ◌++◌}
use Prim.Native.Nat.{ℕ, ◌%◌}
use native.Mathlib.Omega.{arith}
use lib.ListN.{length}
use Rattle.model.specs.Panel.{base}
use Rattle.model.specs.Events.{classify}
use Rattle.model.specs.Records.{record_bytes, event_at}
use Rattle.model.specs.Reader.{step, plus}
use Rattle.model.specs.States as S
use Rattle.model.specs.States.{reader_good}
use Rattle.model.specs.Calls as C
use Rattle.model.specs.Calls.{run_call, step_call}
use Rattle.model.proofs.Bytes.{two, four}
use Rattle.model.proofs.Chain.{run-cut, one_record, one_step}
use Rattle.panel.specs.Seen.{setup_of, panel_seen}
use Rattle.panel.proofs.Setups.{holds}
use Rattle.records.specs.declared.Event.{Event}
use Rattle.records.specs.Seen.{event_of}
use Rattle.records.proofs.Over.{record_length}
use Rattle.common.specs.Seen.{verdict_from, counts_from}
use Rattle.common.proofs.Back.{counts-seen}
use Rattle.reader.specs.declared.ReaderState.{ReaderState}
use Rattle.reader.specs.declared.RunAnswer.{RunAnswer}
use Rattle.reader.specs.States.{seen, held, ran_from}
use Rattle.reader.proofs.Promises.{run-state, read_one_state}
use Rattle.link.specs.Promises.{Ran, ReadOne, Sized, bytes_of, joined}

-- Two answers of the model that are joined and then held are joined as they are held.
held-joined : (a b : C.Ran) → ran_from (C.joined a b) ≡ joined (ran_from a) (ran_from b)
held-joined a b =
    ap₂ {C = RunAnswer} (λ x y. record { verdict = verdict_from b.verdict; state = held b.state; counts = counts_from (plus x y) })
    (sym (counts-seen a.counts)) (sym (counts-seen b.counts))

-- Of any state, and two strings of whole records: the answer to both at once is the two answers joined, the counts added up.
pub cut : (s : ReaderState) (xs ys : List ℕ) (a b q : RunAnswer) → length xs % 8 ≡ 0 → length ys % 8 ≡ 0
    → Ran s xs a → Ran a.state ys b → Ran s (xs ++ ys) q → q ≡ joined a b
cut s xs ys a b q h k ea eb e =
    let first = run_call base (seen s) xs in
    e
    ∙ ap ran_from (run-cut base (seen s) xs ys h k)
    ∙ ap (λ (x : S.ReaderState). ran_from (C.joined first (run_call base x ys))) (sym (run-state s xs a ea))
    ∙ held-joined first (run_call base (seen a.state) ys)
    ∙ sym (ap₂ joined ea eb)

says : (e : Event) → Sized e → event_at (bytes_of e) 0 ≡ event_of e
unfolding record_bytes
says e z = rw (two e.kind z.kind, two e.code z.code, four e.value z.value)

-- Any two answers to a record by itself and to its eight bytes are equal, whatever the state.
pub one_is-run : (s : ReaderState) (e : Event) (q r : RunAnswer) → Sized e → ReadOne s e q → Ran s (bytes_of e) r → q ≡ r
one_is-run s e q r z o n =
    o ∙ sym (n ∙ ap ran_from (one_record base (seen s) (bytes_of e) (record_length e.kind e.code e.value) ∙ ap (step_call base (seen s)) (says e z)))

-- So a run with one record more ends as `read_one` does, from the state after the run without it.
pub one_more : (s : ReaderState) (xs : List ℕ) (e : Event) (a b q : RunAnswer) → Sized e → length xs % 8 ≡ 0
    → Ran s xs a → ReadOne a.state e b → Ran s (xs ++ bytes_of e) q → q ≡ joined a b
one_more s xs e a b q z h ea eb eq =
    let c = ran_from (run_call base (seen a.state) (bytes_of e)) in
    let same = one_is-run a.state e b c z eb (λ i. c) in
    let whole : length (bytes_of e) % 8 ≡ 0 = omega (arith, record_length e.kind e.code e.value) in
    cut s xs (bytes_of e) a b q h whole ea same eq

-- And one event fixes the whole state of a well-formed reader, the pending table too: it is the machine's step.
pub each_event : (s : ReaderState) (e : Event) (q : RunAnswer) → reader_good base (seen s) ≡ true → ReadOne s e q
    → seen q.state ≡ record { setup = setup_of s.setup; reader = step (seen s).reader (classify (panel_seen s.setup) (event_of e)) }
each_event s e q g o = read_one_state s e q o ∙ one_step base (seen s) (event_of e) (holds _ g)
