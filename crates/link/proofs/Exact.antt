-- Demand 1 of the code, refusals exactly as stated: for each call and each of its refusals, document 01's number is answered if and only if its test
-- fails and the earlier ones pass, and 0 if and only if all pass. Cited by docs/PROMISES.md. Assumes nothing.
use mathlib.Core.Path.{◌≡◌, sym, ap, ◌∙◌, subst}
use mathlib.Core.Bool.{Bool}
use mathlib.Core.List.{List}
use Prim.Native.Nat.{ℕ}
use lib.IntN.{ℤ}
use lib.ListN.{length}
use Rattle.model.specs.Panel.{base}
use Rattle.model.specs.Calls as C
use Rattle.model.specs.Calls.{fresh_reader_call, run_call, step_call, load_call}
use Rattle.model.specs.Refusals.{Row, Exact, fresh_rows, run_rows, state_rows, load_rows}
use Rattle.model.specs.Pointing.{fresh_pointer_call, pointer_call, pointer_rows}
use Rattle.model.proofs.Calls.{ask_exact}
use Rattle.model.proofs.Exact as M
use Rattle.model.proofs.PointerCalls.{fresh_pointer_exact, pointer_exact}
use Rattle.panel.specs.declared.Setup.{Setup}
use Rattle.common.specs.declared.Verdict.{Verdict}
use Rattle.panel.specs.Seen.{setup_of}
use Rattle.common.specs.Seen.{verdict_from, verdict_number}
use Rattle.common.proofs.Back.{number-seen}
use Rattle.records.specs.declared.Event.{Event}
use Rattle.records.specs.Seen.{event_of}
use Rattle.writer.specs.declared.WriterState.{WriterState}
use Rattle.writer.specs.declared.FreshWriter.{FreshWriter}
use Rattle.writer.specs.declared.Written.{Written}
use Rattle.writer.specs.Seen as W
use Rattle.reader.specs.declared.ReaderState.{ReaderState}
use Rattle.reader.specs.declared.RunAnswer.{RunAnswer}
use Rattle.reader.specs.declared.FreshAnswer.{FreshAnswer}
use Rattle.reader.specs.States.{seen}
use Rattle.reader.specs.declared.SlotAnswer.{SlotAnswer}
use Rattle.reader.specs.declared.LoadAnswer.{LoadAnswer}
use Rattle.reader.specs.Seen.{refusal_of}
use Rattle.reader.proofs.Back.{answers}
use Rattle.link.specs.Promises.{WriterMade, Wrote, ReaderMade, Ran, ReadOne, Loaded, Asked}

-- What is exact of the model's verdict is exact of the one that is held of it.
pub held_exact : (rows : List Row) (w : C.Verdict) (v : Verdict) → v ≡ verdict_from w → Exact (C.verdict_number w) rows → Exact (verdict_number v) rows
held_exact rows w v e x = subst (λ n. Exact n rows) (sym (ap verdict_number e ∙ number-seen w)) x

-- `WriterState::fresh`: 1, with the option on or off.
pub writer-made_exact : (u : Setup) (on : Bool) (r : FreshWriter) → WriterMade u on r → Exact (verdict_number r.verdict) (fresh_rows base (setup_of u))
writer-made_exact u on r e =
    let m = fresh_pointer_call base on (setup_of u) in
    held_exact (fresh_rows base (setup_of u)) m.verdict r.verdict (ap (λ (x : FreshWriter). x.verdict) e) (fresh_pointer_exact base on (setup_of u))

-- `write`: 2, 3, 4, 5.
pub wrote_exact : (s : WriterState) (f : List ℤ) (at : ℕ) (buf : List ℕ) (r : Written) (after : List ℕ) → Wrote s f at buf r after
    → Exact (verdict_number r.verdict) (pointer_rows base (W.seen s) f at (length buf))
wrote_exact s f at buf r after w =
    let m = pointer_call base (W.seen s) f at (length buf) in
    held_exact (pointer_rows base (W.seen s) f at (length buf)) m.verdict r.verdict (ap (λ (x : Written). x.verdict) w.0)
    (pointer_exact base (W.seen s) f at (length buf))

-- `ReaderState::fresh`: 1.
pub reader-made_exact : (u : Setup) (r : FreshAnswer) → ReaderMade u r → Exact (verdict_number r.verdict) (fresh_rows base (setup_of u))
reader-made_exact u r e =
    let m = fresh_reader_call base (setup_of u) in
    held_exact (fresh_rows base (setup_of u)) m.verdict r.verdict (ap (λ (x : FreshAnswer). x.verdict) e) (M.fresh-reader_exact base (setup_of u))

-- `run`: 2, 6.
pub ran_exact : (s : ReaderState) (bs : List ℕ) (q : RunAnswer) → Ran s bs q → Exact (verdict_number q.verdict) (run_rows base (seen s) bs)
ran_exact s bs q e =
    let m = run_call base (seen s) bs in
    held_exact (run_rows base (seen s) bs) m.verdict q.verdict (ap (λ (x : RunAnswer). x.verdict) e) (M.run_exact base (seen s) bs)

-- `read_one`: 2.
pub read_one_exact : (s : ReaderState) (e : Event) (q : RunAnswer) → ReadOne s e q → Exact (verdict_number q.verdict) (state_rows base (seen s))
read_one_exact s e q h =
    let m = step_call base (seen s) (event_of e) in
    held_exact (state_rows base (seen s)) m.verdict q.verdict (ap (λ (x : RunAnswer). x.verdict) h) (M.step_exact base (seen s) (event_of e))

-- `load`: 2, 7, 8.
pub loaded_exact : (s : ReaderState) (m : List ℤ) (c : ℕ) (q : LoadAnswer) → Loaded s m c q → Exact (verdict_number q.verdict) (load_rows base (seen s) m c)
loaded_exact s m c q e =
    let l = load_call base (seen s) m c in
    held_exact (load_rows base (seen s) m c) l.verdict q.verdict (ap (λ (x : LoadAnswer). x.verdict) e) (M.load_exact base (seen s) m c)

-- `ask`: 2.
pub asked_exact : (s : ReaderState) (k : ℕ) (r : SlotAnswer) → Asked s k r → Exact (refusal_of r) (state_rows base (seen s))
asked_exact s k r e = subst (λ n. Exact n (state_rows base (seen s))) (sym (answers s k r e).number) (ask_exact base (seen s) k)
