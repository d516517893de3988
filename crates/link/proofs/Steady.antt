-- Of the code: fresh states are well formed, and whatever calls come, accepted or refused, they stay so and keep their setup.
-- Cited by Loss and docs/PROMISES.md. Assumes nothing.
use mathlib.Core.Path.{◌≡◌, refl, sym, ap, ◌∙◌, subst}
use mathlib.Core.Bool.{Bool}
use mathlib.Core.List.{List, [], ◌∷◌}
use Prim.Native.Nat.{ℕ}
use lib.Dec.{T}
use lib.IntN.{ℤ}
use Rattle.model.specs.Panel.{base}
use Rattle.model.specs.States as S
use Rattle.model.specs.States.{reader_good, fresh_reader}
use Rattle.model.specs.Calls as C
use Rattle.model.specs.Calls.{is_accepted, fresh_verdict, fresh_reader_call}
use Rattle.model.specs.Pointing.{pointer_good, fresh_pointer_call}
use Rattle.model.proofs.Bools.{is_true}
use Rattle.model.proofs.Calls.{accepted-is, fresh-reader-good, run_steady, step_steady, load_steady}
use Rattle.model.proofs.Chain.{run-setup, step-setup, load-setup}
use Rattle.panel.specs.declared.Setup.{Setup}
use Rattle.common.specs.declared.Verdict.{Verdict}
use Rattle.common.specs.declared.Verdict.TheVariants.{Accepted}
use Rattle.panel.specs.Seen.{setup_of, setup_from, panel_seen}
use Rattle.common.specs.Seen.{verdict_of, verdict_from}
use Rattle.common.proofs.Back.{verdict-seen}
use Rattle.panel.proofs.Setups.{holds}
use Rattle.records.specs.declared.Event.{Event}
use Rattle.records.specs.Seen.{event_of}
use Rattle.writer.specs.declared.WriterState.{WriterState}
use Rattle.writer.specs.declared.FreshWriter.{FreshWriter}
use Rattle.writer.specs.declared.Written.{Written}
use Rattle.writer.specs.Seen as W
use Rattle.writer.proofs.Demands.{fresh_steady, steady}
use Rattle.reader.specs.declared.ReaderState.{ReaderState}
use Rattle.reader.specs.declared.RunAnswer.{RunAnswer}
use Rattle.reader.specs.declared.FreshAnswer.{FreshAnswer}
use Rattle.reader.specs.States as R
use Rattle.reader.proofs.Held.{good-seen}
use Rattle.reader.specs.declared.LoadAnswer.{LoadAnswer}
use Rattle.reader.proofs.Promises.{run-state, read_one_state, load-state}
use Rattle.link.specs.Promises.{WriterMade, Wrote, ReaderMade, Ran, ReadOne, Loaded, GoodWriter, GoodReader}
use Rattle.link.specs.Host.{HostCall, run, read_one, load, ask, Allowed, state_after, AllAllowed, state_after_all}

-- A verdict that is seen as accepted was so.
pub was_accepted : (v : C.Verdict) (w : Verdict) → w ≡ verdict_from v → w ≡ Accepted → T (is_accepted v)
was_accepted v w e h = subst (λ x. T (is_accepted x)) (sym (sym (verdict-seen v) ∙ ap verdict_of (sym e ∙ h))) tt

-- ---- the writer

-- A fresh writer that is not refused is well formed.
pub writer-made-good : (u : Setup) (on : Bool) (r : FreshWriter) → WriterMade u on r → r.verdict ≡ Accepted → GoodWriter r.state
writer-made-good u on r e h =
    let took = was_accepted (fresh_pointer_call base on (setup_of u)).verdict r.verdict (ap (λ (x : FreshWriter). x.verdict) e) h in
    ap (λ (x : FreshWriter). pointer_good base (W.seen x.state)) e ∙ is_true _ (fresh_steady u on took)

-- Whatever frame it is handed, a well-formed writer stays so.
pub written-good : (s : WriterState) (f : List ℤ) (at : ℕ) (buf : List ℕ) (r : Written) (after : List ℕ) → Wrote s f at buf r after
    → GoodWriter s → GoodWriter r.state
written-good s f at buf r after w g = ap (λ (x : Written). pointer_good base (W.seen x.state)) w.0 ∙ is_true _ (steady s f buf at (holds _ g))

-- ---- the reader

made-state : (u : Setup) → T (is_accepted (fresh_reader_call base (setup_of u)).verdict)
    → (fresh_reader_call base (setup_of u)).state ≡ record { setup = setup_of u; reader = fresh_reader (panel_seen u) }
unfolding fresh_reader_call
made-state u h = accepted-is (is_accepted (fresh_verdict base (setup_of u))) _ _ h

module _ (u : Setup) (r : FreshAnswer) (e : ReaderMade u r) (h : r.verdict ≡ Accepted) where
  took : T (is_accepted (fresh_reader_call base (setup_of u)).verdict)
  took = was_accepted (fresh_reader_call base (setup_of u)).verdict r.verdict (ap (λ (x : FreshAnswer). x.verdict) e) h

  -- A fresh reader that is not refused is well formed.
  pub reader-made-good : GoodReader r.state
  unfolding took
  reader-made-good =
      let x = made-state u took in
      let good = subst (λ (y : S.ReaderState). T (reader_good base y)) x (fresh-reader-good base (setup_of u) took) in
      ap (λ (y : FreshAnswer). reader_good base (R.seen y.state)) e
      ∙ ap (λ (y : S.ReaderState). reader_good base (R.seen (R.held y))) x
      ∙ ap (reader_good base) (good-seen u (fresh_reader (panel_seen u)) good)
      ∙ is_true _ good

  -- And it has the setup that was asked for.
  pub reader-made-setup : r.state.setup ≡ u
  unfolding took
  reader-made-setup = ap (λ (y : FreshAnswer). y.state.setup) e ∙ ap (λ (y : S.ReaderState). setup_from y.setup) (made-state u took)

-- A run keeps a reader well formed, accepted or refused.
pub ran-good : (s : ReaderState) (bs : List ℕ) (q : RunAnswer) → Ran s bs q → GoodReader s → GoodReader q.state
ran-good s bs q e g = ap (reader_good base) (run-state s bs q e) ∙ is_true _ (run_steady base (R.seen s) bs (holds _ g))

-- So does one record.
pub read_one_good : (s : ReaderState) (e : Event) (q : RunAnswer) → ReadOne s e q → GoodReader s → GoodReader q.state
read_one_good s e q h g = ap (reader_good base) (read_one_state s e q h) ∙ is_true _ (step_steady base (R.seen s) (event_of e) (holds _ g))

-- So does a load.
pub loaded_good : (s : ReaderState) (m : List ℤ) (c : ℕ) (q : LoadAnswer) → Loaded s m c q → GoodReader s → GoodReader q.state
loaded_good s m c q e g = ap (reader_good base) (load-state s m c q e) ∙ is_true _ (load_steady base (R.seen s) m c (holds _ g))

-- ---- any calls

call_good : (s : ReaderState) (x : HostCall) → Allowed s x → GoodReader s → GoodReader (state_after s x)
call_good s (run bs q) e g = ran-good s bs q e g
call_good s (read_one e q) h g = read_one_good s e q h g
call_good s (load m c q) e g = loaded_good s m c q e g
call_good s (ask k r) e g = g

-- Whatever a host calls, its reader stays well formed.
pub calls_good : (s : ReaderState) (xs : List HostCall) → AllAllowed s xs → GoodReader s → GoodReader (state_after_all s xs)
calls_good s [] h g = g
calls_good s (x ∷ xs) h g = calls_good (state_after s x) xs h.1 (call_good s x h.0 g)

call_setup : (s : ReaderState) (x : HostCall) → Allowed s x → (state_after s x).setup ≡ s.setup
call_setup s (run bs q) e = ap (λ (y : RunAnswer). y.state.setup) e ∙ ap setup_from (run-setup base (R.seen s) bs)
call_setup s (read_one e q) h = ap (λ (y : RunAnswer). y.state.setup) h ∙ ap setup_from (step-setup base (R.seen s) (event_of e))
call_setup s (load m c q) e = ap (λ (y : LoadAnswer). y.state.setup) e ∙ ap setup_from (load-setup base (R.seen s) m c)
call_setup s (ask k r) e = refl

-- And it keeps its setup.
pub calls_setup : (s : ReaderState) (xs : List HostCall) → AllAllowed s xs → (state_after_all s xs).setup ≡ s.setup
calls_setup s [] h = refl
calls_setup s (x ∷ xs) h = calls_setup (state_after s x) xs h.1 ∙ call_setup s x h.0
