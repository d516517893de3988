-- One call over lent bytes is the call by value on the state that the bytes hold (K11): `write`, `run` and `load`, accepted or refused, and the claims of specs/Hosts are
-- the contracts themselves. Cited by Hosts. Assumes nothing.
use mathlib.Core.Path.{◌≡◌, refl, sym, ap, ◌∙◌, subst}
use mathlib.Core.Bool.{Bool, true, false, cond, false≢true}
use mathlib.Core.List.{List}
use Prim.Native.Nat.{ℕ}
use lib.Dec.{eqb}
use lib.IntN.{ℤ}
use lib.ListN.{length}
use Rattle.model.specs.Panel.{base}
use Rattle.model.specs.Calls as C
use Rattle.model.specs.Calls.{is_accepted, run_verdict, run_call, load_verdict, load_call}
use Rattle.model.specs.Pointing.{pointer_verdict, pointer_call, pointer_buffer}
use Rattle.model.proofs.Bools.{is_true}
use Rattle.model.proofs.Calls.{by_verdict, load-refused}
use Rattle.model.proofs.PointerCalls.{pointer_accepted, pointer_has}
use Rattle.common.specs.declared.Verdict.{Verdict}
use Rattle.common.specs.declared.Verdict.TheVariants as Verdicts
use Rattle.common.specs.Seen.{verdict_from, verdict_number, counts_of}
use Rattle.common.proofs.Back.{number-seen, counts-seen}
use Rattle.writer.specs.declared.WriterState.{WriterState}
use Rattle.writer.specs.declared.Written.{Written}
use Rattle.writer.specs.Seen as W
use Rattle.writer.proofs.Demands.{refused_back}
use Rattle.reader.specs.declared.ReaderState.{ReaderState}
use Rattle.reader.specs.declared.RunAnswer.{RunAnswer}
use Rattle.reader.specs.declared.LoadAnswer.{LoadAnswer}
use Rattle.reader.specs.States as R
use Rattle.reader.proofs.Held.{state_back}
use Rattle.lent_writer.specs.Seen as LentWriter
use Rattle.lent_writer.specs.Seen.{Freshens}
use Rattle.lent_writer.proofs.Back as WriterBack
use Rattle.lent_writer.proofs.fresh.Reads as fresh
use Rattle.lent_writer.proofs.write.Reads as write
use Rattle.lent_reader.specs.Layout as LentReader
use Rattle.lent_reader.specs.Seen.{counts_row, ran_in, loaded_in, FreshIn, LoadIn}
use Rattle.lent_reader.proofs.Calls.{run-good, load-good}
use Rattle.lent_reader.proofs.Fits.{good_again}
use Rattle.lent_reader.proofs.reader_fresh.Reads as reader-fresh
use Rattle.lent_reader.proofs.run.Reads as run_promise
use Rattle.lent_reader.proofs.load.Reads as load-call
use Rattle.lent_reader.proofs.ask.Reads as ask-call
use Rattle.link.specs.Promises.{Wrote, Ran, Loaded, GoodWriter, GoodReader}
use Rattle.link.specs.Hosts.{LentWrite, LentWrote, WritesAs, LentRun, LentRan, RunsAs}
use Rattle.link.specs.Hosts.{run, load, ask, LentAllowed}
use Rattle.link.proofs.Steady.{written-good}
use Rattle.link.proofs.Demands.{took}
use Rattle.link.proofs.Loss.{not-accepted}
use Rattle.link.proofs.HostsFit.{writer-fits}

-- ---- the claims are the contracts themselves, of arguments, answer and what was lent at exit

pub freshens_is : (κs : _) (a : _) (r : ℕ) (t : _) → fresh.Learnt κs a r t → Freshens a.0.now a.1.0.now a.1.1.0 r t.0.now
freshens_is κs a r t e = e

pub lent_wrote-is : (κs : _) (a : _) (r : ℕ) (t : _) → write.Learnt κs a r t
    → LentWrote a.0.now (record {
      frame = a.1.0.now;
      at = a.1.1.1.0;
      buffer = a.1.1.0.now;
      number = r;
      state = t.0.now;
      told = t.1.1.1.1.0.now;
      after = t.1.1.0.now;
    })
lent_wrote-is κs a r t e = e

pub fresh_in_is : (κs : _) (a : _) (r : ℕ) (t : _) → reader-fresh.Learnt κs a r t → FreshIn a.0.now a.1.0.now r t.0.now
fresh_in_is κs a r t e = e

pub lent_ran-is : (κs : _) (a : _) (r : ℕ) (t : _) → run_promise.Learnt κs a r t
    → LentAllowed a.0.now (run a.1.0.now (record { number = r; state = t.0.now; told = t.1.1.0.now }))
lent_ran-is κs a r t e = e

pub lent_loaded_is : (κs : _) (a : _) (r : ℕ) (t : _) → load-call.Learnt κs a r t → LentAllowed a.0.now (load a.1.0.now a.1.1.0 r t.0.now)
lent_loaded_is κs a r t e = e

pub lent_asked-is : (κs : _) (a : _) (r : ℕ) (t : _) → ask-call.Learnt κs a r t → LentAllowed a.0.now (ask a.1.0 r t.1.1.0.now)
lent_asked-is κs a r t e = e

-- ---- verdicts by their numbers

zero-accepted : (v : Verdict) → eqb (verdict_number v) 0 ≡ true → v ≡ Verdicts.Accepted
zero-accepted Verdicts.Accepted e = refl
zero-accepted Verdicts.Setup e = absurd (false≢true e)
zero-accepted Verdicts.State e = absurd (false≢true e)
zero-accepted Verdicts.Frame e = absurd (false≢true e)
zero-accepted Verdicts.Value e = absurd (false≢true e)
zero-accepted Verdicts.NoRoom e = absurd (false≢true e)
zero-accepted Verdicts.Ragged e = absurd (false≢true e)
zero-accepted Verdicts.NotStale e = absurd (false≢true e)
zero-accepted Verdicts.Image e = absurd (false≢true e)
zero-accepted Verdicts.TooMany e = absurd (false≢true e)
zero-accepted Verdicts.Unfinished e = absurd (false≢true e)
zero-accepted Verdicts.Command e = absurd (false≢true e)

not-zero : (v : Verdict) → eqb (verdict_number v) 0 ≡ false → v ≡ Verdicts.Accepted → ⊥
not-zero v e q = false≢true (sym e ∙ ap (λ w. eqb (verdict_number w) 0) q)

-- What is stored by a verdict: `next` if it is accepted, else the bytes as they were.
abbrev stored_by : Verdict → List ℕ → List ℕ → List ℕ
stored_by v next b = cond (eqb (verdict_number v) 0) next b

by_number : (P : List ℕ → Type 0) (v : Verdict) (next b : List ℕ) (t : Bool) → eqb (verdict_number v) 0 ≡ t → (v ≡ Verdicts.Accepted → P next) → ((v ≡ Verdicts.Accepted → ⊥) → P b)
    → P (cond t next b)
by_number P v next b true e f g = f (zero-accepted v e)
by_number P v next b false e f g = g (not-zero v e)

module _ (v : Verdict) (next b after : List ℕ) (e : after ≡ stored_by v next b) where
  stored_either : (P : List ℕ → Type 0) → (v ≡ Verdicts.Accepted → P next) → ((v ≡ Verdicts.Accepted → ⊥) → P b) → P after
  stored_either P f g = subst P (sym e) (by_number P v next b (eqb (verdict_number v) 0) refl f g)

  stored-accepted : v ≡ Verdicts.Accepted → after ≡ next
  stored-accepted q = stored_either (λ l. l ≡ next) (λ _. refl) (λ n. absurd (n q))

  stored_refused : (v ≡ Verdicts.Accepted → ⊥) → after ≡ b
  stored_refused n = stored_either (λ l. l ≡ b) (λ q. absurd (n q)) (λ _. refl)

-- ---- one call of `write` is the call by value

module _ (b : List ℕ) (c : LentWrite) (f : LentWriter.formed b ≡ true) (h : LentWrote b c) (r : Written) (after : List ℕ)
    (w : Wrote (LentWriter.unpacked b) c.frame c.at c.buffer r after) where
  abbrev handed : WriterState
  handed = LentWriter.unpacked b

  written_is : LentWriter.written b c.frame c.at (length c.buffer) ≡ r
  unfolding LentWriter.written
  written_is =
      ap (λ t. cond t (W.written_from (pointer_call base (W.seen handed) c.frame c.at (length c.buffer))) (W.not_written_by Verdicts.State handed 0)) f
      ∙ sym w.0

  buffer-is : c.after ≡ after
  unfolding LentWriter.written_buffer
  buffer-is = h.buffer ∙ ap (λ t. cond t (pointer_buffer base (W.seen handed) c.frame c.at c.buffer) c.buffer) f ∙ sym w.1

  write_stored : c.state ≡ stored_by r.verdict (LentWriter.packed r.state) b
  write_stored = h.state ∙ ap (LentWriter.state_after b) written_is

  -- An accepted frame was of a well-formed state, and leaves one.
  good_left : r.verdict ≡ Verdicts.Accepted → GoodWriter r.state
  good_left q =
      let taken = took handed c.frame c.at c.buffer r after w q in
      written-good handed c.frame c.at c.buffer r after w
      (is_true _ (pointer_accepted base (W.seen handed) c.frame c.at (length c.buffer) taken).good)

  -- A refused one hands the state back.
  write_back : (r.verdict ≡ Verdicts.Accepted → ⊥) → handed ≡ r.state
  write_back n =
      let v = pointer_verdict base (W.seen handed) c.frame c.at (length c.buffer) in
      let has = ap (λ (x : Written). x.verdict) w.0 ∙ ap verdict_from (pointer_has base (W.seen handed) c.frame c.at (length c.buffer)) in
      sym (ap (λ (x : Written). x.state) (w.0 ∙ (refused_back handed c.frame c.buffer c.at (not-accepted v (λ q. n (has ∙ q)))).0))

  pub writes_as : WritesAs b c r after
  writes_as =
      let next = LentWriter.packed r.state in
      let either = stored_either r.verdict next b c.state write_stored in
      record {
        number = h.number ∙ ap (λ (x : Written). verdict_number x.verdict) written_is;
        accepted = stored-accepted r.verdict next b c.state write_stored;
        refused = stored_refused r.verdict next b c.state write_stored;
        formed = either (λ l. LentWriter.formed l ≡ true) (λ q. WriterBack.packed-formed r.state (writer-fits r.state (good_left q))) (λ n. f);
        state = either (λ l. LentWriter.unpacked l ≡ r.state) (λ q. WriterBack.unpacked_back r.state (writer-fits r.state (good_left q))) write_back;
        told = h.answer ∙ ap LentWriter.told_of written_is;
        buffer = buffer-is;
      }

-- ---- one run is the run by value, and so is a load

-- A refused run hands the state back.
run_back : (s : ReaderState) (bs : List ℕ) → (verdict_from (run_call base (R.seen s) bs).verdict ≡ Verdicts.Accepted → ⊥) → R.held (run_call base (R.seen s) bs).state ≡ s
unfolding run_call
run_back s bs =
    by_verdict (λ (a : C.Ran). (verdict_from a.verdict ≡ Verdicts.Accepted → ⊥) → R.held a.state ≡ s) (is_accepted (run_verdict base (R.seen s) bs)) _ _
    (λ h n. absurd (n refl)) (λ n. state_back s)

module _ (b bs : List ℕ) (x : LentRun) (f : LentReader.formed b ≡ true) (h : LentRan b bs x) (q : RunAnswer) (e : Ran (LentReader.unpacked b) bs q) where
  abbrev call : C.Ran
  call = run_call base (R.seen (LentReader.unpacked b)) bs

  ran-is : ran_in b bs ≡ call
  ran-is = ap (λ t. cond t call (C.not_run C.state (R.seen (LentReader.unpacked b)))) f

  run-stored : x.state ≡ stored_by q.verdict (LentReader.packed q.state) b
  run-stored =
      h.state
      ∙ ap (λ (y : C.Ran). cond (is_accepted y.verdict) (LentReader.packed (R.held y.state)) b) ran-is
      ∙ ap (λ n. cond (eqb n 0) (LentReader.packed (R.held call.state)) b) (sym (number-seen call.verdict))
      ∙ sym (ap (λ (y : RunAnswer). stored_by y.verdict (LentReader.packed y.state) b) e)

  pub runs_as : RunsAs b x q
  runs_as =
      let next = LentReader.packed q.state in
      let either = stored_either q.verdict next b x.state run-stored in
      let good : q.verdict ≡ Verdicts.Accepted → GoodReader q.state = λ v. run-good b bs f q e (ap verdict_number v) in
      record {
        number =
            h.number
            ∙ ap (λ (y : C.Ran). C.verdict_number y.verdict) ran-is
            ∙ sym (number-seen call.verdict)
            ∙ sym (ap (λ (y : RunAnswer). verdict_number y.verdict) e);
        accepted = stored-accepted q.verdict next b x.state run-stored;
        refused = stored_refused q.verdict next b x.state run-stored;
        formed = either (λ l. LentReader.formed l ≡ true) (λ v. (good_again q.state (good v)).0) (λ n. f);
        state =
            either (λ l. LentReader.unpacked l ≡ q.state) (λ v. (good_again q.state (good v)).1)
            (λ n. sym (run_back (LentReader.unpacked b) bs (λ v. n (ap (λ (y : RunAnswer). y.verdict) e ∙ v)))
            ∙ sym (ap (λ (y : RunAnswer). y.state) e));
        told = h.answer ∙ ap (λ (y : C.Ran). counts_row y.counts) ran-is ∙ sym (ap counts_row (counts-seen call.counts)) ∙ sym (ap (λ (y : RunAnswer). counts_row (counts_of y.counts)) e);
      }

load_back : (s : ReaderState) (m : List ℤ) (c : ℕ) → (verdict_from (load_call base (R.seen s) m c).verdict ≡ Verdicts.Accepted → ⊥) → R.held (load_call base (R.seen s) m c).state ≡ s
unfolding load_call
load_back s m c n = ap R.held (load-refused base (R.seen s) m c (not-accepted (load_verdict base (R.seen s) m c) n)) ∙ state_back s

-- What a load over the formed bytes b returns and leaves, where q is the answer by value.
pub record LoadsAs (n : ℕ) (next : List ℕ) (q : LoadAnswer) : Type 0 where
  pub number : n ≡ verdict_number q.verdict
  pub formed : LentReader.formed next ≡ true
  pub state : LentReader.unpacked next ≡ q.state

module _ (b : List ℕ) (m : List ℤ) (c n : ℕ) (next : List ℕ) (f : LentReader.formed b ≡ true) (h : LoadIn b m c n next) (q : LoadAnswer)
    (e : Loaded (LentReader.unpacked b) m c q) where
  abbrev loaded : C.Loaded
  loaded = load_call base (R.seen (LentReader.unpacked b)) m c

  loaded_is : loaded_in b m c ≡ loaded
  loaded_is = ap (λ t. cond t loaded (record { verdict = C.state; state = R.seen (LentReader.unpacked b) })) f

  load_stored : next ≡ stored_by q.verdict (LentReader.packed q.state) b
  load_stored =
      h.state
      ∙ ap (λ (y : C.Loaded). cond (is_accepted y.verdict) (LentReader.packed (R.held y.state)) b) loaded_is
      ∙ ap (λ k. cond (eqb k 0) (LentReader.packed (R.held loaded.state)) b) (sym (number-seen loaded.verdict))
      ∙ sym (ap (λ (y : LoadAnswer). stored_by y.verdict (LentReader.packed y.state) b) e)

  pub loads_as : LoadsAs n next q
  loads_as =
      let either = stored_either q.verdict (LentReader.packed q.state) b next load_stored in
      let good : q.verdict ≡ Verdicts.Accepted → GoodReader q.state = λ v. load-good b m c f q e (ap verdict_number v) in
      record {
        number =
            h.number
            ∙ ap (λ (y : C.Loaded). C.verdict_number y.verdict) loaded_is
            ∙ sym (number-seen loaded.verdict)
            ∙ sym (ap (λ (y : LoadAnswer). verdict_number y.verdict) e);
        formed = either (λ l. LentReader.formed l ≡ true) (λ v. (good_again q.state (good v)).0) (λ z. f);
        state =
            either (λ l. LentReader.unpacked l ≡ q.state) (λ v. (good_again q.state (good v)).1)
            (λ z. sym (load_back (LentReader.unpacked b) m c (λ v. z (ap (λ (y : LoadAnswer). y.verdict) e ∙ v)))
            ∙ sym (ap (λ (y : LoadAnswer). y.state) e));
      }
