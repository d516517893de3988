-- Calls one after another: a run that is cut in two, one event by itself, a run or an event that loses track, and that a lost reader stays
-- lost and answers "unknown" until a load is accepted. Cited by link. Assumes nothing.
use mathlib.Core.Path.{◌≡◌, refl, sym, ap, ap₂, ◌∙◌, subst}
use mathlib.Core.Bool.{Bool, true, false, not}
use mathlib.Core.List.{List, [], ◌∷◌, ◌++◌}
use Prim.Native.Nat.{ℕ, ◌*◌, ◌/◌, ◌%◌, ◌<◌}
use native.Mathlib.Omega.{arith}
use lib.Dec.{T, ltb, lt→ltb}
use lib.IntN.{ℤ}
use lib.ListN.{length, get_or, take, length-append}
use lib.Seq.{length-take-le}
use borrow.Author.Tests.{eq-eqb}
use Rattle.model.proofs.Bools.{is_true}
use Rattle.model.proofs.Cut.{run_append, events_append, record_within}
use Rattle.model.proofs.Lost.{lost_reads, lost_unknown}
use Rattle.model.proofs.Loss.{loses, loss_lasts}
use Rattle.model.proofs.Layouts.{panel-tellable}
use Rattle.model.proofs.Calls.{by_verdict, accepted-is, reader-state, run_steady, load-refused}
use Rattle.model.proofs.Answers.{run-bad-state, run-whole, step-bad-state, step-whole}
use Rattle.model.specs.Panel.{Layout, panel_of, good_layout, tellable}
use Rattle.model.specs.Events.{Event, classify}
use Rattle.model.specs.Records.{event_at, events_from, events_of}
use Rattle.model.specs.Reader.{Lost, Reader, step, read, run}
use Rattle.model.specs.Loss.{loses_track}
use Rattle.model.specs.States.{ReaderState, reader_good}
use Rattle.model.specs.Calls.{is_accepted, check, accepted, state, Ran, ran, run_verdict, run_call, joined, step_call}
use Rattle.model.specs.Calls.{load_verdict, load_call, unknown, no_such_slot, asked_in, ask_call}

-- ---- a run that is cut, and one event

-- A run over whole records and then over more whole records is the run over both: the later verdict and state, and the counts added up.
-- It holds of any state, since a state that is refused is refused each time and handed back.
pub run-cut : (l : Layout) (s : ReaderState) (xs ys : List ℕ) → length xs % 8 ≡ 0 → length ys % 8 ≡ 0
    → run_call l s (xs ++ ys) ≡ (let a = run_call l s xs in joined a (run_call l a.state ys))
run-cut l s xs ys h k = by_state (reader_good l s) refl
  where
    by_state : (b : Bool) → reader_good l s ≡ b → run_call l s (xs ++ ys) ≡ (let a = run_call l s xs in joined a (run_call l a.state ys))
    by_state false g =
        let a = run-bad-state l s xs g in
        let d = ap (λ (c : Ran). run_call l c.state ys) a ∙ run-bad-state l s ys g in
        run-bad-state l s (xs ++ ys) g ∙ sym (ap₂ joined a d)
    by_state true g =
        let p = panel_of l s.setup in
        let whole : length (xs ++ ys) % 8 ≡ 0 = omega (arith, length-append xs ys) in
        let a = run-whole l s xs g (eq-eqb (length xs % 8) 0 h) in
        let good : reader_good l (run_call l s xs).state ≡ true = is_true _ (run_steady l s xs (rw g tt)) in
        let b = run-whole l (run_call l s xs).state ys good (eq-eqb (length ys % 8) 0 k) in
        let d = b ∙ ap (λ (c : Ran). ran c.state.setup (run (panel_of l c.state.setup) c.state.reader (events_of ys))) a in
        run-whole l s (xs ++ ys) g (eq-eqb (length (xs ++ ys) % 8) 0 whole)
        ∙ ap (ran s.setup) (ap (run p s.reader) (events_append xs ys h) ∙ run_append p s.reader (events_of xs) (events_of ys))
        ∙ sym (ap₂ joined a d)

-- One event by itself is a run over the eight bytes of its record.
pub one_record : (l : Layout) (s : ReaderState) (bs : List ℕ) → length bs ≡ 8 → run_call l s bs ≡ step_call l s (event_at bs 0)
unfolding events_from
one_record l s bs h = by_state (reader_good l s) refl
  where
    only : events_of bs ≡ event_at bs 0 ∷ []
    only = let n : length bs / 8 ≡ 1 = omega arith in ap (λ k. events_from k bs 0) n

    by_state : (b : Bool) → reader_good l s ≡ b → run_call l s bs ≡ step_call l s (event_at bs 0)
    by_state false g = run-bad-state l s bs g ∙ sym (step-bad-state l s (event_at bs 0) g)
    by_state true g =
        let whole : length bs % 8 ≡ 0 = omega arith in
        run-whole l s bs g (eq-eqb (length bs % 8) 0 whole)
        ∙ ap (λ es. ran s.setup (run (panel_of l s.setup) s.reader es)) only
        ∙ sym (step-whole l s (event_at bs 0) g)

-- Of a well-formed reader one event fixes the whole reader, its pending table too: it is one step of the machine.
pub one_step : (l : Layout) (s : ReaderState) (e : Event) → T (reader_good l s)
    → (step_call l s e).state ≡ record { setup = s.setup; reader = step s.reader (classify (panel_of l s.setup) e) }
unfolding run
one_step l s e g = ap (λ (a : Ran). a.state) (step-whole l s e (is_true _ g))

-- ---- calls that lose track

module _ (l : Layout) (g : T (good_layout l)) (s : ReaderState) (h : T (reader_good l s)) where
  tell : T (tellable (panel_of l s.setup))
  tell = panel-tellable l s.setup g (reader-state l s h).setup

  reader-is : (bs : List ℕ) → length bs % 8 ≡ 0 → (run_call l s bs).state.reader ≡ read (panel_of l s.setup) s.reader (events_of bs)
  unfolding run
  reader-is bs w = ap (λ (a : Ran). a.state.reader) (run-whole l s bs (is_true _ h) (eq-eqb (length bs % 8) 0 w))

  -- A run over whole records loses track if record i does, judged by the table that the records before it left pending.
  pub run_loses : (bs : List ℕ) (i : ℕ) → length bs % 8 ≡ 0 → i < length bs / 8
      → T (loses_track (panel_of l s.setup) (run_call l s (take (8 * i) bs)).state.reader.pending (event_at bs (8 * i)))
      → Lost (run_call l s bs).state.reader.mode
  unfolding tell
  run_loses bs i w b t =
      let p = panel_of l s.setup in
      let before = events_of (take (8 * i) bs) in
      let e = event_at bs (8 * i) in
      let whole : length (take (8 * i) bs) % 8 ≡ 0 = omega (arith, length-take-le (8 * i) bs (omega arith)) in
      let t' = subst (λ (r : Reader). T (loses_track p r.pending e)) (reader-is (take (8 * i) bs) whole) t in
      subst (λ (r : Reader). Lost r.mode) (sym (reader-is bs w ∙ ap (read p s.reader) (record_within bs i b)))
      (loss_lasts p s.reader before _ e tell t')

  -- So does one event by itself.
  pub step_loses : (e : Event) → T (loses_track (panel_of l s.setup) s.reader.pending e) → Lost (step_call l s e).state.reader.mode
  unfolding tell
  step_loses e t = subst (λ (x : ReaderState). Lost x.reader.mode) (sym (one_step l s e h)) (loses (panel_of l s.setup) s.reader e tell t)

-- ---- lost, until a load is accepted

module _ (l : Layout) (s : ReaderState) where
  -- A run leaves a reader lost that was, accepted or refused.
  pub run_lost : (bs : List ℕ) → Lost s.reader.mode → Lost (run_call l s bs).state.reader.mode
  unfolding run_call run
  run_lost bs f =
      by_verdict (λ (a : Ran). Lost a.state.reader.mode) (is_accepted (run_verdict l s bs)) _ _
      (λ _. lost_reads (panel_of l s.setup) s.reader (events_of bs) f)
      f

  -- So does one event.
  pub step_lost : (e : Event) → Lost s.reader.mode → Lost (step_call l s e).state.reader.mode
  unfolding step_call run
  step_lost e f =
      by_verdict (λ (a : Ran). Lost a.state.reader.mode) (is_accepted (check (reader_good l s) state accepted)) _ _
      (λ _. lost_reads (panel_of l s.setup) s.reader (e ∷ []) f)
      f

  -- So does a load that is refused.
  pub load_lost : (m : List ℤ) (c : ℕ) → T (not (is_accepted (load_verdict l s m c))) → Lost s.reader.mode → Lost (load_call l s m c).state.reader.mode
  load_lost m c n f = subst (λ (a : ReaderState). Lost a.reader.mode) (sym (load-refused l s m c n)) f

  -- Any call leaves the setup as it was.
  pub run-setup : (bs : List ℕ) → (run_call l s bs).state.setup ≡ s.setup
  unfolding run_call
  run-setup bs = by_verdict (λ (a : Ran). a.state.setup ≡ s.setup) (is_accepted (run_verdict l s bs)) _ _ (λ _. refl) refl

  pub step-setup : (e : Event) → (step_call l s e).state.setup ≡ s.setup
  unfolding step_call
  step-setup e = by_verdict (λ (a : Ran). a.state.setup ≡ s.setup) (is_accepted (check (reader_good l s) state accepted)) _ _ (λ _. refl) refl

  pub load-setup : (m : List ℤ) (c : ℕ) → (load_call l s m c).state.setup ≡ s.setup
  unfolding load_call
  load-setup m c = by_verdict (λ (a : ReaderState). a.setup ≡ s.setup) (is_accepted (load_verdict l s m c)) _ _ (λ _. refl) refl

  -- A well-formed reader that lost track answers "unknown" for every slot of its panel.
  pub lost_asked : (k : ℕ) → T (reader_good l s) → Lost s.reader.mode → k < s.setup.slots → ask_call l s k ≡ unknown
  unfolding ask_call
  lost_asked k g f b =
      accepted-is (reader_good l s) _ _ g
      ∙ accepted-is (ltb k s.setup.slots) (asked_in s.reader.mode (get_or s.reader.shown k [])) no_such_slot (lt→ltb k s.setup.slots b)
      ∙ lost_unknown s.reader.mode (get_or s.reader.shown k []) f
