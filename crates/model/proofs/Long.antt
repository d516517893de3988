-- A long shift and a late pupil (K14): any calls of a writer, refused ones among them, read in order by its own reader, and by one that loads the writer's table between two calls. The step is a frame that reads back (demand 2), as PointerShift carries it over calls. The calls so far are a list too, so what is said holds after each of them. Assumes nothing.
use mathlib.Core.Path.{◌≡◌, refl, sym, ap, ap₂, subst, ◌∙◌}
use mathlib.Core.Bool.{Bool, true, false, not, ◌&&◌, ◌||◌}
use mathlib.Core.List.{List, [], ◌∷◌}
use Prim.Native.Nat.{ℕ, zero, suc, ◌≤◌}
use native.Mathlib.Omega.{arith}
use lib.Dec.{T}
use lib.IntN.{ℤ}
use lib.ListN.{length, take, drop, length-map, drop_of_length-le}
use lib.Seq.{take_all}
use Rattle.model.specs.Panel.{Field, Layout, Panel, panel_of, good_layout, field_codes}
use Rattle.model.specs.Events.{Event}
use Rattle.model.specs.Numbers.{eq_z}
use Rattle.model.specs.Table.{live, unheld, live_differ, ids_differ}
use Rattle.model.specs.Records.{events_of}
use Rattle.model.specs.Reader.{following, settled_at}
use Rattle.model.specs.States.{ReaderState, reader_good}
use Rattle.model.specs.Calls.{accepted, run_call, is_stale, image_table, image_good, load_call}
use Rattle.model.specs.Bench.{pupil}
use Rattle.model.specs.Shift.{FrameCall, followed, image_of}
use Rattle.model.specs.Narrow.{cut_panel}
use Rattle.model.specs.Pointer.{pointable, unpointed}
use Rattle.model.specs.Pointing.{PointerState, pointer_good}
use Rattle.model.specs.PointerShift.{pointer_wrote, pointer_wrote_all, pointer_sent, pointer_written, pointer_written_all}
use Rattle.model.specs.PointerNarrow.{SkipsAlone, pointed_counts}
use Rattle.model.specs.Recorder.{AllBytes}
use Rattle.model.proofs.Bools.{is_true, and_left, and_right}
use Rattle.model.proofs.Answers.{load-taken}
use Rattle.model.proofs.Blocks.{bytes_append}
use Rattle.model.proofs.Calls.{writer-state}
use Rattle.model.proofs.Codes.{tells, Tellable}
use Rattle.model.proofs.Images.{image_back, image-good}
use Rattle.model.proofs.Layouts.{panel-tellable}
use Rattle.model.proofs.Pointing.{pointer_facts, panel-unpointed}
use Rattle.model.proofs.PointerShift.{call_bytes, calls_good, calls_events, calls_run}
use Rattle.model.proofs.PointerNarrow.{calls_alone, counts_are}
use Rattle.model.proofs.Recordings.{events-bytes}

-- ---- what the writer's own reader counts

-- A panel that is cut nowhere.
whole-panel : (p : Panel) → cut_panel (length p.fields) p.records p ≡ p
whole-panel p = ap (λ fs. record { slots = p.slots; records = p.records; fields = fs }) (take_all (length p.fields) p.fields (omega arith))

-- Of events that skip the emulated ones alone it skips no field's.
own-counts : (p : Panel) → Tellable p → T (unpointed (field_codes p.fields)) → (es : List Event) → SkipsAlone p es → followed p es ≡ pointed_counts [] es
own-counts p w n es h =
    let k = length p.fields in
    let all : length (field_codes p.fields) ≤ k = omega (arith, length-map p.fields (λ (f : Field). f.code)) in
    let none : drop k (field_codes p.fields) ≡ [] = drop_of_length-le (field_codes p.fields) all in
    sym (ap (λ q. followed q es) (whole-panel p))
    ∙ counts_are k p.records p w (subst (λ q. T (unpointed (field_codes q.fields))) (sym (whole-panel p)) n) es h
    ∙ ap (λ c. pointed_counts c es) none

-- ---- ids of the first records

held_first : (k : ℕ) (v : ℤ) (l : List ℤ) → unheld v l ≡ true → unheld v (take k l) ≡ true
held_first zero v l h = refl
held_first (suc k) v [] h = refl
held_first (suc k) v (x ∷ l) h = ap₂ ◌&&◌ (and_left (not (eq_z v x)) (unheld v l) h) (held_first k v l (and_right (not (eq_z v x)) (unheld v l) h))

-- If the live ids of a list differ, so do those of its first numbers.
pub first-apart : (k : ℕ) (l : List ℤ) → live_differ l ≡ true → live_differ (take k l) ≡ true
first-apart zero l h = refl
first-apart (suc k) [] h = refl
first-apart (suc k) (x ∷ l) h =
    ap₂ ◌&&◌ (by (not (live x)) (held_first k x l) (and_left (not (live x) || unheld x l) (live_differ l) h))
    (first-apart k l (and_right (not (live x) || unheld x l) (live_differ l) h))
  where
    by : (d : Bool) → (unheld x l ≡ true → unheld x (take k l) ≡ true) → (d || unheld x l) ≡ true → (d || unheld x (take k l)) ≡ true
    by true f e = refl
    by false f e = f e

module _ (l : Layout) (g : T (good_layout l)) (able : T (pointable l)) where
  -- ---- the long shift

  -- From any well-formed writer: its own reader that runs the bytes of any calls is accepted and is that of the writer after them. It counted a table for each
  -- SYN_REPORT, and it skipped the emulated events and nothing else.
  pub long_run : (x : PointerState) (ks : List FrameCall) → T (pointer_good l x)
      → (let bs = pointer_written_all l x ks in
      run_call l (pupil x.base) bs ≡ record { verdict = accepted; state = pupil (pointer_wrote_all l x ks).base; counts = pointed_counts [] (events_of bs) })
  long_run x ks good =
      let u = x.base.setup in
      let p = panel_of l u in
      let bs = pointer_written_all l x ks in
      let facts = writer-state l x.base (pointer_facts l x good).writer in
      let alone = subst (SkipsAlone p) (sym (calls_events l g x ks good)) (calls_alone l g able u x ks refl good) in
      let counts = own-counts p (tells p (panel-tellable l u g facts.setup)) (panel-unpointed l u able) (events_of bs) alone in
      calls_run l g able x ks good ∙ ap (λ c. record { verdict = accepted; state = pupil (pointer_wrote_all l x ks).base; counts = c }) counts

  -- ---- the late pupil

  -- A well-formed stale reader of the writer's setup that loads the writer's table and current slot is accepted, and is then the writer's own reader, whatever it
  -- showed before.
  pub late-load : (x : PointerState) (t : ReaderState) → T (pointer_good l x) → T (reader_good l t) → T (is_stale t.reader.mode) → t.setup ≡ x.base.setup
      → load_call l t (image_of (panel_of l x.base.setup) x.base.writer.table) x.base.writer.current ≡ record { verdict = accepted; state = pupil x.base }
  late-load x t good steady stale e =
      let u = x.base.setup in
      let w = x.base.writer in
      let p = panel_of l u in
      let m = image_of p w.table in
      let facts = (writer-state l x.base (pointer_facts l x good).writer).writer in
      let fine = image-good p w.table facts.good w.current facts.differs facts.below in
      load-taken l t m w.current (is_true _ steady) (is_true _ stale) (is_true _ (subst (λ v. T (image_good (panel_of l v) m w.current)) (sym e) fine))
      ∙ ap (λ v. record { verdict = accepted; state = record { setup = v; reader = settled_at (image_table (panel_of l v) m) w.current following } }) e
      ∙ ap (λ a. record { verdict = accepted; state = record { setup = u; reader = settled_at a w.current following } }) (image_back p w.table facts.good)

  -- ---- their bytes

  -- Every number that they wrote is a byte.
  pub calls_bytes : (x : PointerState) (ks : List FrameCall) → AllBytes (pointer_written_all l x ks)
  calls_bytes x [] = λ i. omega arith
  calls_bytes x (k ∷ ks) =
      let bs = pointer_written l x k.frame k.at k.buffer in
      bytes_append bs (pointer_written_all l (pointer_wrote l x k) ks) (subst AllBytes (sym (call_bytes l x k g)) (events-bytes (pointer_sent l x k)))
      (calls_bytes (pointer_wrote l x k) ks)

  -- ---- ids

  -- No two contacts that are live at one moment share an id, after any calls.
  pub ids-apart : (x : PointerState) (ks : List FrameCall) → T (pointer_good l x) → T (ids_differ (pointer_wrote_all l x ks).base.writer.table)
  ids-apart x ks good =
      let y = pointer_wrote_all l x ks in
      (writer-state l y.base (pointer_facts l y (calls_good l g x ks good)).writer).writer.differs
