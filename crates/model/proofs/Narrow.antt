-- K1: a reader with the first axes of a longer layout, given what a writer of the longer one writes, shows the first numbers of the writer's slots and
-- skips just the events of the later axes. Cited by link. Assumes nothing.
use mathlib.Core.Path.{◌≡◌, refl, sym, ap, ap₂, ◌∙◌, subst}
use mathlib.Core.List.{List, [], ◌∷◌, map}
use Prim.Native.Nat.{ℕ, zero, suc, ◌≤◌}
use native.Mathlib.Omega.{arith}
use lib.Dec.{T, leb, le→leb}
use lib.IntN.{pos}
use lib.ListN.{length, take, drop, replicate}
use Rattle.model.proofs.Bools.{is_true, both, both_left, both_right}
use Rattle.model.proofs.Tables.{map-replicate}
use Rattle.model.proofs.Codes.{tells}
use Rattle.model.proofs.ReaderSteady.{SteadyReader}
use Rattle.model.proofs.FreshSteady.{setup-slots}
use Rattle.model.proofs.Layouts.{codes_same, panel-tellable}
use Rattle.model.proofs.Calls.{writer-state, reader-state, state-reader}
use Rattle.model.proofs.Answers.{writer-made, reader-made}
use Rattle.model.proofs.Link.{pupil-good}
use Rattle.model.proofs.Followed.{followed-run}
use Rattle.model.proofs.Shift.{bytes_listed, bytes_read, run_shift, fresh-good}
use Rattle.model.proofs.NarrowReader.{followed_no_bad, reads-cut, unused-cut, cut_steady}
use Rattle.model.proofs.NarrowCounts.{counts-later}
use Rattle.model.specs.Numbers.{between}
use Rattle.model.specs.Panel.{Axis, Layout, Setup, Field, Panel, largest_good, setup_good, id_field, axis_fields, panel_of, good_layout}
use Rattle.model.specs.Table.{unused_slot}
use Rattle.model.specs.Events.{Event}
use Rattle.model.specs.Records.{events_of}
use Rattle.model.specs.Reader.{Reader, following, settled_at, read, run}
use Rattle.model.specs.States.{WriterState, writer_good, ReaderState, reader_good, fresh_writer, fresh_reader}
use Rattle.model.specs.Calls.{FreshWriter, fresh_writer_call, FreshReader, fresh_reader_call, ran, run_call}
use Rattle.model.specs.Bench.{pupil}
use Rattle.model.specs.Shift.{FrameCall, wrote_all, written_all}
use Rattle.model.specs.Narrow.{cut_reader, cut_panel, field_count, Shorter, short_pupil, later_codes, short_counts, short_ran, AllListed}

-- ---- the short setup and its panel

fields-cut : (k : ℕ) (axes : List Axis) (vs : List ℕ) → axis_fields (take k axes) (take k vs) ≡ take k (axis_fields axes vs)
fields-cut zero axes vs = refl
fields-cut (suc k) [] vs = refl
fields-cut (suc k) (a ∷ axes) [] = refl
fields-cut (suc k) (a ∷ axes) (v ∷ vs) =
    ap {B = List Field} (λ fs. record { code = a.code; low = pos 0; high = pos v; least = pos a.least } ∷ fs) (fields-cut k axes vs)

largest-cut : (k : ℕ) (axes : List Axis) (vs : List ℕ) → T (largest_good axes vs) → T (largest_good (take k axes) (take k vs))
largest-cut zero axes vs g = tt
largest-cut (suc k) [] [] g = tt
largest-cut (suc k) [] (v ∷ vs) g = absurd g
largest-cut (suc k) (a ∷ axes) [] g = absurd g
largest-cut (suc k) (a ∷ axes) (v ∷ vs) g =
    both (between 1 a.most v) _ (both_left (between 1 a.most v) _ g) (largest-cut k axes vs (both_right (between 1 a.most v) _ g))

take-replicate : {A : Type 0} (m n : ℕ) (x : A) → m ≤ n → take m (replicate n x) ≡ replicate m x
take-replicate zero n x l = refl
take-replicate (suc m) zero x l = absurd (omega arith)
take-replicate (suc m) (suc n) x l = ap (λ t. x ∷ t) (take-replicate m n x (omega arith))

pub fresh-cut : (k m : ℕ) (p : Panel) → m ≤ p.records → fresh_reader (cut_panel (suc k) m p) ≡ cut_reader (suc k) m (fresh_reader p)
fresh-cut k m p h =
    ap (λ t. settled_at t 0 following)
    (sym (ap (map (take (suc k))) (take-replicate m p.records (unused_slot p.fields) h)
    ∙ map-replicate (take (suc k)) m (unused_slot p.fields)
    ∙ ap (replicate m) (unused-cut k p.fields)))

module _ (l s : Layout) (u v : Setup) (h : Shorter l s u v) where
  -- The short panel has the first fields of the long one's.
  pub panel-cut : panel_of s v ≡ cut_panel (field_count s) s.records (panel_of l u)
  panel-cut =
      ap₂ {C = Panel} (λ n fs. record { slots = n; records = s.records; fields = id_field ∷ fs }) h.slots
      (ap₂ axis_fields h.axes h.largest ∙ fields-cut (length s.axes) l.axes u.largest)

  -- Its setup is good if the long one's is.
  pub short-setup : T (setup_good l u) → T (setup_good s v)
  short-setup g =
      let n : 1 ≤ v.slots = omega (arith, (setup-slots l u g).0, h.slots) in
      let largest = largest-cut (length s.axes) l.axes u.largest (both_right (between 1 l.records u.slots) _ g) in
      both (between 1 s.records v.slots) _
      (both (leb 1 v.slots) _ (le→leb 1 v.slots n) (le→leb v.slots s.records h.held))
      (subst T (ap₂ largest_good (sym h.axes) (sym h.largest)) largest)

  -- The reader alone: a short reader with what a well-formed long one has, given events that the long panel lists and that leave the long reader
  -- following, ends as that one does, its tables cut, and skipped just the events of the later fields.
  pub narrow_run : (r : Reader) (es : List Event) → T (good_layout l) → T (setup_good l u) → SteadyReader (panel_of l u) r → AllListed (panel_of l u) es
      → (read (panel_of l u) r es).mode ≡ following
      → (let cut = cut_reader (field_count s) s.records in
      run (panel_of s v) (cut r) es ≡ record { reader = cut (read (panel_of l u) r es); counts = short_counts (later_codes l s) es })
  unfolding panel-cut
  narrow_run r es g w f a m =
      let p = panel_of l u in
      let k = length s.axes in
      let cut = cut_reader (suc k) s.records in
      let short = cut_panel (suc k) s.records p in
      let held : u.slots ≤ s.records = omega (arith, h.held, h.slots) in
      let codes = codes_same l.axes u.largest (both_right (between 1 l.records u.slots) _ w) in
      ap (λ z. run z (cut r) es) panel-cut
      ∙ followed-run short (cut r) (cut (read p r es)) es (reads-cut k s.records p es r held f (followed_no_bad p r es m)) m
      ∙ ap (λ c. record { reader = cut (read p r es); counts = c })
      (counts-later (suc k) s.records p (tells p (panel-tellable l u g w)) es a ∙ ap (λ codes. short_counts (drop k codes) es) codes)

-- ---- any calls

module _ (l s : Layout) (v : Setup) (w : WriterState) (g : T (good_layout l)) (good : T (writer_good l w)) (h : Shorter l s w.setup v) where
  steady : SteadyReader (panel_of l w.setup) (pupil w).reader
  steady = (reader-state l (pupil w) (pupil-good l w good)).reader

  pub short-good : T (reader_good s (short_pupil s v w))
  unfolding panel-cut steady
  short-good =
      let held : w.setup.slots ≤ s.records = omega (arith, h.held, h.slots) in
      state-reader s (short_pupil s v w)
      (record {
        setup = short-setup l s w.setup v h (writer-state l w good).setup;
        reader = subst (λ p. SteadyReader p (short_pupil s v w).reader) (sym (panel-cut l s w.setup v h))
            (cut_steady (length s.axes) s.records (panel_of l w.setup) (pupil w).reader held h.records steady);
      })

  -- From any well-formed long writer and any calls: its short reader, given their bytes, is that of the writer after them.
  pub narrow_shift : (qs : List FrameCall)
      → (let bs = written_all l w qs in
      run_call s (short_pupil s v w) bs ≡ short_ran l s v (wrote_all l w qs) (events_of bs))
  unfolding steady
  narrow_shift qs =
      let u = w.setup in
      let es = events_of (written_all l w qs) in
      let reads = bytes_read l w qs g good in
      let follows = ap (λ (r : Reader). r.mode) reads in
      run_shift l s w (short_pupil s v w) qs g short-good
      ∙ ap (ran v)
      (narrow_run l s u v h (pupil w).reader es g (writer-state l w good).setup steady (bytes_listed l w qs g good) follows
      ∙ ap (λ r. record { reader = cut_reader (field_count s) s.records r; counts = short_counts (later_codes l s) es }) reads)

-- K1: from fresh states, after each call of any list of calls, the fresh short reader that is given all bytes so far is accepted and follows, shows
-- and holds pending the first numbers of the writer's first records, and has its current slot; it skipped just the events of the later fields, and
-- no other count but shown moved.
pub narrow_fresh : (l s : Layout) (u v : Setup) (qs : List FrameCall) → T (good_layout l) → T (setup_good l u) → Shorter l s u v
    → (let w = (fresh_writer_call l u).state in
    let bs = written_all l w qs in
    run_call s (fresh_reader_call s v).state bs ≡ short_ran l s v (wrote_all l w qs) (events_of bs))
unfolding panel-cut
narrow_fresh l s u v qs g good h =
    let p = panel_of l u in
    let fresh : ReaderState = (fresh_reader_call s v).state in
    let x : WriterState = record { setup = u; writer = fresh_writer p } in
    let made : (fresh_writer_call l u).state ≡ x = ap (λ (a : FreshWriter). a.state) (writer-made l u (is_true _ good)) in
    let short : fresh ≡ short_pupil s v x =
    ap (λ (a : FreshReader). a.state) (reader-made s v (is_true _ (short-setup l s u v h good)))
    ∙ ap (λ r. record { setup = v; reader = r }) (ap fresh_reader (panel-cut l s u v h) ∙ fresh-cut (length s.axes) s.records p h.records) in
    subst (λ (w : WriterState). run_call s fresh (written_all l w qs) ≡ short_ran l s v (wrote_all l w qs) (events_of (written_all l w qs))) (sym made)
    (ap (λ a. run_call s a (written_all l x qs)) short ∙ narrow_shift l s v x g (subst (λ w. T (writer_good l w)) made (fresh-good l u good)) h qs)
