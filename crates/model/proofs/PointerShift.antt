-- A shift with pointer emulation (K6), any list of calls, refused ones among them: the writer stays well formed, the emulated events change nothing in any reader (K14),
-- its own reader follows it, and an old display shows the numbers that it holds. Assumes nothing.
use mathlib.Core.Path.{◌≡◌, refl, sym, ap, ap₂, ◌∙◌, subst}
use mathlib.Core.Bool.{Bool, true, false, not, cond}
use mathlib.Core.List.{List, [], ◌∷◌, ◌++◌}
use Prim.Native.Nat.{◌*◌, ◌%◌}
use native.Mathlib.Omega.{arith}
use lib.Dec.{T}
use lib.ListN.{length, take, drop, length-append}
use borrow.Author.Tests.{eq-eqb}
use Rattle.model.proofs.Bools.{is_true}
use Rattle.model.proofs.Cut.{read_append, events_append}
use Rattle.model.proofs.Followed.{followed-run}
use Rattle.model.proofs.Bytes.{AllCarried, bytes-length, decoded}
use Rattle.model.proofs.Answers.{reader-made, run-whole}
use Rattle.model.proofs.Link.{pupil-good}
use Rattle.model.proofs.Display.{heard_append}
use Rattle.model.proofs.Pointing.{pointer_facts}
use Rattle.model.proofs.PointerFrame.{reads_same, display-told}
use Rattle.model.proofs.PointerCalls.{pointer_steady, pointer-refused, pointer_made, fresh_call_good, pointer_accepted}
use Rattle.model.proofs.PointerCarried.{pointer_carried}
use Rattle.model.proofs.PointerBytes.{pointer_reads_back, pointer_written-is}
use Rattle.model.specs.Panel.{Layout, Setup, Panel, setup_good, panel_of, field_codes, good_layout}
use Rattle.model.specs.Events.{Event}
use Rattle.model.specs.Records.{bytes_of, events_from, events_of}
use Rattle.model.specs.Frame.{values_good}
use Rattle.model.specs.Reader.{Reader, read}
use Rattle.model.specs.Shift.{FrameCall, followed}
use Rattle.model.specs.Calls.{FreshReader, fresh_reader_call, accepted, is_accepted, frame_events, ran, run_call}
use Rattle.model.specs.Bench.{pupil}
use Rattle.model.specs.Pointer.{unpointed, pointable, display, heard}
use Rattle.model.specs.Pointing.{PointerState, pointer_good, FreshPointer, fresh_pointer_call, pointer_events, pointer_need, pointer_after, pointer_verdict, PointerWritten, pointer_refused, pointer_taken, pointer_call, pointer_buffer}
use Rattle.model.specs.PointerShift.{pointer_judged, pointer_wrote, pointer_wrote_all, pointer_sent, pointer_sent_all, contacts_sent, contacts_sent_all, pointer_written, pointer_written_all}

-- ---- one call

-- A call writes the events of its frame and answers the writer after it, or none and the writer as it was.
pub by_call : (l : Layout) (s : PointerState) (k : FrameCall) (P : List Event → List Event → PointerState → Type 0)
    → (T (values_good (panel_of l s.base.setup) k.frame) → P (pointer_events l s k.frame) (frame_events (panel_of l s.base.setup) s.base.writer k.frame) (pointer_after l s k.frame))
    → P [] [] s → P (pointer_sent l s k) (contacts_sent l s k) (pointer_wrote l s k)
unfolding pointer_call
by_call l s k P some none =
    let f = k.frame in
    let size = length k.buffer in
    let v = pointer_verdict l s f k.at size in
    let contacts = frame_events (panel_of l s.base.setup) s.base.writer f in
    (elim (is_accepted v) as (λ b. (T b → T (is_accepted v)) → P (cond b (pointer_events l s f) []) (cond b contacts []) (cond b (pointer_taken l s f) (pointer_refused v s (pointer_need l s f))).state) [
      | true ↦ λ h. some (pointer_accepted l s f k.at size (h tt)).values
      | false ↦ λ h. none
    ]) (λ t. t)

pub setup-kept : (l : Layout) (s : PointerState) (k : FrameCall) → (pointer_wrote l s k).base.setup ≡ s.base.setup
setup-kept l s k = by_call l s k (λ es cs t. t.base.setup ≡ s.base.setup) (λ v. refl) refl

module _ (l : Layout) (s : PointerState) (k : FrameCall) (g : T (good_layout l)) (good : T (pointer_good l s)) where
  call_good : T (pointer_good l (pointer_wrote l s k))
  call_good = pointer_steady l s k.frame k.at (length k.buffer) g good

  -- What a call makes of a well-formed writer: events that records carry, and that any reader without the two codes reads as the contact events alone.
  record Called (es cs : List Event) (t : PointerState) : Type 0 where
    carried : AllCarried es
    same : (p : Panel) (r : Reader) → T (unpointed (field_codes p.fields)) → read p r es ≡ read p r cs

  called : Called (pointer_sent l s k) (contacts_sent l s k) (pointer_wrote l s k)
  called =
      by_call l s k Called
      (λ v. record { carried = pointer_carried l s k.frame g good v; same = λ p r n. reads_same l s k.frame g good v p r n })
      (record { carried = tt; same = λ p r n. refl })

  call_back : T (pointable l) → read (panel_of l s.base.setup) (pupil s.base).reader (pointer_sent l s k) ≡ (pupil (pointer_wrote l s k).base).reader
  call_back able =
      by_call l s k (λ es cs t. read (panel_of l s.base.setup) (pupil s.base).reader es ≡ (pupil t.base).reader)
      (λ v. pointer_reads_back l s k.frame g good v able)
      refl

  call_told : T (pointable l) → heard (display s.pointing.last) (pointer_sent l s k) ≡ display (pointer_wrote l s k).pointing.last
  call_told able =
      by_call l s k (λ es cs t. heard (display s.pointing.last) es ≡ display t.pointing.last)
      (λ v. display-told l s k.frame g good v able)
      refl

-- Its bytes are those of its events.
pub call_bytes : (l : Layout) (s : PointerState) (k : FrameCall) → T (good_layout l) → pointer_written l s k.frame k.at k.buffer ≡ bytes_of (pointer_sent l s k)
unfolding bytes_of
call_bytes l s k g =
    let v = pointer_judged l s k in
    let es = pointer_events l s k.frame in
    let bs = pointer_written l s k.frame k.at k.buffer in
    (elim (is_accepted v) as (λ b. (T b → T (is_accepted v)) → (T (not b) → T (not (is_accepted v))) → bs ≡ bytes_of (cond b es [])) [
      | true ↦ λ y n. pointer_written-is l s k.frame k.at k.buffer g (y tt)
      | false ↦ λ y n.
          ap (λ (a : PointerWritten). take (8 * a.count) (drop k.at (pointer_buffer l s k.frame k.at k.buffer)))
          (pointer-refused l s k.frame k.at (length k.buffer) (n tt))
    ]) (λ t. t) (λ t. t)

-- ---- all calls

-- They keep the setup.
pub calls_setup : (l : Layout) (s : PointerState) (ks : List FrameCall) → (pointer_wrote_all l s ks).base.setup ≡ s.base.setup
calls_setup l s [] = refl
calls_setup l s (k ∷ ks) = calls_setup l (pointer_wrote l s k) ks ∙ setup-kept l s k

module _ (l : Layout) (g : T (good_layout l)) where
  -- They keep a state well formed.
  pub calls_good : (s : PointerState) (ks : List FrameCall) → T (pointer_good l s) → T (pointer_good l (pointer_wrote_all l s ks))
  calls_good s [] good = good
  calls_good s (k ∷ ks) good = calls_good (pointer_wrote l s k) ks (call_good l s k g good)

  -- The emulated events changed nothing (K14), for any reader of any panel without the two codes, in any mode.
  pub calls_read-same : (p : Panel) (s : PointerState) (ks : List FrameCall) (r : Reader) → T (unpointed (field_codes p.fields)) → T (pointer_good l s)
      → read p r (pointer_sent_all l s ks) ≡ read p r (contacts_sent_all l s ks)
  calls_read-same p s [] r n good = refl
  calls_read-same p s (k ∷ ks) r n good =
      let z = pointer_wrote l s k in
      read_append p r (pointer_sent l s k) (pointer_sent_all l z ks)
      ∙ ap (λ x. read p x (pointer_sent_all l z ks)) ((called l s k g good).same p r n)
      ∙ calls_read-same p z ks (read p r (contacts_sent l s k)) n (call_good l s k g good)
      ∙ sym (read_append p r (contacts_sent l s k) (contacts_sent_all l z ks))

  -- Their bytes are whole records.
  pub calls_whole : (s : PointerState) (ks : List FrameCall) → length (pointer_written_all l s ks) % 8 ≡ 0
  calls_whole s [] = omega arith
  calls_whole s (k ∷ ks) =
      let bs = pointer_written l s k.frame k.at k.buffer in
      let rest = pointer_written_all l (pointer_wrote l s k) ks in
      omega (arith, length-append bs rest, ap length (call_bytes l s k g), bytes-length (pointer_sent l s k), calls_whole (pointer_wrote l s k) ks)

  -- Which are their events.
  pub calls_events : (s : PointerState) (ks : List FrameCall) → T (pointer_good l s) → events_of (pointer_written_all l s ks) ≡ pointer_sent_all l s ks
  unfolding events_from
  calls_events s [] good = refl
  calls_events s (k ∷ ks) good =
      let bs = pointer_written l s k.frame k.at k.buffer in
      let same = call_bytes l s k g in
      let whole : length bs % 8 ≡ 0 = omega (arith, ap length same, bytes-length (pointer_sent l s k)) in
      events_append bs (pointer_written_all l (pointer_wrote l s k) ks) whole
      ∙ ap₂ {C = List Event} (λ a b. a ++ b) (ap events_of same ∙ decoded (pointer_sent l s k) (called l s k g good).carried)
      (calls_events (pointer_wrote l s k) ks (call_good l s k g good))

  module _ (able : T (pointable l)) where
    calls_back : (u : Setup) (s : PointerState) (ks : List FrameCall) → s.base.setup ≡ u → T (pointer_good l s)
        → read (panel_of l u) (pupil s.base).reader (pointer_sent_all l s ks) ≡ (pupil (pointer_wrote_all l s ks).base).reader
    calls_back u s [] e good = refl
    calls_back u s (k ∷ ks) e good =
        let z = pointer_wrote l s k in
        let one = subst (λ v. read (panel_of l v) (pupil s.base).reader (pointer_sent l s k) ≡ (pupil z.base).reader) e (call_back l s k g good able) in
        read_append (panel_of l u) (pupil s.base).reader (pointer_sent l s k) (pointer_sent_all l z ks)
        ∙ ap (λ x. read (panel_of l u) x (pointer_sent_all l z ks)) one
        ∙ calls_back u z ks (setup-kept l s k ∙ e) (call_good l s k g good)

    -- The writer's own reader that reads all events of any calls is that of the writer after them.
    pub calls_read_back : (s : PointerState) (ks : List FrameCall) → T (pointer_good l s)
        → read (panel_of l s.base.setup) (pupil s.base).reader (pointer_sent_all l s ks) ≡ (pupil (pointer_wrote_all l s ks).base).reader
    calls_read_back s ks good = calls_back s.base.setup s ks refl good

    -- A display that hears all events of any calls shows the numbers that the writer holds.
    pub calls_told : (s : PointerState) (ks : List FrameCall) → T (pointer_good l s)
        → heard (display s.pointing.last) (pointer_sent_all l s ks) ≡ display (pointer_wrote_all l s ks).pointing.last
    calls_told s [] good = refl
    calls_told s (k ∷ ks) good =
        let z = pointer_wrote l s k in
        heard_append (display s.pointing.last) (pointer_sent l s k) (pointer_sent_all l z ks)
        ∙ ap (λ x. heard x (pointer_sent_all l z ks)) (call_told l s k g good able)
        ∙ calls_told z ks (call_good l s k g good)

    -- In bytes: the writer's own reader that runs all that was written is accepted, and is that of the writer after the calls.
    pub calls_run : (s : PointerState) (ks : List FrameCall) → T (pointer_good l s)
        → (let bs = pointer_written_all l s ks in
        run_call l (pupil s.base) bs ≡ record { verdict = accepted; state = pupil (pointer_wrote_all l s ks).base; counts = followed (panel_of l s.base.setup) (events_of bs) })
    calls_run s ks good =
        let p = panel_of l s.base.setup in
        let bs = pointer_written_all l s ks in
        let back = ap (read p (pupil s.base).reader) (calls_events s ks good) ∙ calls_read_back s ks good in
        run-whole l (pupil s.base) bs (is_true _ (pupil-good l s.base (pointer_facts l s good).writer)) (eq-eqb (length bs % 8) 0 (calls_whole s ks))
        ∙ ap₂ ran (sym (calls_setup l s ks)) (followed-run p (pupil s.base).reader (pupil (pointer_wrote_all l s ks).base).reader (events_of bs) back refl)

    -- From the fresh states of a good setup, whatever was refused, the reader that is given all bytes so far shows the writer's table.
    pub calls_fresh : (on : Bool) (u : Setup) (ks : List FrameCall) → T (setup_good l u)
        → (let s = (fresh_pointer_call l on u).state in
        let bs = pointer_written_all l s ks in
        run_call l (fresh_reader_call l u).state bs ≡ record { verdict = accepted; state = pupil (pointer_wrote_all l s ks).base; counts = followed (panel_of l u) (events_of bs) })
    calls_fresh on u ks h =
        let made = pointer_made l on u (is_true _ h) in
        let s = (fresh_pointer_call l on u).state in
        let bs = pointer_written_all l s ks in
        let setup-is : s.base.setup ≡ u = ap (λ (a : FreshPointer). a.state.base.setup) made in
        let good = fresh_call_good l on u able (subst (λ (a : FreshPointer). T (is_accepted a.verdict)) (sym made) tt) in
        let reader-is : (fresh_reader_call l u).state ≡ pupil s.base =
        ap (λ (a : FreshReader). a.state) (reader-made l u (is_true _ h)) ∙ sym (ap (λ (a : FreshPointer). pupil a.state.base) made) in
        ap (λ t. run_call l t bs) reader-is
        ∙ calls_run s ks good
        ∙ ap (λ z. record { verdict = accepted; state = pupil (pointer_wrote_all l s ks).base; counts = followed (panel_of l z) (events_of bs) }) setup-is
