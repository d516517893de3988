-- A shift, any list of calls of `write`, refused ones among them: the writer stays well formed and keeps its setup, its bytes are the records of its
-- events, and its own reader follows them. Cited by Narrow and link. Assumes nothing.
use mathlib.Core.Path.{◌≡◌, refl, sym, ap, ap₂, ◌∙◌, subst}
use mathlib.Core.Bool.{true, false, not, cond}
use mathlib.Core.List.{List, [], ◌∷◌, ◌++◌, map}
use Prim.Native.Nat.{◌*◌, ◌%◌}
use native.Mathlib.Omega.{arith}
use lib.Dec.{T}
use lib.ListN.{length, take, drop, length-append}
use borrow.Author.Tests.{eq-eqb}
-- Brought in so that it is checked first: a shift that is said wrongly then fails at the shift computed there, and not at a step of a proof here.
use Rattle.model.proofs.Bools.{is_true}
use Rattle.model.proofs.Tables.{good-records}
use Rattle.model.proofs.Follow.{asks}
use Rattle.model.proofs.Codes.{Tellable, tells, AllGood, back, sending-good}
use Rattle.model.proofs.ReadsBack.{reads_back}
use Rattle.model.proofs.Cut.{read_append, events_append}
use Rattle.model.proofs.Bytes.{AllCarried, bytes-length, decoded, frame-carried}
use Rattle.model.proofs.Skips.{Listed, Told, told}
use Rattle.model.proofs.Layouts.{panel-tellable}
use Rattle.model.proofs.Calls.{writer-state, state-writer, after_steady, write_accepted, write_refused, fresh-writer-good}
use Rattle.model.proofs.Answers.{writer-made, reader-made, run-whole}
use Rattle.model.proofs.Link.{written_is, pupil-good}
use Rattle.model.proofs.Followed.{followed-run}
use Rattle.model.specs.Panel.{Layout, Setup, Panel, setup_good, panel_of, good_layout, field_codes}
use Rattle.model.specs.Events.{Event}
use Rattle.model.specs.Records.{bytes_of, events_from, events_of}
use Rattle.model.specs.Frame.{values_good}
use Rattle.model.specs.Reader.{read, run}
use Rattle.model.specs.Sending.{Sent, send_slot, send_number, send_report, event_of, sending}
use Rattle.model.specs.Skips.{skipped_by}
use Rattle.model.specs.States.{WriterState, writer_good, ReaderState, reader_good, fresh_writer}
use Rattle.model.specs.Calls.{is_accepted, accepted, FreshWriter, fresh_writer_call, FreshReader, fresh_reader_call, ran, run_call}
use Rattle.model.specs.Calls.{writer_after, frame_events, need_of, write_verdict, Written, not_written, taken, write_call, write_buffer}
use Rattle.model.specs.Bench.{pupil}
use Rattle.model.specs.Shift.{FrameCall, wrote, wrote_all, sent, sent_all, written, written_all, followed}
use Rattle.model.specs.Narrow.{AllListed}

-- ---- one call

-- A call writes the events of its frame and answers the writer after it, or none and the writer as it was.
by_call : (l : Layout) (s : WriterState) (q : FrameCall) (P : List Event → WriterState → Type 0)
    → (let p = panel_of l s.setup in T (values_good p q.frame) → P (frame_events p s.writer q.frame) (taken p s q.frame).state)
    → P [] s → P (sent l s q) (wrote l s q)
unfolding write_call
by_call l s q P some none =
    let p = panel_of l s.setup in
    let f = q.frame in
    let size = length q.buffer in
    let v = write_verdict l s f q.at size in
    let y = not_written v s (need_of p s.writer f) in
    (elim (is_accepted v) as (λ b. (T b → T (is_accepted v)) → P (cond b (frame_events p s.writer f) []) (cond b (taken p s f) y).state) [
      | true ↦ λ h. some (write_accepted l s f q.at size (h tt)).values
      | false ↦ λ h. none
    ]) (λ t. t)

setup-kept : (l : Layout) (s : WriterState) (q : FrameCall) → (wrote l s q).setup ≡ s.setup
setup-kept l s q = by_call l s q (λ es t. t.setup ≡ s.setup) (λ v. refl) refl

listed_false : (p : Panel) (e : Event) → Listed p e → skipped_by p e ≡ false
listed_false p e l =
    let k = l.type in
    let d = l.code in
    rw (k, d)

asked_listed : (p : Panel) (e : Event) (x : Sent) → Told p e (asks x) → Listed p e
asked_listed p e (send_slot k) t = t
asked_listed p e (send_number i v) t = t
asked_listed p e send_report t = t

pub all_listed : (p : Panel) → Tellable p → (xs : List Sent) → AllGood p.fields p.slots xs → AllListed p (map (event_of (field_codes p.fields)) xs)
all_listed p w [] g = tt
all_listed p w (x ∷ xs) g =
    let e = event_of (field_codes p.fields) x in
    (listed_false p e (asked_listed p e x (subst (Told p e) (back p w x g.0) (told p e))), all_listed p w xs g.1)

module _ (l : Layout) (s : WriterState) (q : FrameCall) (g : T (good_layout l)) (w : T (writer_good l s)) where
  -- What a call makes of a well-formed writer: a well-formed one; events that records carry and the panel lists, and by which its own reader follows it.
  record Called (es : List Event) (t : WriterState) : Type 0 where
    good : T (writer_good l t)
    carried : AllCarried es
    listed : AllListed (panel_of l s.setup) es
    reads : read (panel_of l s.setup) (pupil s).reader es ≡ (pupil t).reader

  called : Called (sent l s q) (wrote l s q)
  called =
      let p = panel_of l s.setup in
      let facts = writer-state l s w in
      let tell = panel-tellable l s.setup g facts.setup in
      let old = s.writer.table in
      let c = s.writer.current in
      by_call l s q Called
      (λ v.
      let new = (writer_after p s.writer q.frame).table in
      let after = after_steady l s q.frame g facts v in
      let fine = sending-good p.fields p.slots c old new (good-records p old facts.writer.good) (good-records p new after.good) in
      record {
        good = state-writer l (taken p s q.frame).state (record { setup = facts.setup; writer = after });
        carried = frame-carried p old new c tell facts.writer.good after.good;
        listed = all_listed p (tells p tell) (sending c old new) fine;
        reads = reads_back p old new c tell facts.writer.good after.good after.differs;
      })
      (record { good = w; carried = tt; listed = tt; reads = refl })

-- Its bytes are those of its events.
call_bytes : (l : Layout) (s : WriterState) (q : FrameCall) → T (good_layout l) → written l s q.frame q.at q.buffer ≡ bytes_of (sent l s q)
unfolding bytes_of
call_bytes l s q g =
    let v = write_verdict l s q.frame q.at (length q.buffer) in
    let es = frame_events (panel_of l s.setup) s.writer q.frame in
    let bs = written l s q.frame q.at q.buffer in
    (elim (is_accepted v) as (λ b. (T b → T (is_accepted v)) → (T (not b) → T (not (is_accepted v))) → bs ≡ bytes_of (cond b es [])) [
      | true ↦ λ y n. written_is l s q.frame q.at q.buffer g (y tt)
      | false ↦ λ y n.
          ap (λ (a : Written). take (8 * a.count) (drop q.at (write_buffer l s q.frame q.at q.buffer)))
          (write_refused l s q.frame q.at q.buffer (n tt)).0
    ]) (λ t. t) (λ t. t)

-- ---- all calls

-- They keep the setup.
pub shift_setup : (l : Layout) (s : WriterState) (qs : List FrameCall) → (wrote_all l s qs).setup ≡ s.setup
shift_setup l s [] = refl
shift_setup l s (q ∷ qs) = shift_setup l (wrote l s q) qs ∙ setup-kept l s q

-- They keep a writer well formed.
pub shift_steady : (l : Layout) (s : WriterState) (qs : List FrameCall) → T (good_layout l) → T (writer_good l s) → T (writer_good l (wrote_all l s qs))
shift_steady l s [] g w = w
shift_steady l s (q ∷ qs) g w = shift_steady l (wrote l s q) qs g (called l s q g w).good

listed_append : (p : Panel) (xs ys : List Event) → AllListed p xs → AllListed p ys → AllListed p (xs ++ ys)
listed_append p [] ys a b = b
listed_append p (x ∷ xs) ys a b = (a.0, listed_append p xs ys a.1 b)

-- Their events are all listed.
shift_listed : (l : Layout) (u : Setup) (s : WriterState) (qs : List FrameCall) → T (good_layout l) → T (writer_good l s) → s.setup ≡ u
    → AllListed (panel_of l u) (sent_all l s qs)
shift_listed l u s [] g w e = tt
shift_listed l u s (q ∷ qs) g w e =
    listed_append (panel_of l u) (sent l s q) (sent_all l (wrote l s q) qs) (subst (λ z. AllListed (panel_of l z) (sent l s q)) e (called l s q g w).listed)
    (shift_listed l u (wrote l s q) qs g (called l s q g w).good (setup-kept l s q ∙ e))

-- A reader that follows the writer, shows its table, has its current slot and has nothing pending is so again after their events.
shift_reads : (l : Layout) (u : Setup) (s : WriterState) (qs : List FrameCall) → T (good_layout l) → T (writer_good l s) → s.setup ≡ u
    → read (panel_of l u) (pupil s).reader (sent_all l s qs) ≡ (pupil (wrote_all l s qs)).reader
shift_reads l u s [] g w e = refl
shift_reads l u s (q ∷ qs) g w e =
    let one = subst (λ z. read (panel_of l z) (pupil s).reader (sent l s q) ≡ (pupil (wrote l s q)).reader) e (called l s q g w).reads in
    read_append (panel_of l u) (pupil s).reader (sent l s q) (sent_all l (wrote l s q) qs)
    ∙ ap (λ r. read (panel_of l u) r (sent_all l (wrote l s q) qs)) one
    ∙ shift_reads l u (wrote l s q) qs g (called l s q g w).good (setup-kept l s q ∙ e)

-- Their bytes are whole records.
shift_whole : (l : Layout) (s : WriterState) (qs : List FrameCall) → T (good_layout l) → length (written_all l s qs) % 8 ≡ 0
shift_whole l s [] g = omega arith
shift_whole l s (q ∷ qs) g =
    let bs = written l s q.frame q.at q.buffer in
    let rest = written_all l (wrote l s q) qs in
    omega (arith, length-append bs rest, ap length (call_bytes l s q g), bytes-length (sent l s q), shift_whole l (wrote l s q) qs g)

-- The records of their bytes are their events.
shift_events : (l : Layout) (s : WriterState) (qs : List FrameCall) → T (good_layout l) → T (writer_good l s)
    → events_of (written_all l s qs) ≡ sent_all l s qs
unfolding events_from
shift_events l s [] g w = refl
shift_events l s (q ∷ qs) g w =
    let bs = written l s q.frame q.at q.buffer in
    let same = call_bytes l s q g in
    let whole : length bs % 8 ≡ 0 = omega (arith, ap length same, bytes-length (sent l s q)) in
    events_append bs (written_all l (wrote l s q) qs) whole
    ∙ ap₂ {C = List Event} (λ a b. a ++ b) (ap events_of same ∙ decoded (sent l s q) (called l s q g w).carried)
    (shift_events l (wrote l s q) qs g (called l s q g w).good)

-- Which the panel lists, and by which the writer's own reader follows it.
module _ (l : Layout) (s : WriterState) (qs : List FrameCall) (g : T (good_layout l)) (w : T (writer_good l s)) where
  pub bytes_listed : AllListed (panel_of l s.setup) (events_of (written_all l s qs))
  bytes_listed = subst (AllListed (panel_of l s.setup)) (sym (shift_events l s qs g w)) (shift_listed l s.setup s qs g w refl)

  pub bytes_read : read (panel_of l s.setup) (pupil s).reader (events_of (written_all l s qs)) ≡ (pupil (wrote_all l s qs)).reader
  bytes_read = ap (read (panel_of l s.setup) (pupil s).reader) (shift_events l s qs g w) ∙ shift_reads l s.setup s qs g w refl

-- So a well-formed reader of any layout that is given their bytes is accepted and runs over the records.
pub run_shift : (l k : Layout) (s : WriterState) (t : ReaderState) (qs : List FrameCall) → T (good_layout l) → T (reader_good k t)
    → (let bs = written_all l s qs in run_call k t bs ≡ ran t.setup (run (panel_of k t.setup) t.reader (events_of bs)))
run_shift l k s t qs g r = run-whole k t (written_all l s qs) (is_true _ r) (eq-eqb (length (written_all l s qs) % 8) 0 (shift_whole l s qs g))

-- The writer's own reader is, after their bytes, the reader of the writer after them.
pub shift_run : (l : Layout) (s : WriterState) (qs : List FrameCall) → T (good_layout l) → T (writer_good l s)
    → (let bs = written_all l s qs in
    run_call l (pupil s) bs ≡ record { verdict = accepted; state = pupil (wrote_all l s qs); counts = followed (panel_of l s.setup) (events_of bs) })
shift_run l s qs g w =
    let p = panel_of l s.setup in
    let es = events_of (written_all l s qs) in
    run_shift l l s (pupil s) qs g (pupil-good l s w)
    ∙ ap₂ ran (sym (shift_setup l s qs)) (followed-run p (pupil s).reader (pupil (wrote_all l s qs)).reader es (bytes_read l s qs g w) refl)

-- ---- from the fresh states of a good setup

module _ (l : Layout) (u : Setup) (h : T (setup_good l u)) where
  made : fresh_writer_call l u ≡ record { verdict = accepted; state = record { setup = u; writer = fresh_writer (panel_of l u) } }
  made = writer-made l u (is_true _ h)

  -- The fresh writer has the setup, and is well formed.
  pub fresh-setup : (fresh_writer_call l u).state.setup ≡ u
  unfolding made
  fresh-setup = ap (λ (a : FreshWriter). a.state.setup) made

  pub fresh-good : T (writer_good l (fresh_writer_call l u).state)
  unfolding made
  fresh-good = fresh-writer-good l u (subst (λ (a : FreshWriter). T (is_accepted a.verdict)) (sym made) tt)

  -- The fresh reader is the writer's own.
  pub fresh-pupil : (fresh_reader_call l u).state ≡ pupil (fresh_writer_call l u).state
  unfolding made
  fresh-pupil = ap (λ (a : FreshReader). a.state) (reader-made l u (is_true _ h)) ∙ sym (ap (λ (a : FreshWriter). pupil a.state) made)

  -- So whatever was refused, the reader that is given all bytes so far shows the writer's table.
  pub shift_fresh : (qs : List FrameCall) → T (good_layout l)
      → (let s = (fresh_writer_call l u).state in
      let bs = written_all l s qs in
      let counts = followed (panel_of l u) (events_of bs) in
      run_call l (fresh_reader_call l u).state bs ≡ record { verdict = accepted; state = pupil (wrote_all l s qs); counts = counts })
  shift_fresh qs g =
      let s = (fresh_writer_call l u).state in
      let bs = written_all l s qs in
      ap (λ t. run_call l t bs) fresh-pupil
      ∙ shift_run l s qs g fresh-good
      ∙ ap (λ z. record { verdict = accepted; state = pupil (wrote_all l s qs); counts = followed (panel_of l z) (events_of bs) }) fresh-setup
