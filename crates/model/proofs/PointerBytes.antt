-- Demands 2 and 3 of a writer with pointer emulation (K6), said of the calls, in bytes. Cited by PointerShift. Assumes nothing.
use mathlib.Core.Path.{◌≡◌, sym, ap, ap₂, ◌∙◌}
use mathlib.Core.Bool.{true, cond}
use mathlib.Core.List.{List}
use Prim.Native.Nat.{ℕ, ◌+◌, ◌*◌, ◌%◌, ◌≤◌}
use native.Mathlib.Omega.{arith}
use lib.Dec.{T, leb, eqb, leb→le}
use lib.IntN.{ℤ}
use lib.ListN.{length, take, drop, length-map}
use borrow.Author.Tests.{eq-eqb}
use Rattle.model.proofs.Bools.{is_true, both_left}
use Rattle.model.proofs.Tables.{good-records, alike}
use Rattle.model.proofs.Codes.{tells, all_back, sending-good}
use Rattle.model.proofs.ReadsBack.{reads_back}
use Rattle.model.proofs.Skips.{counts_of}
use Rattle.model.proofs.Bytes.{bytes-length, decoded, laid-part}
use Rattle.model.proofs.Layouts.{panel-tellable}
use Rattle.model.proofs.Calls.{accepted-is, writer-state, after_steady, frame-count}
use Rattle.model.proofs.Answers.{run-whole}
use Rattle.model.proofs.Link.{pupil-good}
use Rattle.model.proofs.Shows.{sending-counts}
use Rattle.model.proofs.PointerCarried.{pointer_carried}
use Rattle.model.proofs.Pointing.{pointer_facts, panel-unpointed}
use Rattle.model.proofs.PointerFrame.{reads_same, runs_following, count_adds}
use Rattle.model.proofs.PointerCalls.{pointer_accepted, pointer-taken}
use Rattle.model.specs.Panel.{Layout, panel_of, field_codes, good_layout}
use Rattle.model.specs.Records.{bytes_of, lay}
use Rattle.model.specs.Frame.{values_good}
use Rattle.model.specs.Sending.{sending, event_of, changed_in, fewest}
use Rattle.model.specs.Reader.{count_all, Reader, read, run, nothing, one_shown}
use Rattle.model.specs.Calls.{accepted, is_accepted, writer_after, frame_events, ran, run_call}
use Rattle.model.specs.Bench.{pupil}
use Rattle.model.specs.Pointer.{pointable, display, with_pointer}
use Rattle.model.specs.Pointing.{PointerState, pointer_good, pointer_events, pointer_after, pointer_verdict, PointerWritten, pointer_call, pointer_buffer}
use Rattle.model.specs.PointerShift.{pointer_written}

module _ (l : Layout) (s : PointerState) (f : List ℤ) (g : T (good_layout l)) (good : T (pointer_good l s)) (vals : T (values_good (panel_of l s.base.setup) f)) where
  -- Demand 2 with the option: the writer's own reader that reads a frame's events is that of the writer after it.
  pub pointer_reads_back : T (pointable l) → read (panel_of l s.base.setup) (pupil s.base).reader (pointer_events l s f) ≡ (pupil (pointer_after l s f).base).reader
  pointer_reads_back able =
      let p = panel_of l s.base.setup in
      let facts = writer-state l s.base (pointer_facts l s good).writer in
      let after = after_steady l s.base f g facts vals in
      reads_same l s f g good vals p (pupil s.base).reader (panel-unpointed l s.base.setup able)
      ∙ reads_back p s.base.writer.table _ s.base.writer.current (panel-tellable l s.base.setup g facts.setup) facts.writer.good after.good
      after.differs

  contact-counts : (let p = panel_of l s.base.setup in let es = frame_events p s.base.writer f in
      counts_of p (pupil s.base).reader es ≡ cond (eqb (length es) 0) nothing one_shown)
  contact-counts =
      let p = panel_of l s.base.setup in
      let facts = writer-state l s.base (pointer_facts l s good).writer in
      let after = after_steady l s.base f g facts vals in
      let old = s.base.writer.table in
      let new = (writer_after p s.base.writer f).table in
      let c = s.base.writer.current in
      let fine = sending-good p.fields p.slots c old new (good-records p old facts.writer.good) (good-records p new after.good) in
      ap (count_all (pupil s.base).reader) (all_back p (tells p (panel-tellable l s.base.setup g facts.setup)) (sending c old new) fine)
      ∙ sending-counts old new c (alike p old new facts.writer.good after.good) after.differs
      ∙ ap (λ n. cond (eqb n 0) nothing one_shown) (sym (length-map (sending c old new) (event_of (field_codes p.fields))))

  pointer_run : T (pointable l) → run (panel_of l s.base.setup) (pupil s.base).reader (pointer_events l s f)
      ≡ record {
        reader = (pupil (pointer_after l s f).base).reader;
        counts = with_pointer s.pointing.last (pointer_after l s f).pointing.last
            (cond (eqb (length (frame_events (panel_of l s.base.setup) s.base.writer f)) 0) nothing one_shown);
      }
  unfolding run
  pointer_run able =
      let p = panel_of l s.base.setup in
      let r = (pupil s.base).reader in
      let n = panel-unpointed l s.base.setup able in
      let back = pointer_reads_back able in
      let contact = sym (reads_same l s f g good vals p r n) ∙ back in
      runs_following l s f g good vals p r n (ap (λ (x : Reader). x.mode) contact)
      ∙ ap₂ (λ x c. record { reader = x; counts = with_pointer s.pointing.last (pointer_after l s f).pointing.last c }) contact contact-counts

module _ (l : Layout) (s : PointerState) (f : List ℤ) (at : ℕ) (buf : List ℕ) (g : T (good_layout l)) (h : T (is_accepted (pointer_verdict l s f at (length buf)))) where
  buffer-is : pointer_buffer l s f at buf ≡ lay at (bytes_of (pointer_events l s f)) buf
  unfolding pointer_buffer
  buffer-is = accepted-is (is_accepted (pointer_verdict l s f at (length buf))) _ _ h

  -- The bytes of an accepted frame are there.
  pub pointer_written-is : pointer_written l s f at buf ≡ bytes_of (pointer_events l s f)
  pointer_written-is =
      let es = pointer_events l s f in
      let a : at ≤ length buf = leb→le at (length buf) (both_left (leb at (length buf)) _ (pointer_accepted l s f at (length buf) h).room) in
      ap₂ (λ (n : ℕ) (b : List ℕ). take n (drop at b))
      (ap (λ (w : PointerWritten). 8 * w.count) (pointer-taken l s f at (length buf) h) ∙ sym (bytes-length es)) buffer-is
      ∙ laid-part at (bytes_of es) buf a

  -- Demand 2 of the calls, in bytes: the writer's own reader that runs what was written is accepted, and is that of the writer after it; it counted one
  -- table shown if anything was written, and the emulated events as skipped.
  pub pointer_runs : T (pointable l) → run_call l (pupil s.base) (pointer_written l s f at buf)
      ≡ (let a = pointer_call l s f at (length buf) in
      let shown = cond (eqb (length (frame_events (panel_of l s.base.setup) s.base.writer f)) 0) nothing one_shown in
      record { verdict = accepted; state = pupil a.state.base; counts = with_pointer s.pointing.last a.state.pointing.last shown })
  pointer_runs able =
      let p = panel_of l s.base.setup in
      let es = pointer_events l s f in
      let r = (pupil s.base).reader in
      let a = pointer_accepted l s f at (length buf) h in
      let whole : eqb (length (bytes_of es) % 8) 0 ≡ true = eq-eqb (length (bytes_of es) % 8) 0 (omega (arith, bytes-length es)) in
      let shown = cond (eqb (length (frame_events p s.base.writer f)) 0) nothing one_shown in
      ap (run_call l (pupil s.base)) pointer_written-is
      ∙ run-whole l (pupil s.base) (bytes_of es) (is_true _ (pupil-good l s.base (pointer_facts l s a.good).writer)) whole
      ∙ ap (λ xs. ran s.base.setup (run p r xs)) (decoded es (pointer_carried l s f g a.good a.values))
      ∙ ap (ran s.base.setup) (pointer_run l s f g a.good a.values able)
      ∙ sym (ap (λ (w : PointerWritten). record { verdict = accepted; state = pupil w.state.base; counts = with_pointer s.pointing.last w.state.pointing.last shown }) (pointer-taken l s f at (length buf) h))

  -- Demand 3 with the option: the count is `fewest` between the tables, and one for each changed number of the display.
  pub pointer_count : (let a = pointer_call l s f at (length buf) in
      a.count ≡ fewest s.base.writer.current s.base.writer.table a.state.base.writer.table
      + changed_in (display s.pointing.last) (display a.state.pointing.last))
  pointer_count =
      let a = pointer_accepted l s f at (length buf) h in
      let is = pointer-taken l s f at (length buf) h in
      ap (λ (w : PointerWritten). w.count) is
      ∙ count_adds l s f g a.good a.values
      ∙ ap (λ n. n + changed_in (display s.pointing.last) (display (pointer_after l s f).pointing.last)) (frame-count l s.base f)
      ∙ sym (ap (λ (w : PointerWritten). fewest s.base.writer.current s.base.writer.table w.state.base.writer.table + changed_in (display s.pointing.last) (display w.state.pointing.last)) is)
