-- Demands 2 and 3 said of the calls, in bytes: what `write` put into a buffer, read by `run`. The crate link says it of the code. Assumes nothing.
use mathlib.Core.Path.{◌≡◌, refl, sym, ap, ap₂, ◌∙◌, subst}
use mathlib.Core.Bool.{true, false, cond}
use mathlib.Core.List.{List, map}
use Prim.Native.Nat.{ℕ, ◌*◌, ◌/◌, ◌%◌, ◌≤◌}
use native.Mathlib.Omega.{arith}
use lib.Dec.{T, eqb, leb, leb→le}
use lib.IntN.{ℤ}
use lib.ListN.{length, take, drop, length-map}
use borrow.Author.Tests.{eq-eqb}
use Rattle.model.proofs.Bools.{is_true, both_left}
use Rattle.model.proofs.Tables.{good-records, alike}
use Rattle.model.proofs.Codes.{tells, all_back, sending-good}
use Rattle.model.proofs.Count.{changed_numbers_self}
use Rattle.model.proofs.Least.{least}
use Rattle.model.proofs.Bytes.{bytes-length, events-length, decoded, laid-part, frame-carried}
use Rattle.model.proofs.Layouts.{panel-tellable}
use Rattle.model.proofs.Shows.{sending-counts}
use Rattle.model.proofs.Calls.{writer-state, state-reader, after_steady, write_accepted, frame-reads_back, frame-count, accepted-is}
use Rattle.model.proofs.Answers.{run-whole}
use Rattle.model.specs.Panel.{Layout, panel_of, good_layout, field_codes}
use Rattle.model.specs.Table.{Table}
use Rattle.model.specs.Events.{classify}
use Rattle.model.specs.Records.{bytes_of, events_of, lay}
use Rattle.model.specs.Frame.{values_good}
use Rattle.model.specs.Sending.{event_of, sending, fewest}
use Rattle.model.specs.Reader.{following, follow, nothing, one_shown, count_all, run as run_over}
use Rattle.model.specs.States.{WriterState, writer_good, reader_good}
use Rattle.model.specs.Calls.{is_accepted, accepted, frame_events, writer_after, need_of, write_verdict, Written, not_written, taken, write_call, write_buffer, ran, not_run, run_verdict, run_call}
use Rattle.model.specs.Bench.{pupil}
use Rattle.model.specs.Shift.{written}

-- A call that answers "accepted" had that verdict.
pub call_verdict : (l : Layout) (s : WriterState) (f : List ℤ) (at size : ℕ) → (write_call l s f at size).verdict ≡ accepted → T (is_accepted (write_verdict l s f at size))
unfolding write_call
call_verdict l s f at size e =
    let p = panel_of l s.setup in
    let v = write_verdict l s f at size in
    let x = taken p s f in
    let y = not_written v s (need_of p s.writer f) in
    (elim (is_accepted v) as (λ b. (T b → T (is_accepted v)) → (cond b x y).verdict ≡ accepted → T (is_accepted v)) [
      | true ↦ λ i d. i tt
      | false ↦ λ i d. subst (λ z. T (is_accepted z)) (sym d) tt
    ]) (λ t. t) e

-- The pupil of a well-formed writer is well formed.
pub pupil-good : (l : Layout) (s : WriterState) → T (writer_good l s) → T (reader_good l (pupil s))
pupil-good l s g =
    let w = writer-state l s g in
    state-reader l (pupil s)
    (record {
      setup = w.setup;
      reader = record { shows = w.writer.good; pends = w.writer.good; differs = w.writer.differs; below = w.writer.below; settles = tt };
    })

module _ (l : Layout) (s : WriterState) (f : List ℤ) (at : ℕ) (buf : List ℕ) (g : T (good_layout l)) (h : T (is_accepted (write_verdict l s f at (length buf)))) where
  good : T (writer_good l s)
  good = (write_accepted l s f at (length buf) h).good

  values : T (values_good (panel_of l s.setup) f)
  values = (write_accepted l s f at (length buf) h).values

  -- The answer of the accepted call.
  pub answer-is : write_call l s f at (length buf) ≡ taken (panel_of l s.setup) s f
  unfolding write_call
  answer-is = accepted-is (is_accepted (write_verdict l s f at (length buf))) _ _ h

  buffer-is : write_buffer l s f at buf ≡ lay at (bytes_of (frame_events (panel_of l s.setup) s.writer f)) buf
  unfolding write_buffer
  buffer-is = accepted-is (is_accepted (write_verdict l s f at (length buf))) _ _ h

  -- The bytes of the frame are there.
  pub written_is : written l s f at buf ≡ bytes_of (frame_events (panel_of l s.setup) s.writer f)
  unfolding good values
  written_is =
      let es = frame_events (panel_of l s.setup) s.writer f in
      let a : at ≤ length buf = leb→le at (length buf) (both_left (leb at (length buf)) _ (write_accepted l s f at (length buf) h).room) in
      ap₂ (λ (n : ℕ) (b : List ℕ). take n (drop at b)) (ap (λ (w : Written). 8 * w.count) answer-is ∙ sym (bytes-length es)) buffer-is ∙ laid-part at (bytes_of es) buf a

  counts_are : count_all (follow s.writer.table s.writer.table s.writer.current) (map (classify (panel_of l s.setup)) (events_of (bytes_of (frame_events (panel_of l s.setup) s.writer f))))
      ≡ cond (eqb (length (frame_events (panel_of l s.setup) s.writer f)) 0) nothing one_shown
  unfolding good values
  counts_are =
      let p = panel_of l s.setup in
      let w = writer-state l s good in
      let after = after_steady l s f g w values in
      let tell = panel-tellable l s.setup g w.setup in
      let old = s.writer.table in
      let new = (writer_after p s.writer f).table in
      let c = s.writer.current in
      ap (λ es. count_all (follow old old c) (map (classify p) es)) (decoded (frame_events p s.writer f) (frame-carried p old new c tell w.writer.good after.good))
      ∙ ap (count_all (follow old old c)) (all_back p (tells p tell) (sending c old new) (sending-good p.fields p.slots c old new (good-records p old w.writer.good) (good-records p new after.good)))
      ∙ sending-counts old new c (alike p old new w.writer.good after.good) after.differs
      ∙ ap (λ n. cond (eqb n 0) nothing one_shown) (sym (length-map (sending c old new) (event_of (field_codes p.fields))))

  run_is : run_over (panel_of l s.setup) (follow s.writer.table s.writer.table s.writer.current) (events_of (bytes_of (frame_events (panel_of l s.setup) s.writer f)))
      ≡ (let w = writer_after (panel_of l s.setup) s.writer f in record { reader = follow w.table w.table w.current; counts = cond (eqb (length (frame_events (panel_of l s.setup) s.writer f)) 0) nothing one_shown })
  unfolding run_over good values
  run_is = ap₂ (λ r c. record { reader = r; counts = c }) (frame-reads_back l s f g good values) counts_are

  -- Demand 2: a following reader of the same setup, table and current slot with nothing pending that runs what was written is accepted, follows, shows and holds pending
  -- the writer's new table, has its current slot, and counted one table shown if anything was written, and nothing else.
  pub run_of_written : run_call l (pupil s) (written l s f at buf)
      ≡ (let a = write_call l s f at (length buf) in record { verdict = accepted; state = pupil a.state; counts = cond (eqb a.count 0) nothing one_shown })
  unfolding good
  run_of_written =
      let p = panel_of l s.setup in
      let es = frame_events p s.writer f in
      let whole : eqb (length (bytes_of es) % 8) 0 ≡ true = eq-eqb (length (bytes_of es) % 8) 0 (omega (arith, bytes-length es)) in
      ap (run_call l (pupil s)) written_is
      ∙ run-whole l (pupil s) (bytes_of es) (is_true _ (pupil-good l s good)) whole
      ∙ ap (ran s.setup) run_is
      ∙ sym (ap (λ (a : Written). record { verdict = accepted; state = pupil a.state; counts = cond (eqb a.count 0) nothing one_shown }) answer-is)

  -- Demand 3: the count is `fewest` between the old table and the new one.
  pub count-is-fewest : (write_call l s f at (length buf)).count ≡ fewest s.writer.current s.writer.table (write_call l s f at (length buf)).state.writer.table
  count-is-fewest = ap (λ (a : Written). a.count) answer-is ∙ frame-count l s f ∙ sym (ap (λ (a : Written). fewest s.writer.current s.writer.table a.state.writer.table) answer-is)

fewest_self : (c : ℕ) (t : Table) → fewest c t t ≡ 0
fewest_self c t = rw (changed_numbers_self t)

-- Demand 3: any bytes that take that reader to a table and leave it following hold `fewest` whole records at least, whether the run is accepted or refused.
pub no_fewer-records : (l : Layout) (s : WriterState) (bs : List ℕ) → (run_call l (pupil s) bs).state.reader.mode ≡ following
    → fewest s.writer.current s.writer.table (run_call l (pupil s) bs).state.reader.shown ≤ length bs / 8
unfolding run_call run_over
no_fewer-records l s bs m =
    let p = panel_of l s.setup in
    let v = run_verdict l (pupil s) bs in
    let x = ran s.setup (run_over p (pupil s).reader (events_of bs)) in
    let y = not_run v (pupil s) in
    (elim (is_accepted v) as (λ b. (cond b x y).state.reader.mode ≡ following → fewest s.writer.current s.writer.table (cond b x y).state.reader.shown ≤ length bs / 8) [
      | true ↦ λ e. omega (arith, least p s.writer.current s.writer.table _ (events_of bs) e refl, events-length (length bs / 8) bs 0)
      | false ↦ λ e. omega (arith, fewest_self s.writer.current s.writer.table)
    ]) m
