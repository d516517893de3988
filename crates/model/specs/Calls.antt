-- Every call and what it answers: the refusals in rising number, and what an accepted call gives. Assumes nothing.
-- The code's contracts are these calls, seen through their structs.
use Rattle.std.specs.Prelude.{Bool, true, false, cond, ◌&&◌, List, [], ◌∷◌, ◌++◌, ℕ, ◌+◌, ◌*◌, ◌-◌, ◌%◌, ltb, leb, eqb, ℤ, length, get_or, replicate}
use Rattle.model.specs.Panel.{Layout, Setup, Panel, setup_good, panel_of}
use Rattle.model.specs.Table.{Slot, Table, live, id_of, ids_differ, unused_slot, good_table}
use Rattle.model.specs.Events.{Event}
use Rattle.model.specs.Records.{bytes_of, events_of, lay}
use Rattle.model.specs.Frame.{rows_of, sized, values_good, new_table, new_counter}
use Rattle.model.specs.Sending.{events_sent, current_after, changed_mask}
use Rattle.model.specs.Reader.{Mode, following, dropped, stale, Reader, settled_at, Counts, nothing, plus, Run, run as run_over}
use Rattle.model.specs.States.{Writer, WriterState, writer_good, ReaderState, reader_good, fresh_writer, fresh_reader, zero_writer, zero_reader}

-- ---- the verdicts

-- A call is accepted, or refused by name.
pub data Verdict : Type 0 where
  accepted setup state frame value no_room ragged not_stale image too_many unfinished command : Verdict

-- Document 01's number of a refusal, 9 and 10 of document 02's K12, and 11 of its K13; 0 for none.
abbrev pub verdict_number : Verdict → ℕ
verdict_number accepted = 0
verdict_number setup = 1
verdict_number state = 2
verdict_number frame = 3
verdict_number value = 4
verdict_number no_room = 5
verdict_number ragged = 6
verdict_number not_stale = 7
verdict_number image = 8
verdict_number too_many = 9
verdict_number unfinished = 10
verdict_number command = 11

-- Refused by this name unless the test passes; then the later tests decide.
abbrev pub check : Bool → Verdict → Verdict → Verdict
check true why more = more
check false why more = why

-- Not refused.
abbrev pub is_accepted : Verdict → Bool
is_accepted v = eqb (verdict_number v) 0

-- ---- fresh states: refusal 1

-- A fresh state is refused unless the setup's numbers are in their ranges.
abbrev pub fresh_verdict : Layout → Setup → Verdict
fresh_verdict l u = check (setup_good l u) setup accepted

-- The answer of a fresh writer.
pub record FreshWriter : Type 0 where
  pub verdict : Verdict
  pub state : WriterState

-- A fresh writer, or zeros.
unfoldable pub fresh_writer_call : Layout → Setup → FreshWriter
fresh_writer_call l u = record {
  verdict = fresh_verdict l u;
  state = cond (is_accepted (fresh_verdict l u)) (record { setup = u; writer = fresh_writer (panel_of l u) }) (zero_writer l);
}

-- The answer of a fresh reader.
pub record FreshReader : Type 0 where
  pub verdict : Verdict
  pub state : ReaderState

-- A fresh reader, or zeros and mode following.
unfoldable pub fresh_reader_call : Layout → Setup → FreshReader
fresh_reader_call l u = record {
  verdict = fresh_verdict l u;
  state = cond (is_accepted (fresh_verdict l u)) (record { setup = u; reader = fresh_reader (panel_of l u) }) (zero_reader l);
}

-- ---- writing a frame: refusals 2, 3, 4, 5

-- The writer after a frame.
abbrev pub writer_after : Panel → Writer → List ℤ → Writer
writer_after p w f =
    let new = new_table w.counter (rows_of p f) w.table in
    record { table = new; current = current_after w.current w.table new; counter = new_counter w.counter (rows_of p f) w.table }

-- The events of a frame.
abbrev pub frame_events : Panel → Writer → List ℤ → List Event
frame_events p w f = events_sent p w.current w.table (new_table w.counter (rows_of p f) w.table)

-- The bytes that a frame needs.
abbrev pub need_of : Panel → Writer → List ℤ → ℕ
need_of p w f = 8 * length (frame_events p w f)

-- The most events that a frame can have: all k numbers of all n slots, all slots but the current opened, and the report.
abbrev pub most_events : Layout → ℕ
most_events l = 1 + l.records * (1 + length l.axes) + (l.records - 1)

-- The position is not past the buffer's end, and as many bytes follow it as are needed.
abbrev pub room_for : ℕ → ℕ → ℕ → Bool
room_for need at size = leb at size && leb need (size - at)

-- In rising number: the state, the frame's length, its values, the room in a buffer of so many bytes.
unfoldable pub write_verdict : Layout → WriterState → List ℤ → ℕ → ℕ → Verdict
write_verdict l s f at size =
    let p = panel_of l s.setup in
    check (writer_good l s) state (check (sized p f) frame (check (values_good p f) value (check (room_for (need_of p s.writer f) at size) no_room accepted)))

-- The answer of a write: the verdict, the state, the event count, the changed slots and the need.
pub record Written : Type 0 where
  pub verdict : Verdict
  pub state : WriterState
  pub count : ℕ
  pub changed : ℕ
  pub need : ℕ

-- A refused frame: the state as it came in, zeros, and the need only with NO ROOM.
abbrev pub not_written : Verdict → WriterState → ℕ → Written
not_written v s need = record { verdict = v; state = s; count = 0; changed = 0; need = cond (eqb (verdict_number v) 5) need 0 }

-- An accepted frame: the new state, the event count and the changed slots.
abbrev pub taken : Panel → WriterState → List ℤ → Written
taken p s f = record {
  verdict = accepted;
  state = record { setup = s.setup; writer = writer_after p s.writer f };
  count = length (frame_events p s.writer f);
  changed = changed_mask s.writer.table (new_table s.writer.counter (rows_of p f) s.writer.table);
  need = 0;
}

-- What `write` answers.
unfoldable pub write_call : Layout → WriterState → List ℤ → ℕ → ℕ → Written
write_call l s f at size =
    let v = write_verdict l s f at size in
    let p = panel_of l s.setup in
    cond (is_accepted v) (taken p s f) (not_written v s (need_of p s.writer f))

-- What is in the buffer afterwards: a refusal touches no byte.
unfoldable pub write_buffer : Layout → WriterState → List ℤ → ℕ → List ℕ → List ℕ
write_buffer l s f at buf = cond (is_accepted (write_verdict l s f at (length buf))) (lay at (bytes_of (frame_events (panel_of l s.setup) s.writer f)) buf) buf

-- ---- a run over records: refusals 2, 6

-- In rising number: the state, then whole records.
unfoldable pub run_verdict : Layout → ReaderState → List ℕ → Verdict
run_verdict l s bs = check (reader_good l s) state (check (eqb (length bs % 8) 0) ragged accepted)

-- The answer of a run: the verdict, the state and what the run tells.
pub record Ran : Type 0 where
  pub verdict : Verdict
  pub state : ReaderState
  pub counts : Counts

-- A refused run: the state as it came in, and zeros.
abbrev pub not_run : Verdict → ReaderState → Ran
not_run v s = record { verdict = v; state = s; counts = nothing }

-- The end of a run as an answer.
abbrev pub ran : Setup → Run → Ran
ran u e = record { verdict = accepted; state = record { setup = u; reader = e.reader }; counts = e.counts }

-- What a run over bytes answers.
unfoldable pub run_call : Layout → ReaderState → List ℕ → Ran
run_call l s bs =
    let v = run_verdict l s bs in
    cond (is_accepted v) (ran s.setup (run_over (panel_of l s.setup) s.reader (events_of bs))) (not_run v s)

-- Two runs, one after the other, as one answer: the later verdict and state, and the counts added up.
abbrev pub joined : Ran → Ran → Ran
joined a b = record { verdict = b.verdict; state = b.state; counts = plus a.counts b.counts }

-- What one event by itself answers: refusal 2.
unfoldable pub step_call : Layout → ReaderState → Event → Ran
step_call l s e =
    let v = check (reader_good l s) state accepted in
    cond (is_accepted v) (ran s.setup (run_over (panel_of l s.setup) s.reader (e ∷ []))) (not_run v s)

-- ---- a load: refusals 2, 7, 8

-- Only a stale reader takes a load.
abbrev pub is_stale : Mode → Bool
is_stale following = false
is_stale dropped = false
is_stale stale = true

-- The image's rows and then unused records.
abbrev pub image_table : Panel → List ℤ → Table
image_table p l = rows_of p l ++ replicate (p.records - p.slots) (unused_slot p.fields)

-- The image's length, its values (those of unused slots too), its live ids and the current slot.
abbrev pub image_good : Panel → List ℤ → ℕ → Bool
image_good p l c = sized p l && good_table p (image_table p l) && ids_differ (image_table p l) && ltb c p.slots

-- In rising number: the state, the mode, the image.
unfoldable pub load_verdict : Layout → ReaderState → List ℤ → ℕ → Verdict
load_verdict l s m c = check (reader_good l s) state (check (is_stale s.reader.mode) not_stale (check (image_good (panel_of l s.setup) m c) image accepted))

-- The answer of a load: the verdict and the state.
pub record Loaded : Type 0 where
  pub verdict : Verdict
  pub state : ReaderState

-- What a load answers: both tables, the current slot and mode following; or the state as it came in.
unfoldable pub load_call : Layout → ReaderState → List ℤ → ℕ → Loaded
load_call l s m c =
    let v = load_verdict l s m c in
    record {
      verdict = v;
      state = cond (is_accepted v) (record { setup = s.setup; reader = settled_at (image_table (panel_of l s.setup) m) c following }) s;
    }

-- ---- asked for a slot: refusal 2, then the slot number, then the mode

-- The answer for a slot: a contact with its shown numbers, empty, unknown, no such slot, or refused.
pub data Asked : Type 0 where
  contact : Slot → Asked
  empty unknown no_such_slot : Asked
  refused : Verdict → Asked

-- Document 01's number of a refused question; 0 for any other answer.
abbrev pub asked_number : Asked → ℕ
asked_number (contact s) = 0
asked_number empty = 0
asked_number unknown = 0
asked_number no_such_slot = 0
asked_number (refused v) = verdict_number v

-- The numbers that come with an answer: a contact's.
abbrev pub asked_values : Asked → List ℤ
asked_values (contact s) = s
asked_values empty = []
asked_values unknown = []
asked_values no_such_slot = []
asked_values (refused v) = []

-- A slot by the mode: its shown numbers if its id is live, empty if not, and unknown unless following.
abbrev pub asked_in : Mode → Slot → Asked
asked_in following s = cond (live (id_of s)) (contact s) empty
asked_in dropped s = unknown
asked_in stale s = unknown

-- A slot number of n upward is none of the panel's.
abbrev pub asked : Panel → Reader → ℕ → Asked
asked p r k = cond (ltb k p.slots) (asked_in r.mode (get_or r.shown k [])) no_such_slot

-- What the reader answers of a slot.
unfoldable pub ask_call : Layout → ReaderState → ℕ → Asked
ask_call l s k = cond (reader_good l s) (asked (panel_of l s.setup) s.reader k) (refused state)
