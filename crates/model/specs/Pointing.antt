-- A writer with pointer emulation (K6) as an option: what its state holds more, when that is well formed, and its calls. Assumes nothing.
-- With the option off the calls are those of Calls: Off of proofs/ says so.
use Rattle.std.specs.Prelude.{Bool, true, false, cond, ◌&&◌, List, [], ◌∷◌, ℕ, zero, suc, ◌*◌, eqb, ℤ, length, replicate}
use Rattle.model.specs.Panel.{Layout, Setup, Field, Panel, panel_of}
use Rattle.model.specs.Table.{Table, ids, fits}
use Rattle.model.specs.Events.{Event}
use Rattle.model.specs.Records.{bytes_of, lay}
use Rattle.model.specs.Frame.{rows_of, sized, values_good, new_table}
use Rattle.model.specs.Sending.{changed_mask}
use Rattle.model.specs.States.{Writer, WriterState, writer_good, fresh_writer, zero_writer}
use Rattle.model.specs.Calls.{Verdict, accepted, state, frame, value, no_room, verdict_number, check, is_accepted, fresh_verdict, FreshWriter, writer_after, room_for, Written}
use Rattle.model.specs.Refusals as Refusal
use Rattle.model.specs.Ranks.{good_ranks, fates, ranks_after}
use Rattle.model.specs.Pointer.{Pointer, unmoved, pointed, eq_pointer, whole_events}

-- ---- what a state holds more

-- A rank for each record, and the numbers that were told last.
pub record Pointing : Type 0 where
  pub ranks : List ℕ
  pub last : Pointer

-- Fresh, and always with the option off: all 0, by the number of records.
abbrev pub zero_pointing : ℕ → Pointing
zero_pointing n = record { ranks = replicate n 0; last = unmoved }

-- X and Y are in the ranges of the fields 1 and 2; a slot with fewer fields has no such ranges.
abbrev pub in_range : List Field → ℤ → ℤ → Bool
in_range [] x y = false
in_range (i ∷ []) x y = false
in_range (i ∷ fx ∷ []) x y = false
in_range (i ∷ fx ∷ fy ∷ fs) x y = fits fx x && fits fy y

-- n zeros.
abbrev pub zeros : ℕ → List ℕ → Bool
zeros zero [] = true
zeros zero (r ∷ rs) = false
zeros (suc n) [] = false
zeros (suc n) (r ∷ rs) = eqb r 0 && zeros n rs

-- Well formed beside a table. On: good ranks, the numbers that they and the table give, and X and Y in range also if none is live. Off: all 0.
abbrev pub good_pointing : Bool → Panel → Table → Pointing → Bool
good_pointing true p t q = good_ranks (ids t) q.ranks && eq_pointer q.last (pointed t q.ranks q.last) && in_range p.fields q.last.x q.last.y
good_pointing false p t q = zeros p.records q.ranks && eq_pointer q.last unmoved

-- After a frame. Off: nothing changes.
abbrev pub pointing_after : Bool → Panel → Writer → Pointing → List ℤ → Pointing
pointing_after true p w q f =
    let rs = ranks_after (fates (rows_of p f) w.table) q.ranks in
    record { ranks = rs; last = pointed (new_table w.counter (rows_of p f) w.table) rs q.last }
pointing_after false p w q f = q

-- ---- the whole state

-- The option, the writer with its setup, and what it holds more.
pub record PointerState : Type 0 where
  pub on : Bool
  pub base : WriterState
  pub pointing : Pointing

-- A well-formed state, its setup's ranges included.
unfoldable pub pointer_good : Layout → PointerState → Bool
pointer_good l s = writer_good l s.base && good_pointing s.on (panel_of l s.base.setup) s.base.writer.table s.pointing

-- A writer's state with the option off.
abbrev pub off : Layout → WriterState → PointerState
off l s = record { on = false; base = s; pointing = zero_pointing l.records }

-- ---- fresh: refusal 1

-- A fresh state of a good setup.
abbrev pub fresh_pointer : Layout → Bool → Setup → PointerState
fresh_pointer l on u = record { on = on; base = record { setup = u; writer = fresh_writer (panel_of l u) }; pointing = zero_pointing l.records }

-- The place of a state that is not made: zeros, and the option off.
abbrev pub zero_pointer : Layout → PointerState
zero_pointer l = off l (zero_writer l)

-- The answer of a fresh writer.
pub record FreshPointer : Type 0 where
  pub verdict : Verdict
  pub state : PointerState

-- A fresh writer, or zeros.
unfoldable pub fresh_pointer_call : Layout → Bool → Setup → FreshPointer
fresh_pointer_call l on u = record { verdict = fresh_verdict l u; state = cond (is_accepted (fresh_verdict l u)) (fresh_pointer l on u) (zero_pointer l) }

-- ---- writing a frame: refusals 2, 3, 4, 5

-- All events of a frame.
abbrev pub pointer_events : Layout → PointerState → List ℤ → List Event
pointer_events l s f =
    let p = panel_of l s.base.setup in
    let w = s.base.writer in
    whole_events p w.current w.table (new_table w.counter (rows_of p f) w.table) s.pointing.last (pointing_after s.on p w s.pointing f).last

-- The bytes that a frame needs, the emulated events' too.
abbrev pub pointer_need : Layout → PointerState → List ℤ → ℕ
pointer_need l s f = 8 * length (pointer_events l s f)

-- The state after an accepted frame.
abbrev pub pointer_after : Layout → PointerState → List ℤ → PointerState
pointer_after l s f =
    let p = panel_of l s.base.setup in
    record {
      on = s.on;
      base = record { setup = s.base.setup; writer = writer_after p s.base.writer f };
      pointing = pointing_after s.on p s.base.writer s.pointing f;
    }

-- In rising number: the state, the frame's length, its values, the room in a buffer of so many bytes.
unfoldable pub pointer_verdict : Layout → PointerState → List ℤ → ℕ → ℕ → Verdict
pointer_verdict l s f at size =
    let p = panel_of l s.base.setup in
    check (pointer_good l s) state (check (sized p f) frame (check (values_good p f) value (check (room_for (pointer_need l s f) at size) no_room accepted)))

-- The answer of a write: the verdict, the state, the count of all events, the changed slots and the need.
pub record PointerWritten : Type 0 where
  pub verdict : Verdict
  pub state : PointerState
  pub count : ℕ
  pub changed : ℕ
  pub need : ℕ

-- A refused frame: the state as it came in, zeros, and the need only with NO ROOM.
abbrev pub pointer_refused : Verdict → PointerState → ℕ → PointerWritten
pointer_refused v s need = record { verdict = v; state = s; count = 0; changed = 0; need = cond (eqb (verdict_number v) 5) need 0 }

-- An accepted frame: the new state, the event count and the changed slots.
abbrev pub pointer_taken : Layout → PointerState → List ℤ → PointerWritten
pointer_taken l s f = record {
  verdict = accepted;
  state = pointer_after l s f;
  count = length (pointer_events l s f);
  changed = changed_mask s.base.writer.table (pointer_after l s f).base.writer.table;
  need = 0;
}

-- What `write` answers.
unfoldable pub pointer_call : Layout → PointerState → List ℤ → ℕ → ℕ → PointerWritten
pointer_call l s f at size =
    let v = pointer_verdict l s f at size in
    cond (is_accepted v) (pointer_taken l s f) (pointer_refused v s (pointer_need l s f))

-- What is in the buffer afterwards: a refusal touches no byte.
unfoldable pub pointer_buffer : Layout → PointerState → List ℤ → ℕ → List ℕ → List ℕ
pointer_buffer l s f at buf = cond (is_accepted (pointer_verdict l s f at (length buf))) (lay at (bytes_of (pointer_events l s f)) buf) buf

-- ---- beside the calls without the option

-- The answers of Calls, each state with the option off.
abbrev pub off_fresh : Layout → FreshWriter → FreshPointer
off_fresh l a = record { verdict = a.verdict; state = off l a.state }

abbrev pub off_written : Layout → Written → PointerWritten
off_written l a = record { verdict = a.verdict; state = off l a.state; count = a.count; changed = a.changed; need = a.need }

-- Document 01's table "When we say no" of a frame: STATE, FRAME, VALUE, NO ROOM.
abbrev pub pointer_rows : Layout → PointerState → List ℤ → ℕ → ℕ → List Refusal.Row
pointer_rows l s f at size =
    let p = panel_of l s.base.setup in
    Refusal.unless 2 (pointer_good l s)
    ∷ Refusal.unless 3 (sized p f)
    ∷ Refusal.unless 4 (values_good p f)
    ∷ Refusal.unless 5 (room_for (pointer_need l s f) at size)
    ∷ []
