-- What K6 asks of the writer's answers: what its state told an old display, the option off, the contact events of a frame alone, and in which call each
-- contact began. Assumes nothing.
use Rattle.std.specs.Prelude.{◌≡◌, false, cond, List, [], ◌∷◌, ℕ, suc, ◌≤◌, ◌<◌, T, ℤ, length, get_or, replicate}
use Rattle.model.specs.Panel.{records, base}
use Rattle.model.specs.Table.{id_of, ids, live}
use Rattle.model.specs.Events.{Event}
use Rattle.model.specs.Records.{bytes_of}
use Rattle.model.specs.Frame.{rows_of, axes_of, sized, new_table}
use Rattle.model.specs.Sending.{event_of, send_report, changed_in}
use Rattle.model.specs.Calls.{is_accepted, frame_events, room_for}
use Rattle.model.specs.Refusals.{Row, unless}
use Rattle.model.specs.Presses.{all_press}
use Rattle.model.specs.Ranks.{fates, live_count}
use Rattle.model.specs.Pointer.{display, oldest_slot, contact_events, skipped_in}
use Rattle.model.specs.Pointing.{pointer_good, pointer_need}
use Rattle.model.specs.PointerShift.{born_after}
use Rattle.panel.specs.Seen.{blank, table_of, panel_seen}
use Rattle.common.specs.declared.Counts.{Counts}
use Rattle.common.specs.Seen.{verdict_of, mode_of, counts_from}
use Rattle.pointer.specs.Seen.{pointer_of}
use Rattle.writer.specs.declared.WriterState.{WriterState}
use Rattle.writer.specs.Seen as W
use Rattle.reader.specs.declared.ReaderState.{ReaderState}
use Rattle.link.specs.Shift.{WriteCall}

-- ---- what a display was told

-- The display's eight numbers that a state holds as told last: BTN_TOUCH, the five tools, X and Y.
abbrev pub told_by : WriterState → List ℤ
told_by s = display (pointer_of s.told)

-- How many of the eight differ between two states.
abbrev pub retold : WriterState → WriterState → ℕ
retold s t = changed_in (told_by s) (told_by t)

-- How many contacts are live.
abbrev pub contacts : WriterState → ℕ
contacts s = live_count (ids (table_of s.table))

-- Slot k holds a live contact.
abbrev pub LiveIn : WriterState → ℕ → Type 0
LiveIn s k = T (live (id_of (get_or (table_of s.table) k [])))

-- The slot that X and Y follow: the first live one of rank 0.
abbrev pub followed_slot : WriterState → ℕ
followed_slot s = oldest_slot (ids (table_of s.table)) s.ranks

-- ---- the option off

-- What was told is all 0, and so is every rank.
pub record NothingTold (s : WriterState) : Type 0 where
  pub ranks : s.ranks ≡ replicate records 0
  pub told : s.told ≡ record { x = 0; y = 0; tool = 0; touch = 0 }

-- The same setup, table, current slot and counter with the option off.
abbrev pub option_off : WriterState → WriterState
option_off s = record {
  table = s.table;
  ranks = replicate records 0;
  setup = s.setup;
  current = s.current;
  counter = s.counter;
  told = record { x = 0; y = 0; tool = 0; touch = 0 };
  pointer = false;
}

-- ---- a frame's contact events

-- Their bytes, with their report: those of the frame with the option off.
abbrev pub contact_bytes : WriterState → List ℤ → List ℕ
contact_bytes s f = bytes_of (frame_events (panel_seen s.setup) (W.plain s).writer f)

-- They without their report.
abbrev pub body_events : WriterState → List ℤ → List Event
body_events s f =
    let p = panel_seen s.setup in
    let t = table_of s.table in
    contact_events p s.current.0 t (new_table s.counter (rows_of p f) t)

-- The bytes of a SYN_REPORT.
abbrev pub report_bytes : List ℕ
report_bytes = bytes_of (event_of [] send_report ∷ [])

-- What a reader in this state counts of events that it skips: by their types and codes if it follows, else as ignored.
abbrev pub skipping : ReaderState → List Event → Counts
skipping t es = counts_from (skipped_in (panel_seen t.setup) (mode_of t.mode) es)

-- ---- refusals

-- Document 01's refusals of a frame, with VALUE by its ranges and the pressure of each contact (K8), and NO ROOM by all events.
abbrev pub press_rows : WriterState → List ℤ → ℕ → ℕ → List Row
press_rows s f at size =
    let p = panel_seen s.setup in
    unless 2 (pointer_good base (W.seen s))
    ∷ unless 3 (sized p f)
    ∷ unless 4 (all_press (axes_of p.fields) (rows_of p f))
    ∷ unless 5 (room_for (pointer_need base (W.seen s) f) at size)
    ∷ []

-- ---- in which call each contact began: no state holds it

-- After calls of which the first is call n, where bs says it of each record before them: a refused call begins nothing.
abbrev pub born_by : WriterState → List WriteCall → ℕ → List ℕ → List ℕ
born_by s [] n bs = bs
born_by s (c ∷ cs) n bs =
    let fs = fates (rows_of (panel_seen s.setup) c.frame) (table_of s.table) in
    born_by c.answer.state cs (suc n) (cond (is_accepted (verdict_of c.answer.verdict)) (born_after n fs bs) bs)

-- X and Y of the state s are those of its slot k, whose contact is live, and by bs began no later than any other, and earlier than any in a lower slot.
pub record Follows (s : WriterState) (bs : List ℕ) (k : ℕ) : Type 0 where
  pub live : LiveIn s k
  pub earliest : (j : ℕ) → j < length s.table → LiveIn s j → get_or bs k 0 ≤ get_or bs j 0
  pub lower : (j : ℕ) → j < length s.table → LiveIn s j → j < k → get_or bs k 0 < get_or bs j 0
  pub x : s.told.x ≡ (get_or s.table k blank).x
  pub y : s.told.y ≡ (get_or s.table k blank).y
