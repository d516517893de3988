-- What K14 asks, of every moment of a shift: of a reader that is given all its bytes, at once, in pieces or from a recording, of one that comes late and loads the writer's table, of a crane's, and of the ids. Assumes nothing.
use Rattle.std.specs.Prelude.{◌≡◌, ◌≢◌, true, ◌||◌, List, ◌++◌, ℕ, ◌/◌, ◌≤◌, ◌<◌, ℤ, length, get_or, take, set, Result}
use Rattle.model.specs.Panel.{crane_records}
use Rattle.model.specs.Table.{ids_differ}
use Rattle.model.specs.Records.{events_of}
use Rattle.model.specs.Loss.{is_report}
use Rattle.model.specs.Shift.{how_many, first_of, image_of}
use Rattle.model.specs.PointerNarrow.{is_button, is_place}
use Rattle.model.specs.Recorder.{block_length, pieces}
use Rattle.common.specs.declared.Verdict.TheVariants.{Accepted}
use Rattle.common.specs.declared.Mode.TheVariants.{Stale}
use Rattle.common.specs.Seen.{skipped_from}
use Rattle.panel.specs.declared.Setup.{Setup}
use Rattle.panel.specs.Seen.{table_of, panel_seen}
use Rattle.writer.specs.declared.WriterState.{WriterState}
use Rattle.reader.specs.declared.ReaderState.{ReaderState}
use Rattle.reader.specs.declared.FreshAnswer.{FreshAnswer}
use Rattle.reader.specs.declared.RunAnswer.{RunAnswer}
use Rattle.reader.specs.declared.LoadAnswer.{LoadAnswer}
use Rattle.reader.specs.declared.SlotAnswer.{SlotAnswer}
use Rattle.reader.specs.declared.SlotAnswer.TheVariants.{Unknown}
use Rattle.pieces.specs.declared.LineState.{LineState}
use Rattle.pieces.specs.declared.FreshAnswer.{FreshAnswer as LineFresh}
use Rattle.recorder.specs.declared.Run.{Run}
use Rattle.recorder.specs.declared.BlockRefusal.{BlockRefusal}
use Rattle.recorder.specs.Host.{RecordingOf, Answered, heard, AllEvents}
use Rattle.crane_reader.specs.declared.FreshAnswer.{FreshAnswer as CraneFresh}
use Rattle.crane_reader.specs.declared.RunAnswer.{RunAnswer as CraneAnswer}
use Rattle.crane_panel.specs.Seen.{table_of as crane_table}
use Rattle.link.specs.Promises.{ReaderMade, Ran, Loaded, Asked, GoodReader, pupil_of}
use Rattle.link.specs.Host.{HostCall, AllAllowed, state_after_all}
use Rattle.link.specs.Shift.{WriteCall, AllWrote, writer_after, bytes_from}
use Rattle.link.specs.Pieces.{LineMade, Piece, AllTook, AllAccepted, line_after, line_bytes, counted_all}
use Rattle.link.specs.Cranes.{CraneMade, CraneRan, crane_setup, CraneFollows}

-- A reader's answer to the bytes bs tells the writer's state w: it shows the writer's table, has its current slot, follows and has nothing pending; the tables
-- that it showed are the SYN_REPORTs, the events that it skipped are K6's, the buttons for their type and X and Y for their code, and none was bad or
-- ignored.
pub record Follows (w : WriterState) (bs : List ℕ) (q : RunAnswer) : Type 0 where
  pub accepted : q.verdict ≡ Accepted
  pub state : q.state ≡ pupil_of w
  pub reports : q.counts.shown ≡ how_many is_report (events_of bs)
  pub types : q.counts.types ≡ how_many is_button (events_of bs)
  pub codes : q.counts.codes ≡ how_many is_place (events_of bs)
  pub first : q.counts.first ≡ skipped_from (first_of (λ e. is_button e || is_place e) (events_of bs))
  pub bad : q.counts.bad ≡ 0
  pub ignored : q.counts.ignored ≡ 0

-- The same of a reader that took the bytes in pieces: none was refused, no byte is left over, and its reader and the counts added up tell the writer's state.
pub record FollowsLine (w : WriterState) (s : LineState) (ps : List Piece) : Type 0 where
  pub accepted : AllAccepted ps
  pub follows : Follows w (line_bytes ps) (record { verdict = Accepted; state = (line_after s ps).reader; counts = counted_all ps })
  pub none : (line_after s ps).count ≡ 0

-- The image that a late reader loads: the numbers of the writer's slots, one slot after the other.
abbrev pub image_by : WriterState → List ℤ
image_by w = image_of (panel_seen w.setup) (table_of w.table)

-- A load's answer l joins the shift at the writer's state w: it is accepted, the reader shows the writer's table and has its current slot, and given all bytes
-- of any later calls it follows the writer after them.
pub record Joins (w : WriterState) (l : LoadAnswer) : Type 0 where
  pub accepted : l.verdict ≡ Accepted
  pub shows : l.state ≡ pupil_of w
  pub later : (cs : List WriteCall) (q : RunAnswer) → AllWrote w cs → Ran l.state (bytes_from cs) q → Follows (writer_after w cs) (bytes_from cs) q

-- A recording s, numbered from n on, of the bytes bs that lead to the writer's state w, is replayed to readers of the setup u. Whole: no block is refused, and
-- the reader follows. With any one byte altered: what is heard of the first blocks is the beginning of bs up to the block of that byte, and once that block was
-- heard every slot is answered "unknown".
pub record Replays (u : Setup) (w : WriterState) (bs : List ℕ) (n : ℕ) (s : List ℕ) : Type 0 where
  pub whole : (rs : List (Result Run BlockRefusal)) (r : FreshAnswer) (q : RunAnswer) → Answered n (pieces s) rs → ReaderMade u r
      → Ran r.state (heard (pieces s) rs) q → AllEvents rs × Follows w bs q
  pub begins : (i v k : ℕ) (rs : List (Result Run BlockRefusal)) → i < length s → v ≢ get_or s i 0 → k ≤ i / block_length
      → (let ps = take k (pieces (set s i v)) in Answered n ps rs → (rest : List ℕ) × (heard ps rs ++ rest ≡ bs))
  pub unknown : (i v k : ℕ) (rs : List (Result Run BlockRefusal)) → i < length s → v ≢ get_or s i 0 → i / block_length < k
      → (let ps = take k (pieces (set s i v)) in
      Answered n ps rs → (r : FreshAnswer) (q : RunAnswer) → ReaderMade u r → Ran r.state (heard ps rs) q
      → (slot : ℕ) (a : SlotAnswer) → slot < u.n → Asked q.state slot a → a ≡ Unknown)

-- K14 at one moment of a shift, where u is the setup, w the writer's state and bs all bytes that it wrote so far: a reader fresh from u that is given bs
-- follows, also through the line's pieces; a stale one of that setup, whatever it shows, joins by loading the writer's table and current slot; a recording of
-- bs replays; a crane's reader follows where the panel is no larger than a crane's; and no two live contacts share an id, in the writer's table, in any that a
-- reader of u shows, whatever it is given, at once or in pieces, and in a crane's.
pub record AtMoment (u : Setup) (w : WriterState) (bs : List ℕ) : Type 0 where
  pub reader : (r : FreshAnswer) (q : RunAnswer) → ReaderMade u r → Ran r.state bs q → Follows w bs q
  pub line : (r : LineFresh) (ps : List Piece) → LineMade u r → AllTook r.state ps → line_bytes ps ≡ bs → FollowsLine w r.state ps
  pub late : (t : ReaderState) (l : LoadAnswer) → GoodReader t → t.mode ≡ Stale → t.setup ≡ u → Loaded t (image_by w) w.current.0 l → Joins w l
  pub recorded : (n : ℕ) (s : List ℕ) → RecordingOf n bs s → Replays u w bs n s
  pub crane : u.n ≤ crane_records → (r : CraneFresh) (q : CraneAnswer) → CraneMade (crane_setup u) r → CraneRan r.state bs q → CraneFollows w bs q
  pub apart : ids_differ (table_of w.table) ≡ true
  pub shown : (r : FreshAnswer) (xs : List HostCall) → ReaderMade u r → AllAllowed r.state xs → ids_differ (table_of (state_after_all r.state xs).shown) ≡ true
  pub shown_in_pieces : (r : LineFresh) (ps : List Piece) → LineMade u r → AllTook r.state ps → ids_differ (table_of (line_after r.state ps).reader.shown) ≡ true
  pub shown_by_crane : u.n ≤ crane_records → (r : CraneFresh) (q : CraneAnswer) → CraneMade (crane_setup u) r → CraneRan r.state bs q
      → ids_differ (crane_table q.state.shown) ≡ true
