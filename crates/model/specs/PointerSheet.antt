-- Frames with pointer emulation (K6) as a sheet, worked out by hand from document 02's words: runs of frames from a fresh writer with all that each
-- gives, and frames that are refused. PointerSheet of proofs/ shows every row. Assumes nothing.
use Rattle.std.specs.Prelude.{Bool, true, false, List, [], ◌∷◌, ◌++◌, ℕ, ◌*◌, ◌-◌, ℤ, pos, negsuc, length, replicate, take}
use Rattle.model.specs.Panel.{base, records}
use Rattle.model.specs.Events.{Event}
use Rattle.model.specs.Records.{bytes_of}
use Rattle.model.specs.Reader.{Skipped, none, event, Counts}
use Rattle.model.specs.States.{WriterState}
use Rattle.model.specs.Calls.{Verdict, accepted, state, value, no_room, run_call}
use Rattle.model.specs.Bench.{SLOT, ID, X, Y, PRESSURE, REPORT, kind, panel, pupil, writer, after1, after2}
use Rattle.model.specs.Pointer.{Pointer, unmoved, button, axis}
use Rattle.model.specs.Pointing.{PointerState, fresh_pointer_call, PointerWritten, pointer_call, pointer_buffer}

-- ---- a run of frames, and what each gives

-- A frame and what comes of it: its events, the changed slots, the ranks of the panel's slots, the numbers told last, and what the writer's own
-- reader counts of it.
pub record Turn : Type 0 where
  pub frame : List ℤ
  pub events : List Event
  pub changed : ℕ
  pub ranks : List ℕ
  pub last : Pointer
  pub counts : Counts

-- The whole answer of a call in a buffer of just the bytes that come out, where of the state the ranks and the numbers told last are looked at.
pub record Outcome : Type 0 where
  pub verdict : Verdict
  pub count : ℕ
  pub changed : ℕ
  pub need : ℕ
  pub ranks : List ℕ
  pub last : Pointer
  pub bytes : List ℕ
  pub counts : Counts

-- What a row says.
abbrev pub said : Turn → Outcome
said t = record {
  verdict = accepted;
  count = length t.events;
  changed = t.changed;
  need = 0;
  ranks = t.ranks;
  last = t.last;
  bytes = bytes_of t.events;
  counts = t.counts;
}

-- What the definitions give for rows, each on the state that the one before left: so each state but the last is accepted as well formed.
abbrev pub turned : PointerState → List Turn → List Outcome
turned s [] = []
turned s (t ∷ ts) =
    let size = 8 * length t.events in
    let a = pointer_call base s t.frame 0 size in
    let bs = pointer_buffer base s t.frame 0 (replicate size 0) in
    record {
      verdict = a.verdict;
      count = a.count;
      changed = a.changed;
      need = a.need;
      ranks = take s.base.setup.slots a.state.pointing.ranks;
      last = a.state.pointing.last;
      bytes = bs;
      counts = (run_call base (pupil s.base) bs).counts;
    }
    ∷ turned a.state ts

-- ---- names for what the sheet writes

abbrev pub TOUCH : ℕ → Event
TOUCH v = button 0x14a v

abbrev pub ONE : ℕ → Event
ONE v = button 0x145 v

abbrev pub TWO : ℕ → Event
TWO v = button 0x14d v

abbrev pub THREE : ℕ → Event
THREE v = button 0x14e v

abbrev pub FOUR : ℕ → Event
FOUR v = button 0x14f v

abbrev pub FIVE : ℕ → Event
FIVE v = button 0x148 v

abbrev pub POINTER_X : ℕ → Event
POINTER_X v = axis 0 (pos v)

abbrev pub POINTER_Y : ℕ → Event
POINTER_Y v = axis 1 (pos v)

abbrev pub told : ℕ → ℕ → ℕ → ℕ → Pointer
told t c x y = record { touch = t; tool = c; x = pos x; y = pos y }

-- So many tables shown, so many buttons and axes skipped, and the first of these.
abbrev pub skips : ℕ → ℕ → ℕ → Skipped → Counts
skips shown types codes first = record { shown = shown; types = types; codes = codes; bad = 0; ignored = 0; first = first }

abbrev pub turn : List ℤ → List Event → ℕ → List ℕ → Pointer → Counts → Turn
turn f es m rs q a = record { frame = f; events = es; changed = m; ranks = rs; last = q; counts = a }

-- The fresh writer of n slots, with the option on or off.
abbrev pub start : Bool → ℕ → PointerState
start on n = (fresh_pointer_call base on (panel n)).state

-- ---- P1 to P7, and all lifted

abbrev pub sheet : List Turn
sheet =
    turn (kind 1 100 200 30 ++ kind 0 0 0 0)
    (TOUCH 1 ∷ ID (pos 0) ∷ X (pos 100) ∷ Y (pos 200) ∷ PRESSURE (pos 30) ∷ ONE 1 ∷ POINTER_X 100 ∷ POINTER_Y 200 ∷ REPORT ∷ [])
    1 (0 ∷ 0 ∷ []) (told 1 0x145 100 200) (skips 1 2 2 (event 1 0x14a))
    ∷ turn (kind 1 100 200 30 ++ kind 1 300 400 30)
    (SLOT (pos 1) ∷ ID (pos 1) ∷ X (pos 300) ∷ Y (pos 400) ∷ PRESSURE (pos 30) ∷ ONE 0 ∷ TWO 1 ∷ REPORT ∷ [])
    2 (0 ∷ 1 ∷ []) (told 1 0x14d 100 200) (skips 1 2 0 (event 1 0x145))
    ∷ turn (kind 1 101 200 30 ++ kind 1 300 401 30)
    (Y (pos 401) ∷ SLOT (pos 0) ∷ X (pos 101) ∷ POINTER_X 101 ∷ REPORT ∷ [])
    3 (0 ∷ 1 ∷ []) (told 1 0x14d 101 200) (skips 1 0 1 (event 3 0))
    ∷ turn (kind 0 0 0 0 ++ kind 1 300 401 30)
    (ID (negsuc 0) ∷ TWO 0 ∷ ONE 1 ∷ POINTER_X 300 ∷ POINTER_Y 401 ∷ REPORT ∷ [])
    1 (0 ∷ 0 ∷ []) (told 1 0x145 300 401) (skips 1 2 2 (event 1 0x14d))
    ∷ turn (kind 1 101 200 30 ++ kind 1 300 401 30)
    (ID (pos 2) ∷ ONE 0 ∷ TWO 1 ∷ REPORT ∷ [])
    1 (1 ∷ 0 ∷ []) (told 1 0x14d 300 401) (skips 1 2 0 (event 1 0x145))
    ∷ turn (kind 2 101 200 30 ++ kind 1 300 401 30) (ID (pos 3) ∷ REPORT ∷ []) 1 (1 ∷ 0 ∷ []) (told 1 0x14d 300 401) (skips 1 0 0 none)
    ∷ turn (kind 1 101 200 30 ++ kind 1 300 401 30) [] 0 (1 ∷ 0 ∷ []) (told 1 0x14d 300 401) (skips 0 0 0 none)
    ∷ turn (kind 0 0 0 0 ++ kind 0 0 0 0)
    (TOUCH 0 ∷ ID (negsuc 0) ∷ SLOT (pos 1) ∷ ID (negsuc 0) ∷ TWO 0 ∷ REPORT ∷ [])
    3 (0 ∷ 0 ∷ []) (told 0 0 300 401) (skips 1 2 0 (event 1 0x14a))
    ∷ []

-- ---- ties, a replaced contact, a closed gap, and numbers that stay

-- Two begin at once, the lower slot is followed, and a first touch at 0, 0 sends neither X nor Y. Then slot 0's contact is replaced while slot 2's
-- begins: these tie, and slot 1 is followed. It ends, and those two close the gap; another begins and is left alone. All end, X and Y keep still,
-- and one begins where they are.
abbrev pub ties : List Turn
ties =
    turn (kind 1 0 0 9 ++ kind 1 5 6 9 ++ kind 0 0 0 0)
    (TOUCH 1 ∷ ID (pos 0) ∷ PRESSURE (pos 9) ∷ SLOT (pos 1) ∷ ID (pos 1) ∷ X (pos 5) ∷ Y (pos 6) ∷ PRESSURE (pos 9) ∷ TWO 1 ∷ REPORT ∷ [])
    3 (0 ∷ 0 ∷ 0 ∷ []) (told 1 0x14d 0 0) (skips 1 2 0 (event 1 0x14a))
    ∷ turn (kind 2 0 0 9 ++ kind 1 5 6 9 ++ kind 1 7 8 9)
    (SLOT (pos 0) ∷ ID (pos 2) ∷ SLOT (pos 2) ∷ ID (pos 3) ∷ X (pos 7) ∷ Y (pos 8) ∷ PRESSURE (pos 9) ∷ TWO 0 ∷ THREE 1 ∷ POINTER_X 5 ∷ POINTER_Y 6 ∷ REPORT ∷ [])
    5 (1 ∷ 0 ∷ 1 ∷ []) (told 1 0x14e 5 6) (skips 1 2 2 (event 1 0x14d))
    ∷ turn (kind 1 0 0 9 ++ kind 0 0 0 0 ++ kind 1 7 8 9)
    (SLOT (pos 1) ∷ ID (negsuc 0) ∷ THREE 0 ∷ TWO 1 ∷ POINTER_X 0 ∷ POINTER_Y 0 ∷ REPORT ∷ [])
    2 (0 ∷ 0 ∷ 0 ∷ []) (told 1 0x14d 0 0) (skips 1 2 2 (event 1 0x14e))
    ∷ turn (kind 1 0 0 9 ++ kind 1 5 6 9 ++ kind 1 7 8 9)
    (ID (pos 4) ∷ TWO 0 ∷ THREE 1 ∷ REPORT ∷ [])
    2 (0 ∷ 1 ∷ 0 ∷ []) (told 1 0x14e 0 0) (skips 1 2 0 (event 1 0x14d))
    ∷ turn (kind 0 0 0 0 ++ kind 1 5 6 9 ++ kind 0 0 0 0)
    (SLOT (pos 0) ∷ ID (negsuc 0) ∷ SLOT (pos 2) ∷ ID (negsuc 0) ∷ THREE 0 ∷ ONE 1 ∷ POINTER_X 5 ∷ POINTER_Y 6 ∷ REPORT ∷ [])
    5 (0 ∷ 0 ∷ 0 ∷ []) (told 1 0x145 5 6) (skips 1 2 2 (event 1 0x14e))
    ∷ turn (kind 0 0 0 0 ++ kind 0 0 0 0 ++ kind 0 0 0 0)
    (TOUCH 0 ∷ SLOT (pos 1) ∷ ID (negsuc 0) ∷ ONE 0 ∷ REPORT ∷ [])
    2 (0 ∷ 0 ∷ 0 ∷ []) (told 0 0 5 6) (skips 1 2 0 (event 1 0x14a))
    ∷ turn (kind 1 5 6 9 ++ kind 0 0 0 0 ++ kind 0 0 0 0)
    (TOUCH 1 ∷ SLOT (pos 0) ∷ ID (pos 5) ∷ X (pos 5) ∷ Y (pos 6) ∷ ONE 1 ∷ REPORT ∷ [])
    1 (0 ∷ 0 ∷ 0 ∷ []) (told 1 0x145 5 6) (skips 1 2 0 (event 1 0x14a))
    ∷ []

-- ---- six fingers

-- A finger of the next run, by its slot: x is one more.
abbrev pub finger : ℕ → List ℤ
finger x = kind 1 x 0 9

abbrev pub lifted : List ℤ
lifted = kind 0 0 0 0

-- Four begin at once; a fifth and a sixth begin, and the sixth sends no tool; slot 0's lifts, and slot 1 is followed; the older ones lift.
abbrev pub fingers : List Turn
fingers =
    turn (finger 1 ++ finger 2 ++ finger 3 ++ finger 4 ++ lifted ++ lifted)
    ((TOUCH 1 ∷ ID (pos 0) ∷ X (pos 1) ∷ PRESSURE (pos 9) ∷ SLOT (pos 1) ∷ ID (pos 1) ∷ X (pos 2) ∷ PRESSURE (pos 9) ∷ SLOT (pos 2) ∷ ID (pos 2) ∷ X (pos 3) ∷ [])
    ++ (PRESSURE (pos 9) ∷ SLOT (pos 3) ∷ ID (pos 3) ∷ X (pos 4) ∷ PRESSURE (pos 9) ∷ FOUR 1 ∷ POINTER_X 1 ∷ REPORT ∷ []))
    15 (replicate 6 0) (told 1 0x14f 1 0) (skips 1 2 1 (event 1 0x14a))
    ∷ turn (finger 1 ++ finger 2 ++ finger 3 ++ finger 4 ++ finger 5 ++ lifted)
    (SLOT (pos 4) ∷ ID (pos 4) ∷ X (pos 5) ∷ PRESSURE (pos 9) ∷ FOUR 0 ∷ FIVE 1 ∷ REPORT ∷ [])
    16 (0 ∷ 0 ∷ 0 ∷ 0 ∷ 1 ∷ 0 ∷ []) (told 1 0x148 1 0) (skips 1 2 0 (event 1 0x14f))
    ∷ turn (finger 1 ++ finger 2 ++ finger 3 ++ finger 4 ++ finger 5 ++ finger 6)
    (SLOT (pos 5) ∷ ID (pos 5) ∷ X (pos 6) ∷ PRESSURE (pos 9) ∷ REPORT ∷ [])
    32 (0 ∷ 0 ∷ 0 ∷ 0 ∷ 1 ∷ 2 ∷ []) (told 1 0x148 1 0) (skips 1 0 0 none)
    ∷ turn (lifted ++ finger 2 ++ finger 3 ++ finger 4 ++ finger 5 ++ finger 6)
    (SLOT (pos 0) ∷ ID (negsuc 0) ∷ POINTER_X 2 ∷ REPORT ∷ [])
    1 (0 ∷ 0 ∷ 0 ∷ 0 ∷ 1 ∷ 2 ∷ []) (told 1 0x148 2 0) (skips 1 0 1 (event 3 0))
    ∷ turn (lifted ++ lifted ++ lifted ++ lifted ++ finger 5 ++ finger 6)
    (SLOT (pos 1) ∷ ID (negsuc 0) ∷ SLOT (pos 2) ∷ ID (negsuc 0) ∷ SLOT (pos 3) ∷ ID (negsuc 0) ∷ FIVE 0 ∷ TWO 1 ∷ POINTER_X 5 ∷ REPORT ∷ [])
    14 (0 ∷ 0 ∷ 0 ∷ 0 ∷ 0 ∷ 1 ∷ []) (told 1 0x14d 5 0) (skips 1 2 1 (event 1 0x148))
    ∷ []

-- ---- the option off

-- P1 and P2: the events of the bench sheet, and all 0.
abbrev pub plain : List Turn
plain =
    turn (kind 1 100 200 30 ++ kind 0 0 0 0)
    (ID (pos 0) ∷ X (pos 100) ∷ Y (pos 200) ∷ PRESSURE (pos 30) ∷ REPORT ∷ [])
    1 (0 ∷ 0 ∷ []) unmoved (skips 1 0 0 none)
    ∷ turn (kind 1 100 200 30 ++ kind 1 300 400 30)
    (SLOT (pos 1) ∷ ID (pos 1) ∷ X (pos 300) ∷ Y (pos 400) ∷ PRESSURE (pos 30) ∷ REPORT ∷ [])
    2 (0 ∷ 0 ∷ []) unmoved (skips 1 0 0 none)
    ∷ []

-- ---- refused

-- A state, a frame, a buffer's size, and the refusal with its need.
pub record Refused : Type 0 where
  pub given : PointerState
  pub frame : List ℤ
  pub size : ℕ
  pub why : Verdict
  pub need : ℕ

-- What a refusal answers: the state as it came in.
abbrev pub refusal : Refused → PointerWritten
refusal r = record { verdict = r.why; state = r.given; count = 0; changed = 0; need = r.need }

-- A state with these ranks and then 0, and these numbers told last.
abbrev pub holding : Bool → WriterState → List ℕ → Pointer → PointerState
holding on w rs q = record { on = on; base = w; pointing = record { ranks = rs ++ replicate (records - length rs) 0; last = q } }

abbrev pub refuse : PointerState → List ℤ → ℕ → Verdict → ℕ → Refused
refuse s f size why need = record { given = s; frame = f; size = size; why = why; need = need }

-- A frame for these states, of two slots.
abbrev pub two : List ℤ
two = kind 1 100 200 30 ++ kind 1 300 400 30

-- With the option off: a rank, X, the touch. With it on: an unused record's rank, a gap, no rank 0, too few ranks, another tool, a missing touch, X of
-- another contact, X out of range while none is live. Then a value, and NO ROOM by a byte: 9 events, where 5 are contact events.
abbrev pub refusals : List Refused
refusals =
    refuse (holding false after2 (0 ∷ 1 ∷ []) unmoved) two 800 state 0
    ∷ refuse (holding false after2 [] (told 0 0 1 0)) two 800 state 0
    ∷ refuse (holding false after2 [] (told 1 0 0 0)) two 800 state 0
    ∷ refuse (holding true after1 (0 ∷ 1 ∷ []) (told 1 0x145 100 200)) two 800 state 0
    ∷ refuse (holding true after2 (0 ∷ 2 ∷ []) (told 1 0x14d 100 200)) two 800 state 0
    ∷ refuse (holding true after2 (1 ∷ 1 ∷ []) (told 1 0x14d 100 200)) two 800 state 0
    ∷ refuse (record { on = true; base = after2; pointing = record { ranks = 0 ∷ 1 ∷ []; last = told 1 0x14d 100 200 } }) two 800 state 0
    ∷ refuse (holding true after2 (0 ∷ 1 ∷ []) (told 1 0x145 100 200)) two 800 state 0
    ∷ refuse (holding true after2 (0 ∷ 1 ∷ []) (told 0 0x14d 100 200)) two 800 state 0
    ∷ refuse (holding true after2 (0 ∷ 1 ∷ []) (told 1 0x14d 300 200)) two 800 state 0
    ∷ refuse (holding true (writer 2 [] 0 0) [] (told 0 0 4_001 0)) two 800 state 0
    ∷ refuse (holding true after2 (0 ∷ 1 ∷ []) (told 1 0x14d 100 200)) (kind 1 100 200 0 ++ kind 0 0 0 0) 0 value 0
    ∷ refuse (start true 2) (kind 1 100 200 30 ++ kind 0 0 0 0) 71 no_room 72
    ∷ []
