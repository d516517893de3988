-- The bench sheet's cases marked P and the run cases of document 02, as tables: what is given, and what the papers say comes of it. Bench of proofs/ shows every row. Assumes nothing.
use Rattle.std.specs.Prelude.{true, false, List, [], ◌∷◌, ◌++◌, ℕ, ◌-◌, ℤ, pos, negsuc, length, replicate}
use Rattle.model.specs.Panel.{Setup, base, records}
use Rattle.model.specs.Table.{Slot, Table}
use Rattle.model.specs.Events.{Event}
use Rattle.model.specs.Records.{bytes_of}
use Rattle.model.specs.Reader.{Counts, nothing, one_shown, follow}
use Rattle.model.specs.States.{WriterState, ReaderState}
use Rattle.model.specs.Pod as P
use Rattle.model.specs.Calls.{Verdict, accepted, value, fresh_writer_call, Written, write_call, write_buffer, Ran, run_call}

-- ---- a case and its outcome

-- A writer's state, a frame and a buffer that is lent whole from its start; or bytes that a fresh pod state is given.
pub data Case : Type 0 where
  frame : WriterState → List ℤ → List ℕ → Case
  pod_bytes : List ℕ → Case

-- The writer's answer, the buffer afterwards, and what a following reader of the same setup, table and current slot makes of the buffer;
-- or the pod's state and its answers other than "more".
pub data Outcome : Type 0 where
  wrote : Written → List ℕ → Ran → Outcome
  heard : P.Ran → Outcome

-- A reader that shows the writer's table and has nothing pending.
abbrev pub pupil : WriterState → ReaderState
pupil s = record { setup = s.setup; reader = follow s.writer.table s.writer.table s.writer.current }

-- What the definitions give for a case.
abbrev pub outcome : Case → Outcome
outcome (frame s f buf) = wrote (write_call base s f 0 (length buf)) (write_buffer base s f 0 buf) (run_call base (pupil s) (write_buffer base s f 0 buf))
outcome (pod_bytes bs) = heard (P.run P.fresh bs)

-- One row of the sheet.
pub record Row : Type 0 where
  pub given : Case
  pub gives : Outcome

-- ---- names for what the sheet writes

abbrev pub SLOT : ℤ → Event
SLOT v = record { type = 3; code = 0x2f; value = v }

abbrev pub ID : ℤ → Event
ID v = record { type = 3; code = 0x39; value = v }

abbrev pub X : ℤ → Event
X v = record { type = 3; code = 0x35; value = v }

abbrev pub Y : ℤ → Event
Y v = record { type = 3; code = 0x36; value = v }

abbrev pub PRESSURE : ℤ → Event
PRESSURE v = record { type = 3; code = 0x3a; value = v }

abbrev pub MAJOR : ℤ → Event
MAJOR v = record { type = 3; code = 0x30; value = v }

abbrev pub MINOR : ℤ → Event
MINOR v = record { type = 3; code = 0x31; value = v }

abbrev pub REPORT : Event
REPORT = record { type = 0; code = 0; value = pos 0 }

-- A slot's id, x, y and pressure, and its sizes.
abbrev pub sized : ℤ → ℕ → ℕ → ℕ → ℕ → ℕ → Slot
sized i x y p major minor = i ∷ pos x ∷ pos y ∷ pos p ∷ pos major ∷ pos minor ∷ []

-- The slots of the sheet have sizes 0.
abbrev pub at : ℤ → ℕ → ℕ → ℕ → Slot
at i x y p = sized i x y p 0 0

-- One slot of a frame: the kind, x, y and pressure, and sizes 0.
abbrev pub kind : ℕ → ℕ → ℕ → ℕ → List ℤ
kind k x y p = at (pos k) x y p

-- n slots, largest x and y 4,000, largest pressure and sizes 255.
abbrev pub panel : ℕ → Setup
panel n = record { slots = n; largest = 4_000 ∷ 4_000 ∷ 255 ∷ 255 ∷ 255 ∷ [] }

-- A writer of n slots: these slots and then unused records, the current slot and the counter.
abbrev pub writer : ℕ → Table → ℕ → ℕ → WriterState
writer n t c k = record { setup = panel n; writer = record { table = t ++ replicate (records - length t) (at (negsuc 0) 0 0 0); current = c; counter = k } }

-- A row: a frame on a writer's state and a buffer of just the bytes that come out, accepted with so many events and these changed slots,
-- and read back to the new table: one table shown, or none where nothing is sent.
abbrev pub turns : WriterState → List ℤ → List ℕ → ℕ → ℕ → WriterState → Counts → Row
turns old f bytes count changed new counts = record {
  given = frame old f (replicate (length bytes) 0);
  gives =
      wrote
      (record { verdict = accepted; state = new; count = count; changed = changed; need = 0 })
      bytes
      (record { verdict = accepted; state = pupil new; counts = counts });
}

-- A row: bytes to a fresh pod state, the state that they leave, and the answers other than "more".
abbrev pub hears : List ℕ → P.State → List P.Report → Row
hears bytes state reports = record { given = pod_bytes bytes; gives = heard (record { state = state; reports = reports }) }

-- ---- the states that P1 to P7 lead through

-- P1's writer is what `fresh` answers.
abbrev pub fresh : WriterState
fresh = (fresh_writer_call base (panel 2)).state

abbrev pub after1 : WriterState
after1 = writer 2 (at (pos 0) 100 200 30 ∷ at (negsuc 0) 0 0 0 ∷ []) 0 1

abbrev pub after2 : WriterState
after2 = writer 2 (at (pos 0) 100 200 30 ∷ at (pos 1) 300 400 30 ∷ []) 1 2

abbrev pub after3 : WriterState
after3 = writer 2 (at (pos 0) 101 200 30 ∷ at (pos 1) 300 401 30 ∷ []) 0 2

abbrev pub after4 : WriterState
after4 = writer 2 (at (negsuc 0) 101 200 30 ∷ at (pos 1) 300 401 30 ∷ []) 0 2

abbrev pub after5 : WriterState
after5 = writer 2 (at (pos 2) 101 200 30 ∷ at (pos 1) 300 401 30 ∷ []) 0 3

abbrev pub after6 : WriterState
after6 = writer 2 (at (pos 3) 101 200 30 ∷ at (pos 1) 300 401 30 ∷ []) 0 4

-- P1's whole output.
abbrev pub bytes1 : List ℕ
bytes1 =
    (0x03 ∷ 0x00 ∷ 0x39 ∷ 0x00 ∷ 0x00 ∷ 0x00 ∷ 0x00 ∷ 0x00 ∷ [])
    ++ (0x03 ∷ 0x00 ∷ 0x35 ∷ 0x00 ∷ 0x64 ∷ 0x00 ∷ 0x00 ∷ 0x00 ∷ [])
    ++ (0x03 ∷ 0x00 ∷ 0x36 ∷ 0x00 ∷ 0xc8 ∷ 0x00 ∷ 0x00 ∷ 0x00 ∷ [])
    ++ (0x03 ∷ 0x00 ∷ 0x3a ∷ 0x00 ∷ 0x1e ∷ 0x00 ∷ 0x00 ∷ 0x00 ∷ [])
    ++ (0x00 ∷ 0x00 ∷ 0x00 ∷ 0x00 ∷ 0x00 ∷ 0x00 ∷ 0x00 ∷ 0x00 ∷ [])

-- ---- the sheet

-- P1 to P9; P2 to P7 each follow the row before.
abbrev pub sheet : List Row
sheet =
    turns fresh (kind 1 100 200 30 ++ kind 0 0 0 0) bytes1 5 1 after1 one_shown
    ∷ turns after1 (kind 1 100 200 30 ++ kind 1 300 400 30)
    (bytes_of (SLOT (pos 1) ∷ ID (pos 1) ∷ X (pos 300) ∷ Y (pos 400) ∷ PRESSURE (pos 30) ∷ REPORT ∷ [])) 6 2 after2 one_shown
    ∷ turns after2 (kind 1 101 200 30 ++ kind 1 300 401 30) (bytes_of (Y (pos 401) ∷ SLOT (pos 0) ∷ X (pos 101) ∷ REPORT ∷ [])) 4 3 after3 one_shown
    ∷ turns after3 (kind 0 0 0 0 ++ kind 1 300 401 30) (bytes_of (ID (negsuc 0) ∷ REPORT ∷ [])) 2 1 after4 one_shown
    ∷ turns after4 (kind 1 101 200 30 ++ kind 1 300 401 30) (bytes_of (ID (pos 2) ∷ REPORT ∷ [])) 2 1 after5 one_shown
    ∷ turns after5 (kind 2 101 200 30 ++ kind 1 300 401 30) (bytes_of (ID (pos 3) ∷ REPORT ∷ [])) 2 1 after6 one_shown
    ∷ turns after6 (kind 1 101 200 30 ++ kind 1 300 401 30) [] 0 0 after6 nothing
    ∷ turns
    (writer 3 (at (negsuc 0) 0 0 0 ∷ at (pos 0) 5 5 5 ∷ at (negsuc 0) 0 0 0 ∷ []) 0 65_535)
    (kind 1 1 2 3 ++ kind 1 5 5 5 ++ kind 1 7 8 9)
    (bytes_of (ID (pos 65_535) ∷ X (pos 1) ∷ Y (pos 2) ∷ PRESSURE (pos 3) ∷ SLOT (pos 2) ∷ ID (pos 1) ∷ X (pos 7) ∷ Y (pos 8) ∷ PRESSURE (pos 9) ∷ REPORT ∷ []))
    10
    5
    (writer 3 (at (pos 65_535) 1 2 3 ∷ at (pos 0) 5 5 5 ∷ at (pos 1) 7 8 9 ∷ []) 2 2)
    one_shown
    ∷ hears (0xf8 ∷ 0x80 ∷ 0x7f ∷ []) P.fresh (P.relative false false (negsuc 127) (pos 127) ∷ [])
    ∷ []

-- Not marked P, and yet shown: one slot, id 7 live, counter 7, kind 2 with the same numbers. Freeing the replaced id would send nothing.
abbrev pub replaced : Row
replaced =
    turns (writer 1 (at (pos 7) 5 5 5 ∷ []) 0 7) (kind 2 5 5 5) (bytes_of (ID (pos 8) ∷ REPORT ∷ [])) 2 1 (writer 1 (at (pos 8) 5 5 5 ∷ []) 0 9) one_shown

-- 02's K3, run cases and yet shown: the first 0xF0 and the next; one inside a report and one after it; two inside a report; 0xF1.
abbrev pub self_tests : List Row
self_tests =
    hears (0xf0 ∷ 0xf0 ∷ []) (P.emptied false) (P.self_test_passed ∷ P.key_up 0x70 ∷ [])
    ∷ hears (0xf7 ∷ 0xf0 ∷ 0x00 ∷ 0x00 ∷ 0x00 ∷ 0x00 ∷ 0xf0 ∷ []) (P.emptied false) (P.bad_report ∷ P.self_test_passed ∷ [])
    ∷ hears (0xf8 ∷ 0xf0 ∷ 0xf0 ∷ []) P.fresh (P.relative false false (negsuc 15) (negsuc 15) ∷ [])
    ∷ hears (0xf1 ∷ []) P.fresh (P.key_up 0x71 ∷ [])
    ∷ []

-- A clock, by its six bytes.
abbrev pub clock : ℕ → ℕ → ℕ → ℕ → ℕ → ℕ → P.Clock
clock year month day hour minute second = record { year = year; month = month; day = day; hour = hour; minute = minute; second = second }

-- The time of day in 02's K13, worked out by hand: 2026-11-16 04:59:30; a wrong low digit and a wrong high one, each judged with the last
-- byte; no range of a month or an hour is judged; six bytes held.
abbrev pub times : List Row
times =
    hears (0xfc ∷ 0x26 ∷ 0x11 ∷ 0x16 ∷ 0x04 ∷ 0x59 ∷ 0x30 ∷ []) P.fresh (P.time_of_day (clock 0x26 0x11 0x16 0x04 0x59 0x30) ∷ [])
    ∷ hears (0xfc ∷ 0x26 ∷ 0x11 ∷ 0x16 ∷ 0x04 ∷ 0x5a ∷ 0x30 ∷ 0x01 ∷ []) P.fresh (P.bad_report ∷ P.key_down 0x01 ∷ [])
    ∷ hears (0xfc ∷ 0xa6 ∷ 0x11 ∷ 0x16 ∷ 0x04 ∷ 0x59 ∷ 0x30 ∷ 0xf0 ∷ []) (P.emptied false) (P.bad_report ∷ P.self_test_passed ∷ [])
    ∷ hears (0xfc ∷ 0x99 ∷ 0x13 ∷ 0x00 ∷ 0x24 ∷ 0x60 ∷ 0x99 ∷ []) P.fresh (P.time_of_day (clock 0x99 0x13 0x00 0x24 0x60 0x99) ∷ [])
    ∷ hears (0xfc ∷ 0xf0 ∷ 0x11 ∷ 0x16 ∷ 0x04 ∷ 0x59 ∷ []) (P.holding true (0xfc ∷ 0xf0 ∷ 0x11 ∷ 0x16 ∷ 0x04 ∷ 0x59 ∷ [])) []
    ∷ []

-- A row: a frame on a writer's state and an empty buffer, refused: the state stays, and there is nothing to read.
abbrev pub refuses : WriterState → List ℤ → Verdict → Row
refuses old f v = record {
  given = frame old f [];
  gives = wrote (record { verdict = v; state = old; count = 0; changed = 0; need = 0 }) [] (record { verdict = accepted; state = pupil old; counts = nothing });
}

-- A writer of one slot whose contact, of an older table, has pressure 0.
abbrev pub pale : ℤ → ℕ → WriterState
pale i k = writer 1 (at i 5 5 0 ∷ []) 0 k

-- 02's K8, run cases and yet shown: pressure 0 of a contact that begins, stays or is replaced, also where there is no room; pressure 1, with x and y 0;
-- an empty row of pressure 0; a live slot of pressure 0 that is lifted.
abbrev pub pressures : List Row
pressures =
    refuses fresh (kind 1 100 200 0 ++ kind 0 0 0 0) value
    ∷ refuses after1 (kind 1 100 200 0 ++ kind 0 0 0 0) value
    ∷ refuses after1 (kind 2 100 200 0 ++ kind 0 0 0 0) value
    ∷ refuses (pale (pos 0) 1) (kind 1 5 5 0) value
    ∷ turns (writer 1 [] 0 0) (kind 1 0 0 1) (bytes_of (ID (pos 0) ∷ PRESSURE (pos 1) ∷ REPORT ∷ [])) 3 1 (writer 1 (at (pos 0) 0 0 1 ∷ []) 0 1) one_shown
    ∷ turns (writer 1 [] 0 0) (kind 0 0 0 0) [] 0 0 (writer 1 [] 0 0) nothing
    ∷ turns (pale (pos 0) 1) (kind 0 0 0 0) (bytes_of (ID (negsuc 0) ∷ REPORT ∷ [])) 2 1 (pale (negsuc 0) 1) one_shown
    ∷ []

-- The events with which an older panel says that its contact's pressure is 0.
abbrev pub pales : List Event
pales = PRESSURE (pos 0) ∷ REPORT ∷ []

-- A gloved contact of one slot, with its sizes, and the writer's counter.
abbrev pub glove : ℤ → ℕ → ℕ → ℕ → WriterState
glove i major minor k = writer 1 (sized i 100 200 30 major minor ∷ []) 0 k

-- Its row of a frame.
abbrev pub gloved : ℕ → ℕ → ℕ → List ℤ
gloved k major minor = sized (pos k) 100 200 30 major minor

-- 02's K1, run cases and yet shown: a glove lands, and both sizes are sent, after pressure; one size changes, and then the other; a lift keeps them;
-- a landing with equal sizes does not send them.
abbrev pub gloves : List Row
gloves =
    turns (writer 1 [] 0 0) (gloved 1 80 40) (bytes_of (ID (pos 0) ∷ X (pos 100) ∷ Y (pos 200) ∷ PRESSURE (pos 30) ∷ MAJOR (pos 80) ∷ MINOR (pos 40) ∷ REPORT ∷ [])) 7 1 (glove (pos 0) 80 40 1) one_shown
    ∷ turns (glove (pos 0) 80 40 1) (gloved 1 90 40) (bytes_of (MAJOR (pos 90) ∷ REPORT ∷ [])) 2 1 (glove (pos 0) 90 40 1) one_shown
    ∷ turns (glove (pos 0) 90 40 1) (gloved 1 90 50) (bytes_of (MINOR (pos 50) ∷ REPORT ∷ [])) 2 1 (glove (pos 0) 90 50 1) one_shown
    ∷ turns (glove (pos 0) 90 50 1) (gloved 0 0 0) (bytes_of (ID (negsuc 0) ∷ REPORT ∷ [])) 2 1 (glove (negsuc 0) 90 50 1) one_shown
    ∷ turns (glove (negsuc 0) 90 50 1) (gloved 1 90 50) (bytes_of (ID (pos 1) ∷ REPORT ∷ [])) 2 1 (glove (pos 1) 90 50 2) one_shown
    ∷ refuses (glove (pos 0) 80 40 1) (gloved 1 256 40) value
    ∷ refuses (glove (pos 0) 80 40 1) (gloved 1 80 256) value
    ∷ []
