-- K5 by computing: P1's bytes with two more behind them, cut in five ways; a load while half a record is held; and states that are refused. Brought in
-- by Pieces, so that a wrong definition fails here first. Assumes nothing.
use mathlib.Core.Path.{◌≡◌, refl}
use mathlib.Core.Bool.{true, false}
use mathlib.Core.List.{List, [], ◌∷◌, ◌++◌, map}
use Prim.Native.Nat.{ℕ}
use lib.IntN.{pos}
use lib.ListN.{take, drop}
use Rattle.model.specs.Panel.{base}
use Rattle.model.specs.Records.{bits_of, signed_of, record_bytes, bytes_of, events_from}
use Rattle.model.specs.Frame.{rows_from}
use Rattle.model.specs.Reader.{stale, settled_at, one_shown, run}
use Rattle.model.specs.States.{ReaderState, reader_good}
use Rattle.model.specs.Calls.{accepted, fresh_reader_call, run_verdict, run_call, load_verdict, load_call}
use Rattle.model.specs.Bench.{X, REPORT, at, panel, writer, pupil, after1, bytes1}
use Rattle.model.specs.Pieces.{LineState, carrying, line_good, fresh_line_call, Taken, take_call, take_pieces, line_load_call}

-- A fresh state of P1's panel.
abbrev start : LineState
start = (fresh_line_call base (panel 2)).state

-- P1's bytes and two bytes of a next record.
abbrev line : List ℕ
line = bytes1 ++ 0x03 ∷ 0x00 ∷ []

-- At once; an empty piece, three bytes, an empty piece and the rest; inside the first record, across two and on; between records; byte by byte.
abbrev ways : List (List (List ℕ))
ways =
    (line ∷ [])
    ∷ ([] ∷ take 3 line ∷ [] ∷ drop 3 line ∷ [])
    ∷ (take 5 line ∷ take 12 (drop 5 line) ∷ take 7 (drop 17 line) ∷ drop 24 line ∷ [])
    ∷ (take 8 line ∷ take 32 (drop 8 line) ∷ drop 40 line ∷ [] ∷ [])
    ∷ map (λ b. b ∷ []) line
    ∷ []

-- P1's table is shown once, and two bytes are left over.
abbrev told : Taken
told = record {
  verdict = accepted;
  state = record { reader = pupil after1; left = 0x03 ∷ 0x00 ∷ 0x00 ∷ 0x00 ∷ 0x00 ∷ 0x00 ∷ 0x00 ∷ []; count = 2 };
  counts = one_shown;
}

pub ways_hold : map (take_pieces base start) ways ≡ told ∷ told ∷ told ∷ told ∷ told ∷ []
unfolding events_from signed_of run reader_good fresh_reader_call run_verdict run_call line_good fresh_line_call take_call
ways_hold = refl

-- A stale reader of one slot that holds three bytes of an x.
abbrev astray : ReaderState
astray = record { setup = panel 1; reader = settled_at (writer 1 [] 0 0).writer.table 0 stale }

abbrev half : LineState
half = carrying astray (take 3 (bytes_of (X (pos 100) ∷ [])))

-- The load's contact, and the same contact at x 100.
abbrev loaded : LineState
loaded = (line_load_call base half (at (pos 7) 1 2 3) 0).state

-- The record that the load came into is read after it.
pub load-holds : take_pieces base loaded (drop 3 (bytes_of (X (pos 100) ∷ REPORT ∷ [])) ∷ [])
    ≡ record { verdict = accepted; state = carrying (pupil (writer 1 (at (pos 7) 100 2 3 ∷ []) 0 0)) []; counts = one_shown }
unfolding bits_of signed_of record_bytes bytes_of events_from rows_from run reader_good run_verdict run_call load_verdict load_call line_good take_call line_load_call
load-holds = refl

-- Seven bytes held are well formed; eight, six places, or an unused place that is not 0 are not.
abbrev holds : List ℕ → ℕ → LineState
holds left count = record { reader = astray; left = left; count = count }

pub judged : map (line_good base)
    (holds (1 ∷ 2 ∷ 3 ∷ 4 ∷ 5 ∷ 6 ∷ 7 ∷ []) 7
    ∷ holds (1 ∷ 2 ∷ 3 ∷ 4 ∷ 5 ∷ 6 ∷ 7 ∷ []) 8
    ∷ holds (1 ∷ 2 ∷ 3 ∷ 4 ∷ 5 ∷ 6 ∷ []) 6
    ∷ holds (1 ∷ 0 ∷ 0 ∷ 0 ∷ 0 ∷ 0 ∷ 7 ∷ []) 1
    ∷ holds (0 ∷ 0 ∷ 0 ∷ 0 ∷ 0 ∷ 0 ∷ 0 ∷ []) 0
    ∷ [])
    ≡ true ∷ false ∷ false ∷ false ∷ true ∷ []
unfolding reader_good line_good
judged = refl
