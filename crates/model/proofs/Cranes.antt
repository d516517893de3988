-- What a crane's reader has of the product's, computed: which numbers and which codes, and a shift with a gloved contact and a refused frame (K1).
-- Brought in by Shift and NarrowReader. Assumes nothing.
use mathlib.Core.Path.{◌≡◌, refl}
use mathlib.Core.List.{List, [], ◌∷◌}
use Prim.Native.Nat.{ℕ}
use lib.IntN.{ℤ, pos, negsuc}
use lib.ListN.{replicate}
use Rattle.model.specs.Panel.{base, crane}
use Rattle.model.specs.Records.{bits_of, signed_of, record_bytes, bytes_of, events_from, lay}
use Rattle.model.specs.Frame.{rows_from, free_id}
use Rattle.model.specs.Reader.{follow, event, Counts, run}
use Rattle.model.specs.States.{WriterState, writer_good, ReaderState, reader_good}
use Rattle.model.specs.Calls.{accepted, fresh_writer_call, fresh_reader_call, write_verdict, write_call, write_buffer, run_verdict, run_call}
use Rattle.model.specs.Bench.{panel, ID, X, Y, PRESSURE, MAJOR, MINOR, REPORT, sized, gloved, glove}
use Rattle.model.specs.Shift.{FrameCall, wrote_all, sent_all, written_all}
use Rattle.model.specs.Narrow.{crane_setup, short_pupil, later_codes, short_counts}

-- The product's later codes are those of the two sizes.
pub size-codes : later_codes base crane ≡ 0x30 ∷ 0x31 ∷ []
size-codes = refl

-- A frame, in a buffer of so many bytes.
abbrev call : List ℤ → ℕ → FrameCall
call f n = record { frame = f; at = 0; buffer = replicate n 0 }

-- A glove lands; a frame of pressure 0 is refused; the smaller size changes.
abbrev calls : List FrameCall
calls = call (gloved 1 80 40) 56 ∷ call (sized (pos 1) 100 200 0 80 40) 16 ∷ call (gloved 1 80 50) 16 ∷ []

abbrev first : WriterState
first = (fresh_writer_call base (panel 1)).state

calls_write : wrote_all base first calls ≡ glove (pos 0) 80 50 1
unfolding rows_from free_id writer_good fresh_writer_call write_verdict write_call
calls_write = refl

calls_send : sent_all base first calls
    ≡ ID (pos 0) ∷ X (pos 100) ∷ Y (pos 200) ∷ PRESSURE (pos 30) ∷ MAJOR (pos 80) ∷ MINOR (pos 40) ∷ REPORT ∷ MINOR (pos 50) ∷ REPORT ∷ []
unfolding rows_from free_id writer_good fresh_writer_call write_verdict write_call
calls_send = refl

-- The crane's reader of this contact: its id, x, y and pressure, and the other records unused.
abbrev shows : ReaderState
shows =
    let t = (pos 0 ∷ pos 100 ∷ pos 200 ∷ pos 30 ∷ []) ∷ replicate 15 (negsuc 0 ∷ pos 0 ∷ pos 0 ∷ pos 0 ∷ []) in
    record { setup = crane_setup (panel 1); reader = follow t t 0 }

glove-cut : short_pupil crane (crane_setup (panel 1)) (glove (pos 0) 80 50 1) ≡ shows
glove-cut = refl

-- It shows two tables and skips the larger size once and the smaller one twice.
abbrev told : Counts
told = record { shown = 2; types = 0; codes = 3; bad = 0; ignored = 0; first = event 3 0x30 }

calls_count : short_counts (0x30 ∷ 0x31 ∷ []) (sent_all base first calls) ≡ told
unfolding rows_from free_id writer_good fresh_writer_call write_verdict write_call
calls_count = refl

calls_show : (let s = (fresh_reader_call crane (crane_setup (panel 1))).state in
    run_call crane s (written_all base first calls) ≡ record { verdict = accepted; state = shows; counts = told })
unfolding bits_of signed_of record_bytes bytes_of events_from lay rows_from free_id run writer_good reader_good fresh_writer_call fresh_reader_call
    write_verdict write_call write_buffer run_verdict run_call
calls_show = refl
