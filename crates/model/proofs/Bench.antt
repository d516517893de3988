-- The bench sheet: the definitions give every row that is marked P, by computing. Assumes nothing.
use mathlib.Core.Path.{◌≡◌, refl}
use mathlib.Core.List.{map, [], ◌∷◌}
use lib.IntN.{pos}
use Rattle.model.specs.Panel.{base}
use Rattle.model.specs.Records.{bits_of, signed_of, record_bytes, bytes_of, events_from, lay}
use Rattle.model.specs.Frame.{rows_from, free_id}
use Rattle.model.specs.Reader.{one_shown, run}
use Rattle.model.specs.States.{writer_good, reader_good}
use Rattle.model.specs.Pod.{kind_of, amended, well_formed, signed, fed, step_by}
use Rattle.model.specs.Calls.{accepted, fresh_writer_call, fresh_reader_call, write_verdict, write_call, write_buffer, run_verdict, run_call}
use Rattle.model.specs.Bench.{Row, outcome, pupil, panel, fresh, sheet, replaced, self_tests, times, pressures, pale, pales, gloves, writer, at}

-- Every row: the writer's whole answer, every byte of the buffer, and the table read back; or the pod's state and answers.
sheet-holds : map (λ (r : Row). outcome r.given) sheet ≡ map (λ (r : Row). r.gives) sheet
unfolding kind_of amended well_formed signed fed step_by
    bits_of signed_of record_bytes bytes_of events_from lay rows_from free_id run writer_good reader_good
    fresh_writer_call write_verdict write_call write_buffer run_verdict run_call
sheet-holds = refl

-- The reader of P1's bytes is what `fresh` answers too.
fresh-reader : fresh_reader_call base (panel 2) ≡ record { verdict = accepted; state = pupil fresh }
unfolding fresh_writer_call fresh_reader_call
fresh-reader = refl

-- A replaced id is not free within its own frame.
replaced-holds : outcome replaced.given ≡ replaced.gives
unfolding bits_of signed_of record_bytes bytes_of events_from lay rows_from free_id run writer_good reader_good write_verdict write_call write_buffer run_verdict run_call
replaced-holds = refl

-- A live finger presses (K8): what is refused, and what is not.
pressures_hold : map (λ (r : Row). outcome r.given) pressures ≡ map (λ (r : Row). r.gives) pressures
unfolding bits_of signed_of record_bytes bytes_of events_from lay rows_from free_id run writer_good reader_good fresh_writer_call write_verdict write_call write_buffer run_verdict run_call
pressures_hold = refl

-- Touch sizes (K1): when they are sent, and when they are not.
gloves_hold : map (λ (r : Row). outcome r.given) gloves ≡ map (λ (r : Row). r.gives) gloves
unfolding bits_of signed_of record_bytes bytes_of events_from lay rows_from free_id run writer_good reader_good fresh_writer_call write_verdict write_call write_buffer run_verdict run_call
gloves_hold = refl

-- A reader takes pressure 0 of a contact as it always did.
zero-read : run_call base (pupil (writer 1 (at (pos 0) 5 5 30 ∷ []) 0 1)) (bytes_of pales) ≡ record { verdict = accepted; state = pupil (pale (pos 0) 1); counts = one_shown }
unfolding bits_of signed_of record_bytes bytes_of events_from run reader_good run_verdict run_call
zero-read = refl

-- After power-up the first 0xF0 that stands as a first byte says that the self-test passed; the next is a key.
self_tests_hold : map (λ (r : Row). outcome r.given) self_tests ≡ map (λ (r : Row). r.gives) self_tests
unfolding kind_of amended well_formed signed fed step_by
self_tests_hold = refl

-- The time of day (K13): a wrong digit is a bad report, and six bytes may be held.
times_hold : map (λ (r : Row). outcome r.given) times ≡ map (λ (r : Row). r.gives) times
unfolding kind_of amended well_formed signed fed step_by
times_hold = refl
