-- The sheet of pointer emulation (K6): the definitions give every row, by computing. Brought in by the first laws on ranks and on emulated events, so
-- that a wrong definition fails here. Assumes nothing.
use mathlib.Core.Path.{◌≡◌, refl}
use mathlib.Core.Bool.{true, false, ◌&&◌}
use mathlib.Core.List.{map}
use Rattle.model.specs.Panel.{base, good_layout}
use Rattle.model.specs.Records.{bits_of, signed_of, record_bytes, bytes_of, events_from, lay}
use Rattle.model.specs.Frame.{rows_from, free_id}
use Rattle.model.specs.Reader.{run}
use Rattle.model.specs.States.{writer_good, reader_good}
use Rattle.model.specs.Calls.{run_verdict, run_call}
use Rattle.model.specs.Pointer.{pointable}
use Rattle.model.specs.Pointing.{pointer_good, fresh_pointer_call, pointer_verdict, pointer_call, pointer_buffer}
use Rattle.model.specs.PointerSheet.{said, turned, start, sheet, ties, fingers, plain, Refused, refusal, refusals}

-- The product's layout is one that the option is for.
pub base-pointable : (good_layout base && pointable base) ≡ true
base-pointable = refl

-- P1 to P7, and all lifted.
sheet-holds : turned (start true 2) sheet ≡ map said sheet
unfolding bits_of signed_of record_bytes bytes_of events_from lay rows_from free_id run writer_good reader_good run_verdict run_call
    pointer_good fresh_pointer_call pointer_verdict pointer_call pointer_buffer
sheet-holds = refl

-- Ties, a replaced contact, a closed gap, and numbers that stay.
ties_hold : turned (start true 3) ties ≡ map said ties
unfolding bits_of signed_of record_bytes bytes_of events_from lay rows_from free_id run writer_good reader_good run_verdict run_call
    pointer_good fresh_pointer_call pointer_verdict pointer_call pointer_buffer
ties_hold = refl

-- Four fingers, five and six.
fingers_hold : turned (start true 6) fingers ≡ map said fingers
unfolding bits_of signed_of record_bytes bytes_of events_from lay rows_from free_id run writer_good reader_good run_verdict run_call
    pointer_good fresh_pointer_call pointer_verdict pointer_call pointer_buffer
fingers_hold = refl

-- The option off.
plain-holds : turned (start false 2) plain ≡ map said plain
unfolding bits_of signed_of record_bytes bytes_of events_from lay rows_from free_id run writer_good reader_good run_verdict run_call
    pointer_good fresh_pointer_call pointer_verdict pointer_call pointer_buffer
plain-holds = refl

-- What is refused.
refusals_hold : map (λ (r : Refused). pointer_call base r.given r.frame 0 r.size) refusals ≡ map refusal refusals
unfolding rows_from free_id writer_good pointer_good fresh_pointer_call pointer_verdict pointer_call
refusals_hold = refl
