-- The answer of a write and its buffer by the four tests, and the code's answers as the model's. Cited by the proof of `write` and by Accepted. Assumes
-- nothing.
use mathlib.Core.Path.{◌≡◌, sym, ap}
use mathlib.Core.Bool.{Bool, cond}
use mathlib.Core.List.{List}
use Prim.Native.Nat.{ℕ}
use lib.Dec.{eqb}
use lib.IntN.{ℤ}
use lib.ListN.{length}
use Rattle.model.specs.Panel.{Layout, Panel, panel_of}
use Rattle.model.specs.Records.{bytes_of, lay}
use Rattle.model.specs.Frame.{sized, values_good}
use Rattle.model.specs.Calls as C
use Rattle.model.specs.Calls.{verdict_number, check, is_accepted, room_for}
use Rattle.model.specs.Pointing.{PointerState, PointerWritten, pointer_good, pointer_events, pointer_need}
use Rattle.model.specs.Pointing.{pointer_verdict, pointer_refused, pointer_taken, pointer_call, pointer_buffer}
use Rattle.common.specs.Seen.{verdict_from}
use Rattle.writer.specs.declared.WriterState.{WriterState}
use Rattle.writer.specs.Seen.{seen, written_from, not_written_by}
use Rattle.writer.proofs.Back.{state_back}

-- ---- the model's answer by the tests: of the state, the frame's length, its values and the room

abbrev pub judged : Bool → Bool → Bool → Bool → C.Verdict
judged g z v r = check g C.state (check z C.frame (check v C.value (check r C.no_room C.accepted)))

module _ (l : Layout) (s : PointerState) (f : List ℤ) (at : ℕ) where
  abbrev p : Panel
  p = panel_of l s.base.setup

  abbrev pub answered : C.Verdict → PointerWritten
  answered v = cond (is_accepted v) (pointer_taken l s f) (pointer_refused v s (pointer_need l s f))

  abbrev pub buffered : C.Verdict → List ℕ → List ℕ
  buffered v buf = cond (is_accepted v) (lay at (bytes_of (pointer_events l s f)) buf) buf

  module _ (buf : List ℕ) (g z v r : Bool) (eg : pointer_good l s ≡ g) (ez : sized p f ≡ z) (ev : values_good p f ≡ v)
      (er : room_for (pointer_need l s f) at (length buf) ≡ r) where
    verdict_by : pointer_verdict l s f at (length buf) ≡ judged g z v r
    unfolding pointer_verdict
    verdict_by = λ i. judged (eg i) (ez i) (ev i) (er i)

    pub answer_by : pointer_call l s f at (length buf) ≡ answered (judged g z v r)
    unfolding pointer_call
    answer_by = ap answered verdict_by

    pub buffer_by : pointer_buffer l s f at buf ≡ buffered (judged g z v r) buf
    unfolding pointer_buffer
    buffer_by = ap (λ w. buffered w buf) verdict_by

-- ---- the code's answers

-- A refusal, whatever the state holds.
pub refusal_is : (v : C.Verdict) (s : WriterState) (need : ℕ)
    → not_written_by (verdict_from v) s (cond (eqb (verdict_number v) 5) need 0) ≡ written_from (pointer_refused v (seen s) need)
refusal_is v s need = ap (λ t. not_written_by (verdict_from v) t (cond (eqb (verdict_number v) 5) need 0)) (sym (state_back s))
