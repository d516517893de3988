-- What is held of the model's answer to a crane's question is seen again, whatever the state; so an answer that is the model's has its number and its values.
-- Cited by the proof of `ask` and by Promises. Assumes nothing.
use mathlib.Core.Path.{◌≡◌, refl, ap, ◌∙◌}
use mathlib.Core.List.{List, [], ◌∷◌}
use Prim.Native.Nat.{ℕ, zero, suc}
use lib.Dec.{ltb}
use lib.ListN.{get_or}
use Rattle.model.specs.Panel.{crane, panel_of}
use Rattle.model.specs.Table.{live}
use Rattle.model.specs.Reader as R
use Rattle.model.specs.States.{reader_good}
use Rattle.model.specs.Calls as C
use Rattle.model.specs.Calls.{asked_number, asked_values, asked_in, asked, ask_call}
use Rattle.model.proofs.Calls.{by_verdict}
use Rattle.crane_panel.specs.Seen.{slot_of, table_of}
use Rattle.crane_panel.specs.declared.Slot.{Slot}
use Rattle.crane_reader.specs.declared.ReaderState.{ReaderState}
use Rattle.crane_reader.specs.States.{seen}
use Rattle.crane_reader.specs.declared.SlotAnswer.{SlotAnswer}
use Rattle.crane_reader.specs.Seen.{asked_from, answer_seen, AnswersAs}

-- An answer that is seen as it is, once it is held.
abbrev Back : C.Asked → Type 0
Back a = answer_seen (asked_from a) ≡ a

-- Of a slot that a struct holds no goodness is asked: its numbers are there and not negative.
back_slot : (m : R.Mode) (s : Slot) → Back (asked_in m (slot_of s))
back_slot R.following s = by_verdict Back (live s.id.0) (C.contact (slot_of s)) C.empty (λ _. refl) refl
back_slot R.dropped s = refl
back_slot R.stale s = refl

-- Past the table's end stands a slot with no id, which is not live.
back_none : (m : R.Mode) → Back (asked_in m [])
back_none R.following = refl
back_none R.dropped = refl
back_none R.stale = refl

back_shown : (m : R.Mode) (t : List Slot) (k : ℕ) → Back (asked_in m (get_or (table_of t) k []))
back_shown m [] k = back_none m
back_shown m (s ∷ t) zero = back_slot m s
back_shown m (s ∷ t) (suc k) = back_shown m t k

pub back_call : (s : ReaderState) (k : ℕ) → Back (ask_call crane (seen s) k)
unfolding ask_call
back_call s k =
    let r = (seen s).reader in
    by_verdict Back (reader_good crane (seen s)) (asked (panel_of crane (seen s).setup) r k) (C.refused C.state)
    (λ _. by_verdict Back (ltb k s.setup.n) (asked_in r.mode (get_or r.shown k [])) C.no_such_slot (λ _. back_shown r.mode s.shown k) refl)
    refl

-- So all that `ask` promises follows from the answer alone.
pub answers : (s : ReaderState) (k : ℕ) (r : SlotAnswer) → r ≡ asked_from (ask_call crane (seen s) k) → AnswersAs (ask_call crane (seen s) k) r
answers s k r e =
    let back = ap answer_seen e ∙ back_call s k in
    record { answer = e; number = ap asked_number back; values = ap asked_values back }
