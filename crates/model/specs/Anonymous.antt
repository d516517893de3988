-- The call of document 02's K12: a type A frame, judged, paired with the table's contacts and written as a type B frame. Cited by the laws of
-- proofs/Anonymous and by the promise of the crate anonymous. Assumes nothing.
use Rattle.std.specs.Prelude.{◌≡◌, Bool, true, false, cond, ◌&&◌, List, [], ◌∷◌, ◌++◌, map, ℕ, ◌-◌, ◌%◌, ◌<◌, T, leb, eqb, ℤ, pos, negsuc, length, get_or, take, replicate}
use Rattle.model.specs.Numbers.{minus_one}
use Rattle.model.specs.Panel.{Layout, Panel, panel_of}
use Rattle.model.specs.Table.{Slot, Table, id_of, numbers_of, live, unheld, ids}
use Rattle.model.specs.Records.{events_of}
use Rattle.model.specs.Calls.{Verdict, accepted, state, ragged, too_many, unfinished, value, check, is_accepted, room_for}
use Rattle.model.specs.Shift.{flat}
use Rattle.model.specs.Pairing.{Point, point, origin, alone, Best, best_pairing, at_live, at_unused, left_over, placed, times, unused_slots}
use Rattle.model.specs.Packets.{Contact, contact_row, contacts_good, packets_of}
use Rattle.model.specs.Pointing.{PointerState, pointer_good, pointer_need, PointerWritten, pointer_refused, pointer_call, pointer_buffer}
use Rattle.model.specs.Refusals as Refusal

-- ---- where contacts are

-- A place by x and y; neither is negative once a frame was judged, and else there is none.
abbrev pub point_at : ℤ → ℤ → Point
point_at (pos x) (pos y) = point x y
point_at (pos x) (negsuc y) = origin
point_at (negsuc x) y = origin

-- Of a slot, whose id comes first.
abbrev pub slot_point : Slot → Point
slot_point s = point_at (get_or s 1 (pos 0)) (get_or s 2 (pos 0))

-- Of a contact of a type A frame.
abbrev pub contact_point : Contact → Point
contact_point c = point_at (get_or c 0 (pos 0)) (get_or c 1 (pos 0))

-- ---- the frame that is made

-- Which records of a table are live.
abbrev pub live_in : Table → List Bool
live_in t = map (λ s. live (id_of s)) t

-- The old contacts, by rising slot.
abbrev pub old_points : Table → List Point
old_points t = at_live (live_in t) (map slot_point t)

-- The new contact of each record: the best pairing keeps those that go on in their slots, and those left over take the lowest unused ones.
abbrev pub contact_numbers : Table → List Contact → List ℕ
contact_numbers t cs = placed (live_in t) (best_pairing (map contact_point cs) (old_points t)) (length cs)

-- Kind 0 and zeros.
abbrev pub empty_row : List ℤ
empty_row = pos 0 ∷ pos 0 ∷ pos 0 ∷ pos 0 ∷ pos 0 ∷ pos 0 ∷ []

-- The row of a slot, by the number of its contact: kind 1 and the contact's numbers, or kind 0 where it has none.
abbrev pub row_at : List Contact → ℕ → List ℤ
row_at cs c = cond (eqb c alone) empty_row (contact_row (get_or cs c []))

-- The frame: a row for each slot of the panel.
unfoldable pub frame_of : Panel → Table → List Contact → List ℤ
frame_of p t cs = flat (map (row_at cs) (take p.slots (contact_numbers t cs)))

-- Who is where, on a panel of n slots: the pairing is the best; live slots, rising, have its numbers; unused ones, rising, the new contacts left over, rising, and
-- then none; and each new contact has one of the panel's slots.
pub record Placed (n : ℕ) (t : Table) (cs : List Contact) : Type 0 where
  pub best : Best (map contact_point cs) (old_points t) (best_pairing (map contact_point cs) (old_points t))
  pub kept : at_live (live_in t) (contact_numbers t cs) ≡ best_pairing (map contact_point cs) (old_points t)
  pub begun : (let left = left_over (length cs) (best_pairing (map contact_point cs) (old_points t)) in
      at_unused (live_in t) (contact_numbers t cs) ≡ left ++ replicate (unused_slots (live_in t) - length left) alone)
  pub once : (c : ℕ) → c < length cs → times c (take n (contact_numbers t cs)) ≡ 1

-- What becomes of slot k, where t is the old table and `new` the new one: a contact that is paired goes on in its slot with its id and the new numbers; one that is
-- left over ends, and its other numbers stay; in an unused slot a new contact begins, with an id that no old contact has. Sizes are 0.
pub record SlotMade (t new : Table) (cs : List Contact) (k : ℕ) : Type 0 where
  pub goes_on : live (id_of (get_or t k [])) ≡ true → eqb (get_or (contact_numbers t cs) k alone) alone ≡ false
      → get_or new k [] ≡ id_of (get_or t k []) ∷ numbers_of (contact_row (get_or cs (get_or (contact_numbers t cs) k alone) []))
  pub ends : eqb (get_or (contact_numbers t cs) k alone) alone ≡ true → get_or new k [] ≡ minus_one ∷ numbers_of (get_or t k [])
  pub begins : live (id_of (get_or t k [])) ≡ false → eqb (get_or (contact_numbers t cs) k alone) alone ≡ false
      → (numbers_of (get_or new k []) ≡ numbers_of (contact_row (get_or cs (get_or (contact_numbers t cs) k alone) []))) × T (unheld (id_of (get_or new k [])) (ids t))

-- ---- the call: refusals 2, 6, 9, 10, 4, 5, in this order

-- No more contacts than five, nor than the panel has slots.
abbrev pub few_enough : Panel → List Contact → Bool
few_enough p cs = leb (length cs) alone && leb (length cs) p.slots

-- What is judged before the room is: the state, whole records, how many contacts, whether the frame is finished, the values.
unfoldable pub anonymous_verdict : Layout → PointerState → List ℕ → Verdict
anonymous_verdict l s bs =
    let p = panel_of l s.base.setup in
    let a = packets_of (events_of bs) in
    check (pointer_good l s) state
    (check (eqb (length bs % 8) 0) ragged
    (check (few_enough p a.contacts) too_many (check a.sound unfinished (check (contacts_good p a.contacts) value accepted))))

-- The frame of these records, with the writer's table as it is.
abbrev pub anonymous_frame : Layout → PointerState → List ℕ → List ℤ
anonymous_frame l s bs = frame_of (panel_of l s.base.setup) s.base.writer.table (packets_of (events_of bs)).contacts

-- What the call answers: what `write` answers to that frame; a refusal is one of `write`'s, with no need.
unfoldable pub anonymous_call : Layout → PointerState → List ℕ → ℕ → ℕ → PointerWritten
anonymous_call l s bs at size =
    let v = anonymous_verdict l s bs in
    cond (is_accepted v) (pointer_call l s (anonymous_frame l s bs) at size) (pointer_refused v s 0)

-- What is in the buffer afterwards: a refusal touches no byte.
unfoldable pub anonymous_buffer : Layout → PointerState → List ℕ → ℕ → List ℕ → List ℕ
anonymous_buffer l s bs at buf = cond (is_accepted (anonymous_verdict l s bs)) (pointer_buffer l s (anonymous_frame l s bs) at buf) buf

-- Document 02's order: STATE, RAGGED, too many contacts, an unfinished frame, VALUE, NO ROOM.
abbrev pub anonymous_rows : Layout → PointerState → List ℕ → ℕ → ℕ → List Refusal.Row
anonymous_rows l s bs at size =
    let p = panel_of l s.base.setup in
    let a = packets_of (events_of bs) in
    Refusal.unless 2 (pointer_good l s)
    ∷ Refusal.unless 6 (eqb (length bs % 8) 0)
    ∷ Refusal.unless 9 (few_enough p a.contacts)
    ∷ Refusal.unless 10 a.sound
    ∷ Refusal.unless 4 (contacts_good p a.contacts)
    ∷ Refusal.unless 5 (room_for (pointer_need l s (anonymous_frame l s bs)) at size)
    ∷ []
