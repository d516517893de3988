-- What a writer sends to get a following reader from an old table to a new one, and demand 3's counts. Assumes nothing.
use Rattle.std.specs.Prelude.{Bool, true, false, cond, ◌&&◌, List, [], ◌∷◌, ◌++◌, map, ℕ, zero, suc, ◌+◌, ◌*◌, ◌/◌, ◌%◌, eqb, ℤ, pos, get_or}
use Rattle.model.specs.Numbers.{eq_z}
use Rattle.model.specs.Panel.{Panel, slot_code, field_codes}
use Rattle.model.specs.Table.{Slot, Table}
use Rattle.model.specs.Events.{Event}

-- ---- the order of events

-- What a writer sends: a slot's number, a number of the current slot by its field, or the report.
pub data Sent : Type 0 where
  send_slot : ℕ → Sent
  send_number : ℕ → ℤ → Sent
  send_report : Sent

-- x in front, unless the test passes.
abbrev pub unless {ℓ} : {A : Type ℓ} → Bool → A → List A → List A
unless true x l = l
unless false x l = x ∷ l

-- The changed numbers of a slot, in the order of the fields, from field i on. Equal numbers are not sent.
abbrev pub changes : ℕ → Slot → Slot → List Sent
changes i [] new = []
changes i (o ∷ old) [] = []
changes i (o ∷ old) (v ∷ new) = unless (eq_z o v) (send_number i v) (changes (suc i) old new)

-- A slot's changes opened by its number; an unchanged slot is not opened.
abbrev pub opened : ℕ → List Sent → List Sent
opened k [] = []
opened k (x ∷ xs) = send_slot k ∷ x ∷ xs

-- The changes of all slots in rising order, from slot k on, each opened.
abbrev pub all_changes : ℕ → Table → Table → List Sent
all_changes k [] new = []
all_changes k (o ∷ old) [] = []
all_changes k (o ∷ old) (v ∷ new) = opened k (changes 0 o v) ++ all_changes (suc k) old new

-- The old table with slot c done: as it is in the new one. What is still to change then is what the other slots change.
abbrev pub slot_done : ℕ → Table → Table → Table
slot_done c [] new = []
slot_done c (o ∷ old) [] = o ∷ old
slot_done zero (o ∷ old) (v ∷ new) = v ∷ old
slot_done (suc c) (o ∷ old) (v ∷ new) = o ∷ slot_done c old new

-- The changes of all slots other than slot c.
abbrev pub other_changes : ℕ → Table → Table → List Sent
other_changes c old new = all_changes 0 (slot_done c old new) new

-- The current slot's changes first, not opened; then the others.
abbrev pub body : ℕ → Table → Table → List Sent
body c old new = changes 0 (get_or old c []) (get_or new c []) ++ other_changes c old new

-- Last comes the report; if nothing changed, nothing is sent.
abbrev pub closed : List Sent → List Sent
closed [] = []
closed (x ∷ xs) = (x ∷ xs) ++ send_report ∷ []

-- All that is sent, in order, by a writer whose current slot is c.
abbrev pub sending : ℕ → Table → Table → List Sent
sending c old new = closed (body c old new)

-- The slot last opened, or the old one.
abbrev pub last_opened : ℕ → List Sent → ℕ
last_opened c [] = c
last_opened c (send_slot k ∷ xs) = last_opened k xs
last_opened c (send_number i v ∷ xs) = last_opened c xs
last_opened c (send_report ∷ xs) = last_opened c xs

-- The current slot afterwards: the last one written, or the old one.
abbrev pub current_after : ℕ → Table → Table → ℕ
current_after c old new = last_opened c (sending c old new)

-- ---- as events

-- The code of field i, of the fields' codes. (0 past the last field: nothing sent names such a one.)
abbrev pub code_of : List ℕ → ℕ → ℕ
code_of [] i = 0
code_of (c ∷ codes) zero = c
code_of (c ∷ codes) (suc i) = code_of codes i

-- The event of what is sent, by the fields' codes; SYN_REPORT has the value 0.
abbrev pub event_of : List ℕ → Sent → Event
event_of codes (send_slot k) = record { type = 3; code = slot_code; value = pos k }
event_of codes (send_number i v) = record { type = 3; code = code_of codes i; value = v }
event_of codes send_report = record { type = 0; code = 0; value = pos 0 }

-- The events of a frame that turns the old table into the new one.
abbrev pub events_sent : Panel → ℕ → Table → Table → List Event
events_sent p c old new = map (event_of (field_codes p.fields)) (sending c old new)

-- ---- what changed

-- 0 where a test passes, else 1.
abbrev pub one_unless : Bool → ℕ
one_unless true = 0
one_unless false = 1

-- No number of the slot changed.
abbrev pub same_slot : Slot → Slot → Bool
same_slot [] new = true
same_slot (o ∷ old) [] = true
same_slot (o ∷ old) (v ∷ new) = eq_z o v && same_slot old new

-- How many numbers of a slot changed.
abbrev pub changed_in : Slot → Slot → ℕ
changed_in [] new = 0
changed_in (o ∷ old) [] = 0
changed_in (o ∷ old) (v ∷ new) = one_unless (eq_z o v) + changed_in old new

-- How many numbers of the table changed.
abbrev pub changed_numbers : Table → Table → ℕ
changed_numbers [] new = 0
changed_numbers (o ∷ old) [] = 0
changed_numbers (o ∷ old) (v ∷ new) = changed_in o v + changed_numbers old new

-- How many slots changed.
abbrev pub changed_slots : Table → Table → ℕ
changed_slots [] new = 0
changed_slots (o ∷ old) [] = 0
changed_slots (o ∷ old) (v ∷ new) = one_unless (same_slot o v) + changed_slots old new

-- How many slots changed other than slot c.
abbrev pub changed_others : ℕ → Table → Table → ℕ
changed_others c old new = changed_slots (slot_done c old new) new

-- Demand 3's number: none if no number changes, else one, one for each changed number, and one for each changed slot other than the current slot c.
abbrev pub fewest : ℕ → Table → Table → ℕ
fewest c old new = cond (eqb (changed_numbers old new) 0) 0 (1 + changed_numbers old new + changed_others c old new)

-- The changed slots as one number, bit s for slot s.
abbrev pub changed_mask : Table → Table → ℕ
changed_mask [] new = 0
changed_mask (o ∷ old) [] = 0
changed_mask (o ∷ old) (v ∷ new) = one_unless (same_slot o v) + 2 * changed_mask old new

-- The changed slots other than slot c as one number.
abbrev pub others_mask : ℕ → Table → Table → ℕ
others_mask c old new = changed_mask (slot_done c old new) new

-- Bit k of a number.
abbrev pub bit_of : ℕ → ℕ → ℕ
bit_of zero m = m % 2
bit_of (suc k) m = bit_of k (m / 2)
