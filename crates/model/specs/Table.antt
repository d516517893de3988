-- The contact table: slots, live ids, and when a table is well formed. Assumes nothing.
-- A table is the list of all slot records held. The panel's n slots are the first n of them; the records from n upward are unused.
use Rattle.std.specs.Prelude.{Bool, true, false, not, ◌&&◌, ◌||◌, List, [], ◌∷◌, map, ℕ, zero, suc, eqb, ℤ, pos, length}
use Rattle.model.specs.Numbers.{eq_z, minus_one, between_z}
use Rattle.model.specs.Panel.{Field, Panel}

-- A slot record: its numbers, the tracking id first.
abbrev pub Slot : Type 0
Slot = List ℤ

-- The slot records, from slot 0 on.
abbrev pub Table : Type 0
Table = List Slot

-- A slot's tracking id; a record without numbers is unused.
abbrev pub id_of : Slot → ℤ
id_of [] = minus_one
id_of (v ∷ s) = v

-- A slot's other numbers.
abbrev pub numbers_of : Slot → List ℤ
numbers_of [] = []
numbers_of (v ∷ s) = s

-- An id is live unless it is -1.
abbrev pub live : ℤ → Bool
live v = not (eq_z v minus_one)

-- v is none of the list's numbers.
abbrev pub unheld : ℤ → List ℤ → Bool
unheld v [] = true
unheld v (x ∷ l) = not (eq_z v x) && unheld v l

-- The live ids of a list all differ.
abbrev pub live_differ : List ℤ → Bool
live_differ [] = true
live_differ (x ∷ l) = (not (live x) || unheld x l) && live_differ l

-- The ids of a table, those of unused slots too.
abbrev pub ids : Table → List ℤ
ids t = map id_of t

-- The live ids of a table all differ.
abbrev pub ids_differ : Table → Bool
ids_differ t = live_differ (ids t)

-- v is one of a field's good values.
abbrev pub fits : Field → ℤ → Bool
fits f v = between_z f.low f.high v

-- There is one number for each field, and each is in its range.
abbrev pub good_slot : List Field → Slot → Bool
good_slot [] [] = true
good_slot [] (v ∷ vs) = false
good_slot (f ∷ fs) [] = false
good_slot (f ∷ fs) (v ∷ vs) = fits f v && good_slot fs vs

-- What a record holds that was never used: -1, and 0 for every other field.
abbrev pub unused_slot : List Field → Slot
unused_slot [] = []
unused_slot (f ∷ fs) = minus_one ∷ map (λ g. pos 0) fs

-- Two slots hold the same numbers.
abbrev pub eq_slot : Slot → Slot → Bool
eq_slot [] [] = true
eq_slot [] (v ∷ b) = false
eq_slot (u ∷ a) [] = false
eq_slot (u ∷ a) (v ∷ b) = eq_z u v && eq_slot a b

-- Two tables hold the same slots.
abbrev pub eq_table : Table → Table → Bool
eq_table [] [] = true
eq_table [] (v ∷ b) = false
eq_table (u ∷ a) [] = false
eq_table (u ∷ a) (v ∷ b) = eq_slot u v && eq_table a b

-- One record, where n slots of the panel are left: a good slot, or past the panel's slots an unused record.
abbrev pub good_place : List Field → ℕ → Slot → Bool
good_place fs zero s = eq_slot s (unused_slot fs)
good_place fs (suc n) s = good_slot fs s

-- n good slots and then unused records; fewer than n records are not enough.
abbrev pub good_records : List Field → ℕ → Table → Bool
good_records fs zero [] = true
good_records fs (suc n) [] = false
good_records fs zero (s ∷ t) = good_place fs zero s && good_records fs zero t
good_records fs (suc n) (s ∷ t) = good_place fs (suc n) s && good_records fs n t

-- A well-formed table: as many records as are held, the panel's slots good, the others unused. Ids may repeat.
abbrev pub good_table : Panel → Table → Bool
good_table p t = eqb (length t) p.records && good_records p.fields p.slots t
