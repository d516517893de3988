-- A frame: what becomes of each slot, which ids are given, the new table and the new counter. Assumes nothing.
use Rattle.std.specs.Prelude.{Bool, true, false, cond, ◌&&◌, ◌||◌, List, [], ◌∷◌, ◌++◌, ℕ, zero, suc, ◌+◌, ◌*◌, ◌%◌, eqb, ℤ, pos, length, get_or}
use Rattle.std.specs.Int.Signed.{le_z}
use Rattle.model.specs.Numbers.{eq_z, minus_one}
use Rattle.model.specs.Panel.{Field, Panel, id_count, last_id}
use Rattle.model.specs.Table.{Slot, Table, id_of, numbers_of, live, unheld, ids, fits}

-- ---- flat runs of numbers, read k at a time

-- k numbers of a flat list, from a position on; numbers past the end count as 0.
abbrev pub numbers_from : ℕ → List ℤ → ℕ → List ℤ
numbers_from zero l at = []
numbers_from (suc k) l at = get_or l at (pos 0) ∷ numbers_from k l (at + 1)

-- n rows of k numbers each, from a position on.
unfoldable pub rows_from : ℕ → ℕ → List ℤ → ℕ → List (List ℤ)
rows_from k zero l at = []
rows_from k (suc n) l at = numbers_from k l at ∷ rows_from k n l (at + k)

-- A panel's rows: one for each slot, with as many numbers as a slot has fields.
abbrev pub rows_of : Panel → List ℤ → List (List ℤ)
rows_of p l = rows_from (length p.fields) p.slots l 0

-- The list has as many numbers as the panel's rows.
abbrev pub sized : Panel → List ℤ → Bool
sized p l = eqb (length l) (length p.fields * p.slots)

-- ---- one slot's row: kind, and then the numbers of the axes

-- A row's kind; an empty row has none of the three.
abbrev pub kind_of : List ℤ → ℤ
kind_of g = id_of g

-- A frame may give a contact the value v: it fits the field, and is not below the field's least.
abbrev pub given : Field → ℤ → Bool
given f v = fits f v && le_z f.least v

-- There is one number for each field, and a frame may give each.
abbrev pub good_contact : List Field → List ℤ → Bool
good_contact [] [] = true
good_contact [] (v ∷ vs) = false
good_contact (f ∷ fs) [] = false
good_contact (f ∷ fs) (v ∷ vs) = given f v && good_contact fs vs

-- Kind 0, whose numbers are not judged, or kind 1 or 2 with a good contact's numbers: the fields are those after the id.
abbrev pub good_row : List Field → List ℤ → Bool
good_row axes g = eq_z (kind_of g) (pos 0) || ((eq_z (kind_of g) (pos 1) || eq_z (kind_of g) (pos 2)) && good_contact axes (numbers_of g))

-- All rows are good.
abbrev pub good_rows : List Field → List (List ℤ) → Bool
good_rows axes [] = true
good_rows axes (g ∷ fr) = good_row axes g && good_rows axes fr

-- The fields after the tracking id.
abbrev pub axes_of : List Field → List Field
axes_of [] = []
axes_of (f ∷ fs) = fs

-- All kinds and numbers of a frame are good.
abbrev pub values_good : Panel → List ℤ → Bool
values_good p l = good_rows (axes_of p.fields) (rows_of p l)

-- What a row does to its slot: no contact is there, the contact goes on, or one begins.
pub data Fate : Type 0 where
  none goes_on begins : Fate

-- Kind 0: none. Kind 2: one begins. Kind 1: it goes on, or begins if the slot was unused.
abbrev pub fate : ℤ → ℤ → Fate
fate kind id = cond (eq_z kind (pos 0)) none (cond (eq_z kind (pos 2)) begins (cond (live id) goes_on begins))

-- ---- ids

-- A number plus one, wrapped from 65,535 to 0.
abbrev pub next : ℕ → ℕ
next k = (k + 1) % id_count

-- The first of k, k + 1, .. that is not taken, in m steps at most; the last number that they reach is not tried.
abbrev pub pick : ℕ → List ℤ → ℕ → ℕ
pick zero taken k = k
pick (suc m) taken k = let r = pick m taken (next k) in cond (unheld (pos k) taken) k r

-- The id that a beginning contact takes: the first number from k on, wrapping, that is not taken. All 65,536 are within reach.
unfoldable pub free_id : List ℤ → ℕ → ℕ
free_id taken k = pick last_id taken k

-- ---- the table that a frame makes

-- A slot after its row, where j is the id that a beginning contact takes: without a contact the other numbers stay.
abbrev pub slot_after : Fate → ℕ → Slot → List ℤ → Slot
slot_after none j s vs = minus_one ∷ numbers_of s
slot_after goes_on j s vs = id_of s ∷ vs
slot_after begins j s vs = pos j ∷ vs

-- The taken ids after a slot: a given one is taken for the rest of the frame.
abbrev pub taken_after : Fate → ℕ → List ℤ → List ℤ
taken_after none j taken = taken
taken_after goes_on j taken = taken
taken_after begins j taken = pos j ∷ taken

-- The counter after a slot: the given id plus one, wrapped.
abbrev pub counter_after : Fate → ℕ → ℕ → ℕ
counter_after none j k = k
counter_after goes_on j k = k
counter_after begins j k = next j

-- What a frame plans: a table and a counter.
pub record Planned : Type 0 where
  pub table : Table
  pub counter : ℕ

-- The same, with slots in front of the table.
abbrev pub after : Table → Planned → Planned
after front p = record { table = front ++ p.table; counter = p.counter }

-- The table and the counter after the rows, in rising slot order, where `taken` are the ids taken so far and k is the counter; records without a row stay.
abbrev pub planned : List ℤ → ℕ → List (List ℤ) → Table → Planned
planned taken k [] t = record { table = t; counter = k }
planned taken k (g ∷ fr) [] = record { table = []; counter = k }
planned taken k (g ∷ fr) (s ∷ t) =
    let f = fate (kind_of g) (id_of s) in
    let j = free_id taken k in
    after (slot_after f j s (numbers_of g) ∷ []) (planned (taken_after f j taken) (counter_after f j k) fr t)

-- What a frame makes of a table and a counter: every id of the old table is taken, an ending or replaced one too.
abbrev pub framed : ℕ → List (List ℤ) → Table → Planned
framed k fr old = planned (ids old) k fr old

-- The new table.
abbrev pub new_table : ℕ → List (List ℤ) → Table → Table
new_table k fr old = (framed k fr old).table

-- The new counter.
abbrev pub new_counter : ℕ → List (List ℤ) → Table → ℕ
new_counter k fr old = (framed k fr old).counter
