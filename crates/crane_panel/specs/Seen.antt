-- The cranes' slots, tables and setups as the model's, and back. The contracts of the cranes' crates go through it. Assumes nothing.
use Rattle.std.specs.Prelude.{◌≡◌, List, [], ◌∷◌, map, ℕ, pos, get_or, drop, replicate}
use Rattle.model.specs.Panel.{crane_records}
use Rattle.model.specs.Numbers.{minus_one}
use Rattle.model.specs.Panel as P
use Rattle.model.specs.Table as T
use Rattle.model.specs.Frame as F
use Rattle.common.specs.Seen.{natural}
use Rattle.crane_panel.specs.declared.Slot.{Slot}
use Rattle.crane_panel.specs.declared.Setup.{Setup}

-- ---- slots and tables

-- A slot's four numbers, the id first.
abbrev pub slot_of : Slot → T.Slot
slot_of s = s.id.0 ∷ pos s.x ∷ pos s.y ∷ pos s.pressure ∷ []

-- All records of a table.
abbrev pub table_of : List Slot → T.Table
table_of t = map slot_of t

-- The slot that holds four numbers; a number that is missing counts as 0, a missing id as unused.
abbrev pub slot_from : T.Slot → Slot
slot_from s = record { id = record { 0 = T.id_of s }; x = natural (get_or s 1 (pos 0)); y = natural (get_or s 2 (pos 0)); pressure = natural (get_or s 3 (pos 0)) }

-- The table of such slots.
abbrev pub table_from : T.Table → List Slot
table_from t = map slot_from t

-- What stands for a slot past an array's end.
abbrev pub blank : Slot
blank = record { id = record { 0 = pos 0 }; x = 0; y = 0; pressure = 0 }

-- A record that was never used.
abbrev pub unused : Slot
unused = record { id = record { 0 = minus_one }; x = 0; y = 0; pressure = 0 }

-- Sixteen of them.
abbrev pub unused_all : List Slot
unused_all = replicate crane_records unused

-- Two tables hold the same from record n up. With an unused table on one side: the other was never used there.
abbrev pub SameFrom : ℕ → List Slot → List Slot → Type 0
SameFrom n a b = table_of (drop n a) ≡ table_of (drop n b)

-- Sixteen records of zeros.
abbrev pub zeros : List Slot
zeros = replicate crane_records blank

-- ---- setups

-- A setup's numbers.
abbrev pub setup_of : Setup → P.Setup
setup_of u = record { slots = u.n; largest = u.x ∷ u.y ∷ u.pressure ∷ [] }

-- The setup of such numbers; a largest value that is missing counts as 0.
abbrev pub setup_from : P.Setup → Setup
setup_from u = record { n = u.slots; x = get_or u.largest 0 0; y = get_or u.largest 1 0; pressure = get_or u.largest 2 0 }

-- The panel of a setup, in the cranes' layout.
abbrev pub panel_seen : Setup → P.Panel
panel_seen u = P.panel_of P.crane (setup_of u)

-- A slot's fields: id, x, y and pressure.
abbrev pub fields_of : Setup → List P.Field
fields_of u = (panel_seen u).fields

-- The fields after the id.
abbrev pub axes_of : Setup → List P.Field
axes_of u = F.axes_of (fields_of u)
