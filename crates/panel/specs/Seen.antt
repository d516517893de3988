-- The code's slots, tables and setups as the model's, and back. Every code crate's contracts go through it. Assumes nothing.
use Rattle.std.specs.Prelude.{◌≡◌, List, [], ◌∷◌, map, ℕ, ℤ, pos, get_or, drop, replicate}
use Rattle.model.specs.Panel.{records}
use Rattle.model.specs.Numbers.{minus_one}
use Rattle.model.specs.Panel as P
use Rattle.model.specs.Table as T
use Rattle.model.specs.Frame as F
use Rattle.common.specs.Seen.{natural}
use Rattle.panel.specs.declared.Slot.{Slot}
use Rattle.panel.specs.declared.Setup.{Setup}
use Rattle.panel.specs.declared.Row.{Row}

-- ---- slots and tables

-- A slot's numbers, the id first.
abbrev pub slot_of : Slot → T.Slot
slot_of s = s.id.0 ∷ pos s.x ∷ pos s.y ∷ pos s.pressure ∷ pos s.major ∷ pos s.minor ∷ []

-- All records of a table.
abbrev pub table_of : List Slot → T.Table
table_of t = map slot_of t

-- The slot that holds these numbers; a number that is missing counts as 0, a missing id as unused.
abbrev pub slot_from : T.Slot → Slot
slot_from s = record {
  id = record { 0 = T.id_of s };
  x = natural (get_or s 1 (pos 0));
  y = natural (get_or s 2 (pos 0));
  pressure = natural (get_or s 3 (pos 0));
  major = natural (get_or s 4 (pos 0));
  minor = natural (get_or s 5 (pos 0));
}

-- The table of such slots.
abbrev pub table_from : T.Table → List Slot
table_from t = map slot_from t

-- What stands for a slot past an array's end.
abbrev pub blank : Slot
blank = record { id = record { 0 = pos 0 }; x = 0; y = 0; pressure = 0; major = 0; minor = 0 }

-- A record that was never used.
abbrev pub unused : Slot
unused = record { id = record { 0 = minus_one }; x = 0; y = 0; pressure = 0; major = 0; minor = 0 }

-- As many of them as a table holds.
abbrev pub unused_all : List Slot
unused_all = replicate records unused

-- Two tables hold the same from record n up. With an unused table on one side: the other was never used there.
abbrev pub SameFrom : ℕ → List Slot → List Slot → Type 0
SameFrom n a b = table_of (drop n a) ≡ table_of (drop n b)

-- As many records of zeros.
abbrev pub zeros : List Slot
zeros = replicate records blank

-- ---- rows

-- A row's numbers, the kind or the id first.
abbrev pub row_of : Row → List ℤ
row_of r = r.first ∷ r.x ∷ r.y ∷ r.pressure ∷ r.major ∷ r.minor ∷ []

-- ---- setups

-- A setup's numbers.
abbrev pub setup_of : Setup → P.Setup
setup_of u = record { slots = u.n; largest = u.x ∷ u.y ∷ u.pressure ∷ u.major ∷ u.minor ∷ [] }

-- The setup of such numbers; a largest value that is missing counts as 0.
abbrev pub setup_from : P.Setup → Setup
setup_from u = record {
  n = u.slots;
  x = get_or u.largest 0 0;
  y = get_or u.largest 1 0;
  pressure = get_or u.largest 2 0;
  major = get_or u.largest 3 0;
  minor = get_or u.largest 4 0;
}

-- The panel of a setup, in the product's layout.
abbrev pub panel_seen : Setup → P.Panel
panel_seen u = P.panel_of P.base (setup_of u)

-- A slot's fields: id, x, y, pressure and both sizes.
abbrev pub fields_of : Setup → List P.Field
fields_of u = (panel_seen u).fields

-- The fields after the id.
abbrev pub axes_of : Setup → List P.Field
axes_of u = F.axes_of (fields_of u)
