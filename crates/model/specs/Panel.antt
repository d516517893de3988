-- A panel: its setup, the ranges of the setup's numbers, and the fields of a slot record. Assumes nothing.
-- One layout carries the product, and one the cranes' reader: another list of axes or number of records is another layout.
use Rattle.std.specs.Prelude.{Bool, true, false, not, ◌&&◌, List, [], ◌∷◌, map, ℕ, ◌+◌, eqb, ltb, ℤ, pos, negsuc}
use Rattle.model.specs.Numbers.{minus_one, between, between_z}

-- A number of a slot besides its tracking id: its event code, the most that a setup may give as its largest value, and the least that a frame may give it.
pub record Axis : Type 0 where
  pub code : ℕ
  pub most : ℕ
  pub least : ℕ

-- What all panels of one program share: how many slot records a table holds, and the axes in the order of sending.
pub record Layout : Type 0 where
  pub records : ℕ
  pub axes : List Axis

-- A panel's setup: the number of its slots, and a largest value for each axis.
pub record Setup : Type 0 where
  pub slots : ℕ
  pub largest : List ℕ

-- There is one largest value for each axis, and each is 1 to the axis's most.
abbrev pub largest_good : List Axis → List ℕ → Bool
largest_good [] [] = true
largest_good [] (v ∷ vs) = false
largest_good (a ∷ rest) [] = false
largest_good (a ∷ rest) (v ∷ vs) = between 1 a.most v && largest_good rest vs

-- The setup's numbers are in their ranges: 1 slot to as many as there are records, and good largest values.
abbrev pub setup_good : Layout → Setup → Bool
setup_good l u = between 1 l.records u.slots && largest_good l.axes u.largest

-- A number of a slot record: the code of its event, its lowest and highest value, and the least that a frame may give it.
pub record Field : Type 0 where
  pub code : ℕ
  pub low : ℤ
  pub high : ℤ
  pub least : ℤ

-- What the machines know of a panel: its slots, the records that a table holds, and a slot's fields.
pub record Panel : Type 0 where
  pub slots : ℕ
  pub records : ℕ
  pub fields : List Field

-- The last tracking id, and how many there are from 0 on.
abbrev pub last_id : ℕ
last_id = 65_535

abbrev pub id_count : ℕ
id_count = 65_536

-- ABS_MT_TRACKING_ID, -1 for unused, else 0 to the last id; a frame gives no ids, so its least is its lowest.
abbrev pub id_field : Field
id_field = record { code = 0x39; low = minus_one; high = pos last_id; least = minus_one }

-- The fields of the axes, each 0 to its largest value, from its least in a frame; an axis or a largest value that has no partner gives none.
abbrev pub axis_fields : List Axis → List ℕ → List Field
axis_fields [] vs = []
axis_fields (a ∷ rest) [] = []
axis_fields (a ∷ rest) (v ∷ vs) = record { code = a.code; low = pos 0; high = pos v; least = pos a.least } ∷ axis_fields rest vs

-- The panel of a setup: the tracking id is the first field.
abbrev pub panel_of : Layout → Setup → Panel
panel_of l u = record { slots = u.slots; records = l.records; fields = id_field ∷ axis_fields l.axes u.largest }

-- ABS_MT_SLOT.
abbrev pub slot_code : ℕ
slot_code = 0x2f

-- c is none of the codes.
abbrev pub unlisted : ℕ → List ℕ → Bool
unlisted c [] = true
unlisted c (d ∷ codes) = not (eqb d c) && unlisted c codes

-- The codes all differ.
abbrev pub codes_differ : List ℕ → Bool
codes_differ [] = true
codes_differ (c ∷ codes) = unlisted c codes && codes_differ codes

-- A record of eight bytes can carry the field's code and every value of it.
abbrev pub carried : Field → Bool
carried f = ltb f.code 65_536 && between_z (negsuc 2_147_483_647) (pos 2_147_483_647) f.low && between_z (negsuc 2_147_483_647) (pos 2_147_483_647) f.high

-- So it is for all of them.
abbrev pub all_carried : List Field → Bool
all_carried [] = true
all_carried (f ∷ fs) = carried f && all_carried fs

-- The codes of fields.
abbrev pub field_codes : List Field → List ℕ
field_codes fs = map (λ (f : Field). f.code) fs

-- Events can tell the panel's fields and slots apart and carry their values.
abbrev pub tellable : Panel → Bool
tellable p = ltb p.slots 2_147_483_648 && codes_differ (slot_code ∷ field_codes p.fields) && all_carried p.fields

-- Every axis has a code of 16 bits, and a most that fits 31 bits.
abbrev pub axes_carried : List Axis → Bool
axes_carried [] = true
axes_carried (a ∷ rest) = ltb a.code 65_536 && ltb a.most 2_147_483_648 && axes_carried rest

-- The codes of axes.
abbrev pub axis_codes : List Axis → List ℕ
axis_codes axes = map (λ (a : Axis). a.code) axes

-- Twice the records are fewer than there are ids, the codes all differ, and events can carry them.
abbrev pub good_layout : Layout → Bool
good_layout l = ltb (l.records + l.records) id_count && codes_differ (slot_code ∷ id_field.code ∷ axis_codes l.axes) && axes_carried l.axes

-- How many slot records a table of the product's layout holds: a panel has so many slots at most (K7).
abbrev pub records : ℕ
records = 32

-- How many numbers a slot has in it: id, x, y, pressure, and the contact's larger and smaller size.
abbrev pub per_slot : ℕ
per_slot = 6

-- ABS_MT_POSITION_X and _Y, up to 32,767.
abbrev pub x_axis : Axis
x_axis = record { code = 0x35; most = 32_767; least = 0 }

abbrev pub y_axis : Axis
y_axis = record { code = 0x36; most = 32_767; least = 0 }

-- ABS_MT_PRESSURE, up to 255: a frame's contact presses with 1 or more (K8), a table may hold 0.
abbrev pub pressure_axis : Axis
pressure_axis = record { code = 0x3a; most = 255; least = 1 }

-- ABS_MT_TOUCH_MAJOR and _MINOR, a contact's size, up to 255 (K1).
abbrev pub major_axis : Axis
major_axis = record { code = 0x30; most = 255; least = 0 }

abbrev pub minor_axis : Axis
minor_axis = record { code = 0x31; most = 255; least = 0 }

-- The product's layout: 32 records of an id, x, y, pressure and both sizes.
abbrev pub base : Layout
base = record { records = records; axes = x_axis ∷ y_axis ∷ pressure_axis ∷ major_axis ∷ minor_axis ∷ [] }

-- How many slot records a table of the cranes' reader holds, and how many numbers a slot has in it.
abbrev pub crane_records : ℕ
crane_records = 16

abbrev pub crane_per_slot : ℕ
crane_per_slot = 4

-- The cranes' layout, document 01's for good: sixteen records of an id, x, y and pressure.
abbrev pub crane : Layout
crane = record { records = crane_records; axes = x_axis ∷ y_axis ∷ pressure_axis ∷ [] }
