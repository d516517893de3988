-- What makes a reader lose track: document 01's three reasons, as tests of an event. Cited by the theorems on a reported loss. Assumes nothing.
use Rattle.std.specs.Prelude.{Bool, false, not, ◌&&◌, ◌||◌, List, [], ◌∷◌, ℕ, eqb, ltb, ℤ, pos, negsuc}
use Rattle.model.specs.Panel.{Field, Panel, slot_code}
use Rattle.model.specs.Table.{Table, ids_differ, fits}
use Rattle.model.specs.Events.{Event}

-- SYN_DROPPED, with any value.
abbrev pub is_dropped : Event → Bool
is_dropped e = eqb e.type 0 && eqb e.code 3

-- SYN_REPORT, with any value.
abbrev pub is_report : Event → Bool
is_report e = eqb e.type 0 && eqb e.code 0

-- A good value of ABS_MT_SLOT is 0 to n - 1.
abbrev pub slot_fits : ℕ → ℤ → Bool
slot_fits n (pos k) = ltb k n
slot_fits n (negsuc k) = false

-- One of the fields has the code, and the value is outside its range.
abbrev pub bad_number : List Field → ℕ → ℤ → Bool
bad_number [] c v = false
bad_number (f ∷ fs) c v = (eqb c f.code && not (fits f v)) || bad_number fs c v

-- A listed code with a bad value.
abbrev pub bad_value : Panel → Event → Bool
bad_value p e = eqb e.type 3 && ((eqb e.code slot_code && not (slot_fits p.slots e.value)) || bad_number p.fields e.code e.value)

-- The event takes a following reader off the track: SYN_DROPPED, a listed code with a bad value, or a report that finds repeated live ids pending.
abbrev pub loses_track : Panel → Table → Event → Bool
loses_track p pending e = is_dropped e || (bad_value p e || (is_report e && not (ids_differ pending)))
