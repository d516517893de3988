-- What the writer puts into the buffer, slot by slot. Cited by the contracts here and by the writer. Assumes nothing.
use Rattle.std.specs.Prelude.{◌≡◌, Bool, true, false, List, [], ◌∷◌, ◌++◌, map, ℕ, ◌+◌, eqb, length, get_or}
use Rattle.model.specs.Panel.{field_codes, records}
use Rattle.model.specs.Records.{bits_of, record_bytes, bytes_of, lay}
use Rattle.model.specs.Sending as M
use Rattle.model.specs.Sending.{send_slot, changes, event_of}
use Rattle.model.specs.Order.{of_mask}
use Rattle.panel.specs.declared.Slot.{Slot}
use Rattle.panel.specs.Seen.{slot_of, fields_of, blank}
use Rattle.send.specs.declared.Change.{Change}
use Rattle.send.specs.declared.Reached.{Reached}

-- The codes of a slot's fields, which are those of every setup.
abbrev pub codes : List ℕ
codes = field_codes (fields_of (record { n = 0; x = 0; y = 0; pressure = 0; major = 0; minor = 0 }))

-- The bytes of what is sent.
unfoldable pub bytes_sent : List M.Sent → List ℕ
bytes_sent xs = bytes_of (map (event_of codes) xs)

-- Nothing, where a test passes.
abbrev pub none_if : Bool → List ℕ → List ℕ
none_if true l = []
none_if false l = l

-- A number's record by its type, unless the number is the same.
abbrev pub told_bytes : ℕ → ℕ → ℕ → ℕ → List ℕ
told_bytes type code old new = none_if (eqb old new) (record_bytes type code new)

-- A slot's number; an id is given by its bits.
abbrev pub number_bytes : ℕ → ℕ → ℕ → List ℕ
number_bytes code old new = told_bytes 3 code old new

-- The record of a change.
abbrev pub change_bytes : Change → List ℕ
change_bytes c = told_bytes c.kind c.code c.old c.new

-- The records of a slot's changed id, x and y, and of its changed pressure and sizes.
abbrev pub contact_bytes : Slot → Slot → List ℕ
contact_bytes o v =
    number_bytes 0x39 (bits_of o.id.0) (bits_of v.id.0)
    ++ (number_bytes 0x35 o.x v.x ++ number_bytes 0x36 o.y v.y)

abbrev pub rest_bytes : Slot → Slot → List ℕ
rest_bytes o v =
    number_bytes 0x3a o.pressure v.pressure
    ++ (number_bytes 0x30 o.major v.major ++ number_bytes 0x31 o.minor v.minor)

-- Slot j's changes, opened by its number.
abbrev pub opened_at : List Slot → List Slot → ℕ → List M.Sent
opened_at old new j = send_slot j ∷ changes 0 (slot_of (get_or old j blank)) (slot_of (get_or new j blank))

-- The current slot's changes, and then those of the slots that a number names.
abbrev pub sent_by : List Slot → List Slot → ℕ → ℕ → List M.Sent
sent_by old new m c = changes 0 (slot_of (get_or old c blank)) (slot_of (get_or new c blank)) ++ of_mask records m (opened_at old new)

-- What r says of a frame's contact events, laid over a buffer from a position on: where they end, and the slot last written.
pub record Reaches (at : ℕ) (old new : List Slot) (m c : ℕ) (before : List ℕ) (r : Reached) (after : List ℕ) : Type 0 where
  pub ends : r.end ≡ at + length (bytes_sent (sent_by old new m c))
  pub last : r.last.0 ≡ M.last_opened c (sent_by old new m c)
  pub bytes : after ≡ lay at (bytes_sent (sent_by old new m c)) before
