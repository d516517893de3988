-- What the code holds of the old contacts and of the new ones as the model's. Cited by the inner promises here. Assumes nothing.
use Rattle.std.specs.Prelude.{◌≡◌, List, map, ℕ, ◌≤◌, get_or}
use Rattle.model.specs.Panel.{records}
use Rattle.model.specs.Pairing.{largest, points}
use Rattle.model.specs.Packets.{Contact}
use Rattle.model.specs.Anonymous.{contact_point, live_in, old_points}
use Rattle.common.specs.Seen.{natural}
use Rattle.panel.specs.declared.Slot.{Slot}
use Rattle.panel.specs.Seen.{table_of, blank}
use Rattle.packets.specs.declared.Packets.{Packets}
use Rattle.packets.specs.Seen.{most, contacts_from}
use Rattle.pairing.specs.Cells.{Near}
use Rattle.anonymous.specs.declared.Olds.{Olds}

-- ---- the old contacts

-- No slot's x or y is above the largest of any panel.
abbrev pub Within : List Slot → Type 0
Within t = (j : ℕ) → ((get_or t j blank).x ≤ largest) × ((get_or t j blank).y ≤ largest)

-- A table's live records and its contacts, by rising slot.
pub record OldsOf (t : List Slot) (o : Olds) : Type 0 where
  pub live : o.live ≡ live_in (table_of t)
  pub points : points o.count 0 o.x o.y ≡ old_points (table_of t)
  pub few : o.count ≤ records
  pub near_x : Near o.x
  pub near_y : Near o.y

-- ---- the new ones

-- The contacts of an answer that holds all of them.
abbrev pub contacts_in : Packets → List Contact
contacts_in p = contacts_from p.count 0 p.x p.y p.pressure

-- All its places, those without a contact too.
abbrev pub places : Packets → List Contact
places p = contacts_from most 0 p.x p.y p.pressure

-- They were judged: none is too many, and their points are what is held of x and y.
pub record Judged (p : Packets) : Type 0 where
  pub few : p.count ≤ most
  pub near_x : Near (map natural p.x)
  pub near_y : Near (map natural p.y)
  pub points : points p.count 0 (map natural p.x) (map natural p.y) ≡ map contact_point (contacts_in p)
