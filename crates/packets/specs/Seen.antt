-- What the code holds of a type A frame as the model's. Cited by the contracts here and by the crates above. Assumes nothing.
use Rattle.std.specs.Prelude.{cond, List, [], ◌∷◌, map, ℕ, zero, suc, ◌+◌, ℤ, pos, length, get_or}
use Rattle.model.specs.Records.{signed_of}
use Rattle.model.specs.Packets as P
use Rattle.model.specs.Packets.{Told, lacking, told, Packet, Contact}
use Rattle.packets.specs.declared.Said.{Said}
use Rattle.packets.specs.declared.Said.TheVariants.{Skipped, X, Y, Pressure, Close, Report, Loss}
use Rattle.packets.specs.declared.Number.{Number}
use Rattle.packets.specs.declared.Walk.{Walk}
use Rattle.packets.specs.declared.Packets.{Packets}

-- ---- a record

-- What a record says whose value this is.
abbrev pub said_by : Said → ℤ → List P.Said
said_by Skipped v = []
said_by X v = P.number 0 v ∷ []
said_by Y v = P.number 1 v ∷ []
said_by Pressure v = P.number 2 v ∷ []
said_by Close v = P.close ∷ []
said_by Report v = P.report ∷ []
said_by Loss v = P.loss ∷ []

-- ---- a packet

-- A number, if it was told.
abbrev pub told_by : Number → Told
told_by n = cond n.told (told (signed_of n.bits)) lacking

-- A packet of three.
abbrev pub packet_by : Number → Number → Number → Packet
packet_by x y p = told_by x ∷ told_by y ∷ told_by p ∷ []

-- The open packet.
abbrev pub packet_in : Walk → Packet
packet_in w = packet_by w.x w.y w.pressure

-- ---- the contacts

-- How many contacts an answer holds.
abbrev pub most : ℕ
most = 5

-- The first k of a list, with zeros behind them where there are fewer.
abbrev pub padded : ℕ → List ℤ → List ℤ
padded zero l = []
padded (suc k) [] = pos 0 ∷ padded k []
padded (suc k) (v ∷ l) = v ∷ padded k l

-- Number i of each contact: x is 0, y is 1, the pressure is 2.
abbrev pub column : ℕ → List Contact → List ℤ
column i cs = map (λ c. get_or c i (pos 0)) cs

-- What the code answers for what a frame tells: all contacts are counted, and the first five are held.
abbrev pub packets_from : P.Packets → Packets
packets_from p = record {
  count = length p.contacts;
  x = padded most (column 0 p.contacts);
  y = padded most (column 1 p.contacts);
  pressure = padded most (column 2 p.contacts);
  sound = p.sound;
}

-- The contact at a place of three columns.
abbrev pub contact_at : ℕ → List ℤ → List ℤ → List ℤ → Contact
contact_at i xs ys ps = get_or xs i (pos 0) ∷ get_or ys i (pos 0) ∷ get_or ps i (pos 0) ∷ []

-- So many of them from a place on.
abbrev pub contacts_from : ℕ → ℕ → List ℤ → List ℤ → List ℤ → List Contact
contacts_from zero i xs ys ps = []
contacts_from (suc n) i xs ys ps = contact_at i xs ys ps ∷ contacts_from n (i + 1) xs ys ps
