-- The walk over a type A frame's records in one pass: what is known after each. The contracts of its steps. Assumes nothing.
use Rattle.std.specs.Prelude.{Bool, true, false, cond, not, ◌&&◌, List, [], ◌∷◌, ℕ, ◌+◌, ℤ, set}
use Rattle.model.specs.Packets as P
use Rattle.model.specs.Packets.{told, Packet, blank, is_blank, is_whole}
use Rattle.packets.specs.declared.Said.{Said}
use Rattle.packets.specs.declared.Said.TheVariants.{Skipped, X, Y, Pressure, Close, Report, Loss}
use Rattle.packets.specs.declared.Walk.{Walk}
use Rattle.packets.specs.declared.Packets.{Packets}
use Rattle.packets.specs.Seen.{packet_in}

-- The open packet, how many contacts are closed, whether nothing was wrong so far, and whether the SYN_REPORT came.
pub record Walked : Type 0 where
  pub packet : Packet
  pub count : ℕ
  pub sound : Bool
  pub ended : Bool

abbrev pub walk_of : Walk → Walked
walk_of w = record { packet = packet_in w; count = w.count; sound = w.sound; ended = w.ended }

-- A packet may be closed: none of its numbers was told, or all were.
abbrev pub closable : Packet → Bool
closable p = cond (is_blank p) true (is_whole p)

-- One word more; none may come after the SYN_REPORT.
abbrev pub step : Walked → P.Said → Walked
step w (P.number i v) = record { packet = set w.packet i (told v); count = w.count; sound = w.sound && not w.ended; ended = w.ended }
step w P.close = record {
  packet = blank;
  count = cond (is_blank w.packet) w.count (w.count + 1);
  sound = w.sound && not w.ended && closable w.packet;
  ended = w.ended;
}
step w P.report = record { packet = w.packet; count = w.count; sound = w.sound && not w.ended; ended = true }
step w P.loss = record { packet = w.packet; count = w.count; sound = false; ended = w.ended }

-- One word after the other.
abbrev pub walks : Walked → List P.Said → Walked
walks w [] = w
walks w (a ∷ l) = walks (step w a) l

-- A record that says this closes a contact.
abbrev pub closes_in : Packet → Said → Bool
closes_in p Skipped = false
closes_in p X = false
closes_in p Y = false
closes_in p Pressure = false
closes_in p Close = not (is_blank p)
closes_in p Report = false
closes_in p Loss = false

-- The answer at the end: the SYN_REPORT came, nothing was wrong, and no number is left open.
abbrev pub packets_at : Walked → List ℤ → List ℤ → List ℤ → Packets
packets_at w x y p = record { count = w.count; x = x; y = y; pressure = p; sound = w.sound && (w.ended && is_blank w.packet) }
