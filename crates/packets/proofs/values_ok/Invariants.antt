-- `packets::values_ok`: whether a panel takes the contacts. The loop has judged i of them. Assumes nothing.
use mathlib.Core.Path.{◌≡◌}
use Prim.Native.Nat.{◌-◌, ◌≤◌}
use Rattle.model.specs.Packets.{contacts_good}
use Rattle.panel.specs.Seen.{panel_seen}
use Rattle.packets.specs.Seen.{contacts_from}
use Rattle.packets.proofs.values_ok.Given as goal

abbrev pub invariant-loop-i : goal.invariant-loop-i
invariant-loop-i l =
    (l.i ≤ l.count) × (contacts_good (panel_seen l.setup) (contacts_from l.count 0 l.x l.y l.pressure) ≡ contacts_good (panel_seen l.setup) (contacts_from (l.count - l.i) l.i l.x l.y l.pressure))
