-- `common::last_mode`: the mode after the records that are left. The loop has passed i records. Assumes nothing.
use mathlib.Core.Path.{◌≡◌}
use Prim.Native.Nat.{◌-◌, ◌*◌}
use Rattle.model.specs.Records.{events_from}
use Rattle.common.specs.Lost.{last_mode}
use Rattle.common.specs.Seen.{mode_of}
use Rattle.common.proofs.last_mode.Given as goal

abbrev pub invariant-loop-i : goal.invariant-loop-i
invariant-loop-i l = last_mode (mode_of l.initial.mode) (events_from (l.count - l.initial.i) l.bytes (8 * l.initial.i)) ≡ last_mode (mode_of l.mode) (events_from (l.count - l.i) l.bytes (8 * l.i))
