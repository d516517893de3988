-- `crane_follow::follow`: a run that begins following. The loop has read k records; what is left of the run is the whole run's answer. Assumes nothing.
use mathlib.Core.Path.{◌≡◌}
use mathlib.Core.Bool.{Bool}
use mathlib.Core.List.{List}
use Prim.Native.Nat.{ℕ, ◌+◌, ◌-◌, ◌*◌, ◌≤◌, ◌<◌}
use lib.ListN.{length}
use Rattle.model.specs.Panel.{crane_records}
use Rattle.model.specs.Reader as R
use Rattle.model.specs.Reader.{following, nothing}
use Rattle.model.specs.Records.{events_from}
use Rattle.crane_panel.specs.declared.Setup.{Setup}
use Rattle.crane_panel.specs.declared.Slot.{Slot}
use Rattle.crane_panel.specs.Seen.{slot_of, panel_seen, blank, unused}
use Rattle.crane_follow.specs.Seen.{reader_of}
use Rattle.common.specs.Runs.{onward, FirstWithin, first_at}
use Rattle.common.proofs.Turns.{Pending, sofar}
use Rattle.crane_follow.proofs.follow.Given as goal

-- What the loop keeps: what is left of the run is the whole run's answer.
pub record Kept
    (setup : Setup)
    (bytes : List ℕ)
    (count : ℕ)
    (start now : R.Reader)
    (pending : List Slot)
    (written : Bool)
    (so : R.Counts)
    (first k : ℕ)
    : Type 0 where
  pub inside : k ≤ count
  pub below : now.current < setup.n
  pub few : so.shown + so.types + so.codes ≤ k
  pub pends : Pending slot_of blank unused crane_records setup.n written pending
  pub left :
      onward (panel_seen setup) start nothing (events_from count bytes 0)
      ≡ onward (panel_seen setup) now so (events_from (count - k) bytes (8 * k))
  pub slots : setup.n ≤ crane_records
  pub there : FirstWithin (so.types + so.codes) first (length bytes)

abbrev pub invariant-loop-k : goal.invariant-loop-k
invariant-loop-k l =
    let so = sofar l.frames l.types l.codes (first_at l.bytes (l.types + l.codes) l.first) in
    Kept l.setup l.bytes l.count (reader_of l.initial.shown l.initial.pending l.initial.current following) (reader_of l.shown l.pending l.current following) l.pending l.written so l.first l.k
