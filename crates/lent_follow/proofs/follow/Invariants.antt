-- `lent_follow::follow`: a run that begins following, on tables in lent bytes. The loop has read k records; what is left of the run is the whole run's answer. Assumes nothing.
use Prim.Native.Nat.{◌-◌}
use Rattle.model.specs.Reader.{following}
use Rattle.follow.specs.Seen.{reader_of}
use Rattle.lent_follow.specs.InPlace.{shown_in, pending_in}
use Rattle.lent_follow.proofs.Runs.{Runs}
use Rattle.lent_follow.proofs.follow.Given as goal

abbrev pub invariant-loop-k : goal.invariant-loop-k
invariant-loop-k l =
    Runs l.setup l.bytes (reader_of (shown_in l.initial.t) (pending_in l.initial.t) l.initial.current following) l.t l.written l.current l.so l.from l.opened l.k

abbrev pub decreases-loop-k : goal.decreases-loop-k
decreases-loop-k l = l.count - l.k
