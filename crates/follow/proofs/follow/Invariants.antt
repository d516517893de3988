-- `follow::follow`: a run that begins following. The loop has read k records; what is left of the run is the whole run's answer. Assumes nothing.
use Rattle.model.specs.Reader.{following}
use Rattle.follow.specs.Seen.{reader_of}
use Rattle.follow.proofs.Kept.{Kept}
use Rattle.follow.proofs.follow.Given as goal

abbrev pub invariant-loop-k : goal.invariant-loop-k
invariant-loop-k l =
    Kept l.setup l.bytes (reader_of l.initial.shown l.initial.pending l.initial.current following) l.shown l.pending l.written l.current l.so l.from l.opened l.k
