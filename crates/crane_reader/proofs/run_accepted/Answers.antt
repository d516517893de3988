-- `crane_reader::run_accepted`: a run of a well-formed state, by its mode. Assumes nothing.
use mathlib.Core.Path.{ap, ◌∙◌}
use mathlib.Core.List.{List}
use Prim.Native.Nat.{ℕ, ◌-◌, ◌*◌, ◌/◌}
use lib.ListN.{length}
use Rattle.model.specs.Events.{Event}
use Rattle.model.specs.Records.{events_from}
use Rattle.model.specs.Reader as R
use Rattle.common.specs.declared.Mode.TheVariants.{Dropped, Stale}
use Rattle.common.specs.Seen.{counts_of}
use Rattle.common.proofs.Back.{none_counted}
use Rattle.crane_follow.specs.Runs.{ended_from, lost_at}
use Rattle.crane_reader.specs.States.{accepted}
use Rattle.crane_reader.proofs.States.{good-setup, good-current, good-rest, follow-run, lost_run}
use Rattle.crane_reader.proofs.run_accepted.Goals as goal

-- All the records of a slice, as a run that lost track begins.
abbrev left : List ℕ → List Event
left bs = events_from (length bs / 8 - 0) bs (8 * 0)

pub follow-requires : goal.follow-requires
follow-requires c =
    let e = c in
    (good-setup e.args.state e.requires, good-current e.args.state e.requires, good-rest e.args.state e.requires)

pub returns-in-Following : goal.returns-in-Following
returns-in-Following c =
    let e = c in
    let s = e.args.state in
    let run = follow-run s e.args.bytes.now c.in-Following.is in
    c.ran.ensures ∙ ap (accepted s.setup) (c.follow.ensures ∙ ap ended_from run)

pub returns-in-Dropped : goal.returns-in-Dropped
returns-in-Dropped c =
    let e = c in
    let s = e.args.state in
    let run = lost_run s e.args.bytes.now Dropped e.requires c.in-Dropped.is tt in
    let zeros = ap (λ a. lost_at s.shown s.current R.dropped (counts_of a) (left e.args.bytes.now)) (none_counted _ c.default.ensures) in
    c.ran-in-Dropped.ensures ∙ ap (accepted s.setup) (c.lost.ensures ∙ zeros ∙ run)

pub returns-in-Stale : goal.returns-in-Stale
returns-in-Stale c =
    let e = c in
    let s = e.args.state in
    let run = lost_run s e.args.bytes.now Stale e.requires c.in-Stale.is tt in
    let zeros = ap (λ a. lost_at s.shown s.current R.stale (counts_of a) (left e.args.bytes.now)) (none_counted _ c.default-in-Stale.ensures) in
    c.ran-in-Stale.ensures ∙ ap (accepted s.setup) (c.lost-in-Stale.ensures ∙ zeros ∙ run)
