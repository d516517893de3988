-- `common::last_mode`: the mode after the records that are left. The loop has passed i records. Assumes nothing.
use borrow.Author.Rules.{rules}
use mathlib.Core.Path.{sym, ap, ◌∙◌}
use Prim.Native.Nat.{◌+◌, ◌-◌, ◌*◌, ◌/◌}
use lib.ListN.{length}
use Rattle.model.specs.Records.{events_from}
use Rattle.common.specs.Lost.{on_lost, heard, last_mode}
use Rattle.common.proofs.Lost.{last-next, last_end}
use Rattle.common.specs.Seen.{mode_of}
use Rattle.common.proofs.last_mode.Goals as goal

pub loop-i-preserved : goal.loop-i-preserved
loop-i-preserved c =
    let l = c.loop-i in
    let s = c.args.bytes.now in
    l.invariant
    ∙ last-next (mode_of l.mode) s (length s / 8) l.i (search rules)
    ∙ ap (λ m. last_mode m (events_from (length s / 8 - (l.i + 1)) s (8 * (l.i + 1)))) (ap (λ e. on_lost (mode_of l.mode) (heard e)) (sym c.record_at.ensures) ∙ sym c.lost_step-mode.ensures)

pub returns : goal.returns
returns c =
    let l = c.loop-i in
    let s = c.args.bytes.now in
    sym (l.invariant ∙ last_end (mode_of l.mode) s (length s / 8) l.i (search rules))
