-- `lent_follow::lost`: the end of a run that lost track. Assumes nothing.
use mathlib.Core.Path.{sym, ap, ◌∙◌}
use Prim.Native.Nat.{◌-◌, ◌*◌, ◌/◌}
use lib.ListN.{length}
use Rattle.model.proofs.Bytes.{events-length}
use Rattle.common.specs.Seen.{mode_from}
use Rattle.common.proofs.Back.{mode_back, skipped_back}
use Rattle.lent_follow.proofs.lost.Goals as goal

pub returns : goal.returns
returns c =
    let a = c.args in
    let s = a.bytes.now in
    let n = length s / 8 in
    let t = c.mode_lost-mode.ensures.1 in
    let mode = sym (mode_back c.mode_lost-mode.result) ∙ ap mode_from c.mode_lost-mode.ensures.0 in
    rw (t.shown, t.pending, events-length (n - a.k) s (8 * a.k), mode, skipped_back a.before.first)
