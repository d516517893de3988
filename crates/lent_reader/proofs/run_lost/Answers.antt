-- `lent_reader::run_lost`: the mode moves, and every record is ignored. Assumes nothing.
use mathlib.Core.Path.{◌∙◌}
use Rattle.common.proofs.Back.{none_counted}
use Rattle.lent_reader.proofs.InPlace.{head_stored, lost_ends}
use Rattle.lent_reader.proofs.run_lost.Goals as goal

pub returns : goal.returns
returns c =
    let a = c.args in
    let b = a.b.now in
    let last = c.last_mode-last.result in
    rw (none_counted _ c.default.ensures) (lost_ends b a.bytes.now c.requires.1 a.m last c.requires.2 c.requires.3 c.last_mode-last.ensures _
    (c.put_head.ensures ∙ head_stored b c.slice_known-1.given c.requires.0 last))
