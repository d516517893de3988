-- `writer::taken` is an accepted frame's answer. Assumes nothing.
use mathlib.Core.Path.{ap}
use Rattle.writer.specs.Seen.{written_by}
use Rattle.writer.proofs.taken.Goals as goal

pub returns : goal.returns
returns c =
    let a = c.args in
    ap (λ s. written_by s a.count a.changed) c.state_of.ensures
