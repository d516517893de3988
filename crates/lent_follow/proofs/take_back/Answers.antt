-- `lent_follow::take_back`: the shown table over the pending one. The loop has copied i bytes. Assumes nothing.
use borrow.Author.Rules.{rules}
use Rattle.lent.specs.Lent.{table_size}
use Rattle.lent_follow.proofs.Copied.{copied_all}
use Rattle.lent_follow.proofs.take_back.Goals as goal

pub returns : goal.returns
returns c =
    let l = c.loop-i in
    let both = copied_all 0 table_size _ l.t l.i l.invariant (search rules) in
    record { shown = both.0; pending = both.1 }
