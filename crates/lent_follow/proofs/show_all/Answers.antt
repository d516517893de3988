-- `lent_follow::show_all`: the pending table over the shown one. The loop has copied i bytes. Assumes nothing.
use borrow.Author.Rules.{rules}
use Rattle.lent.specs.Lent.{table_size}
use Rattle.lent_follow.proofs.Copied.{copied_all}
use Rattle.lent_follow.proofs.show_all.Goals as goal

pub returns : goal.returns
returns c =
    let l = c.loop-i in
    let both = copied_all table_size 0 _ l.t l.i l.invariant (search rules) in
    record { shown = both.1; pending = both.0 }
