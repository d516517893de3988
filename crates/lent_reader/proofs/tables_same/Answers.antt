-- `lent_reader::tables_same`: the two tables, byte by byte. The loop has compared i bytes; that they are bytes is known once one was read. Assumes nothing.
use borrow.Author.Rules.{rules}
use Rattle.lent_reader.proofs.Judged.{compared_all}
use Rattle.lent_reader.proofs.tables_same.Goals as goal

pub returns : goal.returns
returns c =
    let l = c.loop-i in
    compared_all c.args.b.now (l.invariant.1 (search rules)) c.requires l.same l.i l.invariant.0 (search rules)
