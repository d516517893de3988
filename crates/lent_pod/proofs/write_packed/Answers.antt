-- `lent_pod::write_packed`: by the library's verdict, a refusal or the next state's bytes. Assumes nothing.
use borrow.Author.Tests.{eq-eqb, ne_eqb}
use Rattle.lent_pod.proofs.Orders.{few-written, asked-refused, asked_done}
use Rattle.lent_pod.proofs.write_packed.Goals as goal

pub pack-requires : goal.pack-requires
pack-requires c =
    let a = c.args in (
      c.requires,
      few-written a.s a.command a.at a.b.now a.buf.now c.write-a.new.buf c.write-a.result c.number_of-refusal.result
          c.write-a.ensures
          c.number_of-refusal.ensures
          c.if-refusal-eq0.true,
    )

pub returns-then-refusal-eq0 : goal.returns-then-refusal-eq0
returns-then-refusal-eq0 c =
    let a = c.args in
    asked_done a.s a.command a.at a.b.now a.buf.now c.write-a.new.buf c.write-a.result c.number_of-refusal.result
    c.write-a.ensures
    c.number_of-refusal.ensures
    c.pack.new.b
    (eq-eqb c.number_of-refusal.result 0 c.if-refusal-eq0.true)
    c.pack.ensures

pub returns-else-refusal-eq0 : goal.returns-else-refusal-eq0
returns-else-refusal-eq0 c =
    let a = c.args in
    asked-refused a.s a.command a.at a.b.now a.buf.now c.write-a.new.buf c.write-a.result c.number_of-refusal.result
    c.write-a.ensures
    c.number_of-refusal.ensures
    (ne_eqb c.number_of-refusal.result 0 c.if-refusal-eq0.false)
