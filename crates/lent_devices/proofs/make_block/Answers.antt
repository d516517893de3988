-- `lent_devices::make_block`: by the length and the library's verdict, a refusal or the block. Assumes nothing.
use lib.ListN.{length}
use borrow.Author.Tests.{eq-eqb, ne_eqb}
use Rattle.lent_devices.proofs.Made.{made-short, made-refused, made_done}
use Rattle.lent_devices.proofs.make_block.Goals as goal

pub returns-then-block-ne-BLOCK : goal.returns-then-block-ne-BLOCK
returns-then-block-ne-BLOCK c =
    let a = c.args in
    made-short a.number a.events.now a.block.now c.number_of.result (ne_eqb (length a.block.now) 512 c.if-block-ne-BLOCK.true) c.number_of.ensures

pub returns-then-refusal-eq0 : goal.returns-then-refusal-eq0
returns-then-refusal-eq0 c =
    let a = c.args in
    made_done a.number a.events.now a.block.now c.number_of-refusal.result c.make_block-a.result
    (eq-eqb (length a.block.now) 512 c.if-block-ne-BLOCK.false)
    c.make_block-a.ensures
    c.number_of-refusal.ensures
    c.copy_from_slice.new.self
    (eq-eqb c.number_of-refusal.result 0 c.if-refusal-eq0.true)
    c.copy_from_slice.ensures.after

pub returns-else-refusal-eq0 : goal.returns-else-refusal-eq0
returns-else-refusal-eq0 c =
    let a = c.args in
    made-refused a.number a.events.now a.block.now c.number_of-refusal.result c.make_block-a.result
    (eq-eqb (length a.block.now) 512 c.if-block-ne-BLOCK.false)
    c.make_block-a.ensures
    c.number_of-refusal.ensures
    (ne_eqb c.number_of-refusal.result 0 c.if-refusal-eq0.false)
