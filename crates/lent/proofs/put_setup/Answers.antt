-- `lent::put_setup` stores a setup's six numbers at a position. Assumes nothing.
use Rattle.lent.specs.Lent.{setup_bytes}
use Rattle.lent.proofs.Slots.{six_laid}
use Rattle.lent.proofs.put_setup.Goals as goal

pub returns : goal.returns
unfolding setup_bytes
returns c =
    let a = c.args in
    six_laid a.at _ _ _ _ _ _ a.b.now _ _ _ _ _ _ c.requires.0 c.put_word.ensures c.put_word-2.ensures c.put_word-3.ensures c.put_word-4.ensures c.put_word-5.ensures c.put_word-6.ensures
