-- `lent_writer::put_numbers` stores the setup and the numbers behind it. Assumes nothing.
use native.Mathlib.Omega.{arith}
use Rattle.lent_writer.proofs.Stored.{numbers-stored}
use Rattle.lent_writer.proofs.put_numbers.Goals as goal

pub returns : goal.returns
returns c =
    let a = c.args in
    numbers-stored a.s a.b.now c.put_setup.new.b c.put_word.new.b c.put_word-2.new.b c.put_word-3.new.b c.put_word-4.new.b (omega (arith, c.requires.0))
    c.put_setup.ensures c.put_word.ensures c.put_word-2.ensures c.put_word-3.ensures c.put_word-4.ensures
