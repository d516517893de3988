-- `lent_devices::typed` makes the tests of the six numbers, in their order. Assumes nothing.
use mathlib.Core.Path.{◌≡◌, sym, ap, ◌∙◌}
use mathlib.Core.Bool.{Bool}
use lib.IntN.{ℤ}
use borrow.Author.Rules.{rules}
use mir.Syntax.{w32}
use mir.Val.{SFits, to_z, of_z}
use mir.ValLaws.{to_z-of_z}
use Rattle.model.specs.Force.{fits_in, word_values, byte_values}
use Rattle.lent_devices.specs.Sticks.{number_at, up_to, most_byte, most_word, typed}
use Rattle.lent_devices.proofs.typed.Goals as goal

-- What a test of a number as the machine has it answered is what the test of the number answers.
read : (test : ℤ → Bool) (v : ℤ) {r b : Bool} → SFits w32 v → r ≡ test (to_z w32 (of_z w32 v)) → r ≡ b → test v ≡ b
read test v f e q = sym (e ∙ ap test (to_z-of_z w32 v f)) ∙ q

pub returns : goal.returns
unfolding typed
returns c =
    let v = number_at c.args.l.now in
    rw (
      read (fits_in word_values) (v 0) (search rules) c.word_fits.ensures c.if-not-word_fits.false,
      read (fits_in word_values) (v 1) (search rules) c.word_fits-2.ensures c.if-not-word_fits-2.false,
      read (up_to most_byte) (v 2) (search rules) c.within.ensures c.if-not-within.false,
      read (up_to most_word) (v 3) (search rules) c.within-2.ensures c.if-not-within-2.false,
      read (up_to most_byte) (v 4) (search rules) c.within-3.ensures c.if-not-within-3.false,
    ) (c.byte_fits.ensures ∙ ap (fits_in byte_values) (to_z-of_z w32 (v 5) (search rules)))
