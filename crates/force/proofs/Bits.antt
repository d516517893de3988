-- A signed number's bits as the machine has them are the model's. Cited by the proof of `put`; assumes nothing.
use mathlib.Core.Path.{◌≡◌}
use native.Mathlib.Omega.{arith}
use lib.IntN.{ℤ, pos, negsuc}
use mir.Syntax.{w8, w16}
use mir.Val.{SFits, to_z, of_z}
use mir.ValLaws.{to_z-of_z}
use Rattle.model.specs.Force.{word_values, byte_values, bits_in}

pub word_bits : (z : ℤ) → SFits w16 z → of_z w16 (to_z w16 (of_z w16 z)) ≡ bits_in word_values z
unfolding bits_in
word_bits (pos n) f = rw (to_z-of_z w16 (pos n) f)
word_bits (negsuc n) f = rw (to_z-of_z w16 (negsuc n) f) (omega arith)

pub byte_bits : (z : ℤ) → SFits w8 z → of_z w8 (to_z w8 (of_z w8 z)) ≡ bits_in byte_values z
unfolding bits_in
byte_bits (pos n) f = rw (to_z-of_z w8 (pos n) f)
byte_bits (negsuc n) f = rw (to_z-of_z w8 (negsuc n) f) (omega arith)
