-- Signed numbers and their bits, as the machine has them. Cited by the proofs here and by those of the crates above. Assumes nothing.
use mathlib.Core.Path.{◌≡◌, refl}
use Prim.Native.Nat.{ℕ, ◌^◌, ◌<◌}
use native.Mathlib.Omega.{arith}
use lib.Dec.{ltb}
use lib.IntN.{ℤ, pos, negsuc}
use mir.Syntax.{w32}
use mir.Val.{SFits, to_z, of_z}
use Rattle.model.specs.Records.{bits_of, signed_of}
use Rattle.model.proofs.Bools.{by_sign}

-- ---- the machine's bits are the model's

pub bits-same : (z : ℤ) → of_z w32 z ≡ bits_of z
unfolding bits_of
bits-same (pos n) = refl
bits-same (negsuc n) = omega arith

pub bits_fit : (z : ℤ) → SFits w32 z → bits_of z < 2 ^ 32
unfolding bits_of
bits_fit (pos n) f = omega arith
bits_fit (negsuc n) f = omega arith

-- ---- and so is its reading of 32 bits

pub signed_same : (v : ℕ) → to_z w32 v ≡ signed_of v
unfolding signed_of
signed_same v = by_sign (2 ^ 32) v (ltb v 2147483648)
