-- A set of ids as a number of 64 bits: which ids it may hold. Cited by contracts of plan. Assumes nothing.
use Rattle.std.specs.Prelude.{◌≡◌, true, false, List, ℕ, ◌*◌, ◌^◌, ◌%◌, ℤ}
use Rattle.std.specs.Int.Bits.{bit_and}
use Rattle.model.specs.Numbers.{eq_z, minus_one}
use Rattle.model.specs.Table.{unheld}
use Rattle.common.specs.Seen.{natural}

-- The bit of 64 that an id falls on, as a number.
abbrev pub bit_of : ℤ → ℕ
bit_of v = (1 * 2 ^ (natural v % 64)) % 2 ^ 64

-- The live ids of a list fall on bits of m: a live number whose bit m lacks is none of them.
abbrev pub Met : ℕ → List ℤ → Type 0
Met m l = (v : ℤ) → eq_z v minus_one ≡ false → bit_and m (bit_of v) ≡ 0 → unheld v l ≡ true
