-- The most bytes of a frame that are held until it is whole, which the program's promises cite. Assumes nothing.
use Rattle.std.specs.Prelude.{ℕ}

-- The bytes of 4,096 records.
abbrev pub longest : ℕ
longest = 32_768
