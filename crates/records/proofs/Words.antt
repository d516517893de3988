-- A record by its two words is the record by its bytes: the first is its head, the second the bits of its value. Cited by `follow`. Assumes nothing.
use mathlib.Core.Path.{◌≡◌}
use mathlib.Core.List.{List}
use Prim.Native.Nat.{ℕ, ◌+◌, ◌/◌, ◌%◌}
use native.Mathlib.Omega.{arith}
use lib.ListN.{get_or}
use mir.Syntax.{w8}
use mir.Val.{Fits}
use Rattle.model.specs.Records.{signed_of, join32, event_at}
use Rattle.records.specs.Seen.{word_at, headed}

-- The bytes are bytes, as a slice of them tells: a larger one would reach into the next.
module _ (s : List ℕ) (at : ℕ) (small : (i : ℕ) → Fits w8 (get_or s i 0)) where
  head_type : word_at s at % 65_536 ≡ (event_at s at).type
  head_type = omega (arith, small at, small (at + 1))

  head_code : word_at s at / 65_536 ≡ (event_at s at).code
  head_code = omega (arith, small at, small (at + 1))

  value-bits : word_at s (at + 4) ≡ join32 (get_or s (at + 4) 0) (get_or s (at + 5) 0) (get_or s (at + 6) 0) (get_or s (at + 7) 0)
  value-bits =
      let five : at + 4 + 1 ≡ at + 5 = omega arith in
      let six : at + 4 + 2 ≡ at + 6 = omega arith in
      let seven : at + 4 + 3 ≡ at + 7 = omega arith in
      rw (five, six, seven)

  pub words_event : headed (word_at s at) (signed_of (word_at s (at + 4))) ≡ event_at s at
  words_event = rw (head_type, head_code, value-bits)
