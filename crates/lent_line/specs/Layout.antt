-- The state of a line's reader as it lies in lent bytes (docs/LAYOUT.md): a reader's, whose fourth byte counts the bytes held, with their places behind it. Assumes nothing.
use Rattle.std.specs.Prelude.{Bool, ◌&&◌, List, [], ◌∷◌, ◌++◌, ◌≡◌, ℕ, ◌<◌, eqb, length, get_or, take, drop}
use Rattle.model.specs.Pieces.{places}
use Rattle.pieces.specs.declared.LineState.{LineState}
use Rattle.lent_reader.specs.Layout as R
use Rattle.lent_reader.specs.Layout.{begun, head_bytes, body_bytes, StateFits}

-- The state of a line's reader among the states, in byte 1.
abbrev pub line_kind : ℕ
line_kind = 3

-- The byte that counts those held, the first of their places, and the byte behind the last, which is 0.
abbrev pub held_at : ℕ
held_at = 3

abbrev pub left_at : ℕ
left_at = 1_568

abbrev pub spare_at : ℕ
spare_at = 1_575

-- All bytes of the state of a line's reader.
abbrev pub line_size : ℕ
line_size = 1_576

-- The bytes are as many as such a state has, begin as one, and the last is 0.
abbrev pub formed : List ℕ → Bool
formed b = eqb (length b) line_size && (begun line_kind b && eqb (get_or b spare_at 0) 0)

-- The state that bytes hold, each part by its position; a number of bytes held over seven is left to the call to refuse.
abbrev pub unpacked : List ℕ → LineState
unpacked b = record { left = take places (drop left_at b); count = get_or b held_at 0; reader = R.unpacked b }

-- The bytes in the places, and a 0.
abbrev pub tail_bytes : List ℕ → List ℕ
tail_bytes left = left ++ (0 ∷ [])

-- A state's bytes.
unfoldable pub packed : LineState → List ℕ
packed s = head_bytes line_kind s.reader.mode s.count ++ (body_bytes s.reader ++ tail_bytes s.left)

-- The state's numbers have room in its bytes, and its places are all there.
pub record LineFits (s : LineState) : Type 0 where
  pub reader : StateFits s.reader
  pub left : length s.left ≡ places
  pub count : s.count < 256
