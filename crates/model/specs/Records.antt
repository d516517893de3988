-- Event records: eight bytes, little-endian, the value in two's complement. Assumes nothing.
use Rattle.std.specs.Prelude.{cond, List, [], ◌∷◌, ◌++◌, ℕ, zero, suc, ◌+◌, ◌-◌, ◌*◌, ◌/◌, ◌%◌, ltb, ℤ, pos, negsuc, length, get_or, take, drop}
use Rattle.model.specs.Events.{Event}

-- The 32 bits of a signed number.
unfoldable pub bits_of : ℤ → ℕ
bits_of (pos n) = n
bits_of (negsuc n) = 4_294_967_295 - n

-- 32 bits read as a signed number.
unfoldable pub signed_of : ℕ → ℤ
signed_of n = cond (ltb n 2_147_483_648) (pos n) (negsuc (4_294_967_295 - n))

-- The lowest k bytes of a number, the lowest first.
abbrev pub low_bytes : ℕ → ℕ → List ℕ
low_bytes zero x = []
low_bytes (suc k) x = x % 256 ∷ low_bytes k (x / 256)

-- The eight bytes of a record, from its type, its code and the bits of its value.
unfoldable pub record_bytes : ℕ → ℕ → ℕ → List ℕ
record_bytes t c v = low_bytes 2 t ++ low_bytes 2 c ++ low_bytes 4 v

-- The eight bytes of an event.
abbrev pub event_bytes : Event → List ℕ
event_bytes e = record_bytes e.type e.code (bits_of e.value)

-- The bytes of events, one record after the other.
unfoldable pub bytes_of : List Event → List ℕ
bytes_of [] = []
bytes_of (e ∷ es) = event_bytes e ++ bytes_of es

-- Two bytes as a number, the lower first.
abbrev pub join16 : ℕ → ℕ → ℕ
join16 a b = a + 256 * b

-- Four bytes as a number, the lowest first.
abbrev pub join32 : ℕ → ℕ → ℕ → ℕ → ℕ
join32 a b c d = a + 256 * b + 65_536 * c + 16_777_216 * d

-- The record whose first byte stands at a position; bytes past the end count as 0.
abbrev pub event_at : List ℕ → ℕ → Event
event_at s at =
    record {
      type = join16 (get_or s at 0) (get_or s (at + 1) 0);
      code = join16 (get_or s (at + 2) 0) (get_or s (at + 3) 0);
      value = signed_of (join32 (get_or s (at + 4) 0) (get_or s (at + 5) 0) (get_or s (at + 6) 0) (get_or s (at + 7) 0));
    }

-- n records, the first of which starts at a position.
unfoldable pub events_from : ℕ → List ℕ → ℕ → List Event
events_from zero s at = []
events_from (suc n) s at = event_at s at ∷ events_from n s (at + 8)

-- The whole records of a run of bytes; up to seven bytes may be left over.
abbrev pub events_of : List ℕ → List Event
events_of s = events_from (length s / 8) s 0

-- A buffer with bytes laid over it from a position on; all other bytes stay. The bytes have room there.
unfoldable pub lay : ℕ → List ℕ → List ℕ → List ℕ
lay at bs old = take at old ++ (bs ++ drop (at + length bs) old)
