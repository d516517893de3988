-- A record as the model's event, and a buffer with bytes at its start. Cited by the contracts here and in the crates above. Assumes nothing.
use Rattle.std.specs.Prelude.{List, ◌++◌, ℤ, length, get_or, drop, ℕ, ◌+◌, ◌/◌, ◌%◌}
use Rattle.model.specs.Events as E
use Rattle.model.specs.Records.{signed_of, join32}
use Rattle.records.specs.declared.Event.{Event}

-- A record's type, code and signed value.
abbrev pub event_of : Event → E.Event
event_of e = record { type = e.kind; code = e.code; value = signed_of e.value }

-- The four bytes from a position on as one number, the lowest first; bytes past the end count as 0.
abbrev pub word_at : List ℕ → ℕ → ℕ
word_at s at = join32 (get_or s at 0) (get_or s (at + 1) 0) (get_or s (at + 2) 0) (get_or s (at + 3) 0)

-- The event of a head and a value. A head is a type and a code as one number: the type, and 65,536 times the code.
abbrev pub headed : ℕ → ℤ → E.Event
headed h v = record { type = h % 65_536; code = h / 65_536; value = v }

-- The bytes bs in place of the first of old; the others stay.
unfoldable pub over : List ℕ → List ℕ → List ℕ
over bs old = bs ++ drop (length bs) old
