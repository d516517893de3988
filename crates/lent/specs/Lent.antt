-- Slots, setups and tables as they lie in lent bytes: numbers of four bytes, the lowest first, an id by its bits. The layouts of docs/LAYOUT.md are made of them. Assumes nothing.
use Rattle.std.specs.Prelude.{List, [], ◌∷◌, ◌++◌, ℕ, zero, suc, ◌+◌, get_or}
use Rattle.std.specs.Int.{w8, w32}
use Rattle.std.proofs.Common.{Fits, SFits}
use Rattle.model.specs.Panel.{records}
use Rattle.model.specs.Records.{bits_of, signed_of, low_bytes}
use Rattle.records.specs.Seen.{word_at}
use Rattle.panel.specs.declared.Slot.{Slot}
use Rattle.panel.specs.declared.Setup.{Setup}

-- ---- sizes

-- A number's bytes.
abbrev pub word_size : ℕ
word_size = 4

-- A slot's bytes: six numbers.
abbrev pub slot_size : ℕ
slot_size = 24

-- A setup's bytes: six numbers.
abbrev pub setup_size : ℕ
setup_size = 24

-- A table's bytes: 32 slots.
abbrev pub table_size : ℕ
table_size = 768

-- ---- what is read

-- The slot from a position on; bytes past the end count as 0.
abbrev pub slot_in : List ℕ → ℕ → Slot
slot_in s at = record {
  id = record { 0 = signed_of (word_at s at) };
  x = word_at s (at + 4);
  y = word_at s (at + 8);
  pressure = word_at s (at + 12);
  major = word_at s (at + 16);
  minor = word_at s (at + 20);
}

-- So many slots, one behind the other, from a position on.
unfoldable pub slots_from : ℕ → List ℕ → ℕ → List Slot
slots_from zero s at = []
slots_from (suc n) s at = slot_in s at ∷ slots_from n s (at + slot_size)

-- The table that bytes hold from their start on.
abbrev pub table_in : List ℕ → List Slot
table_in s = slots_from records s 0

-- The setup from a position on.
abbrev pub setup_in : List ℕ → ℕ → Setup
setup_in s at = record {
  n = word_at s at;
  x = word_at s (at + 4);
  y = word_at s (at + 8);
  pressure = word_at s (at + 12);
  major = word_at s (at + 16);
  minor = word_at s (at + 20);
}

-- ---- what is stored

-- A slot's bytes.
unfoldable pub slot_bytes : Slot → List ℕ
slot_bytes s =
    low_bytes 4 (bits_of s.id.0)
    ++ (low_bytes 4 s.x ++ (low_bytes 4 s.y ++ (low_bytes 4 s.pressure ++ (low_bytes 4 s.major ++ low_bytes 4 s.minor))))

-- The bytes of slots, one behind the other.
unfoldable pub table_bytes : List Slot → List ℕ
table_bytes [] = []
table_bytes (s ∷ t) = slot_bytes s ++ table_bytes t

-- A setup's bytes; its n is a number of four bytes too.
unfoldable pub setup_bytes : Setup → List ℕ
setup_bytes u =
    low_bytes 4 u.n
    ++ (low_bytes 4 u.x ++ (low_bytes 4 u.y ++ (low_bytes 4 u.pressure ++ (low_bytes 4 u.major ++ low_bytes 4 u.minor))))

-- ---- what fits

-- Every byte is one.
abbrev pub Bytes : List ℕ → Type 0
Bytes s = (i : ℕ) → Fits w8 (get_or s i 0)

-- A slot's numbers are of 32 bits, as a slot's of the code are.
pub record SlotFits (s : Slot) : Type 0 where
  pub id : SFits w32 s.id.0
  pub x : Fits w32 s.x
  pub y : Fits w32 s.y
  pub pressure : Fits w32 s.pressure
  pub major : Fits w32 s.major
  pub minor : Fits w32 s.minor

-- So are those of every slot.
abbrev pub SlotsFit : List Slot → Type 0
SlotsFit [] = Unit {0}
SlotsFit (s ∷ t) = SlotFits s × SlotsFit t

-- A setup's numbers are of 32 bits, n too.
pub record SetupFits (u : Setup) : Type 0 where
  pub n : Fits w32 u.n
  pub x : Fits w32 u.x
  pub y : Fits w32 u.y
  pub pressure : Fits w32 u.pressure
  pub major : Fits w32 u.major
  pub minor : Fits w32 u.minor
