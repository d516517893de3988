-- A reader's state as it lies in lent bytes (docs/LAYOUT.md): where each part stands, which bytes are formed, the state that they hold, and the bytes of a state. Assumes nothing.
use Rattle.std.specs.Prelude.{Bool, ◌&&◌, List, [], ◌∷◌, ◌++◌, ℕ, zero, suc, ◌<◌, ◌^◌, ◌≡◌, eqb, leb, length, get_or}
use Rattle.model.specs.Panel.{records}
use Rattle.model.specs.Records.{low_bytes}
use Rattle.records.specs.Seen.{word_at}
use Rattle.common.specs.declared.Mode.{Mode}
use Rattle.common.specs.declared.Mode.TheVariants.{Following, Dropped, Stale}
use Rattle.reader.specs.declared.ReaderState.{ReaderState}
use Rattle.lent.specs.Lent.{slots_from, setup_in, setup_bytes, table_bytes, SlotsFit, SetupFits}

-- ---- places

-- The version of the layouts, in byte 0.
abbrev pub version : ℕ
version = 1

-- A reader's state among the states, in byte 1.
abbrev pub reader_kind : ℕ
reader_kind = 2

-- The first place of each part behind these two.
abbrev pub mode_at : ℕ
mode_at = 2

abbrev pub spare_at : ℕ
spare_at = 3

abbrev pub current_at : ℕ
current_at = 4

abbrev pub setup_at : ℕ
setup_at = 8

abbrev pub shown_at : ℕ
shown_at = 32

abbrev pub pending_at : ℕ
pending_at = 800

-- The bytes of a state's head, and of what stands behind it.
abbrev pub head_size : ℕ
head_size = 4

abbrev pub body_size : ℕ
body_size = 1_564

-- All bytes of a reader's state.
abbrev pub reader_size : ℕ
reader_size = 1_568

-- ---- the mode

-- The largest byte that is a mode.
abbrev pub last_mode : ℕ
last_mode = 2

-- The mode of a byte; one past the last counts as stale.
abbrev pub mode_in : ℕ → Mode
mode_in zero = Following
mode_in (suc zero) = Dropped
mode_in (suc (suc n)) = Stale

-- A mode's byte.
abbrev pub mode_byte : Mode → ℕ
mode_byte Following = 0
mode_byte Dropped = 1
mode_byte Stale = 2

-- ---- what is read

-- The bytes begin as a state of this kind: the version, the kind, and a mode.
abbrev pub begun : ℕ → List ℕ → Bool
begun kind b = eqb (get_or b 0 0) version && (eqb (get_or b 1 0) kind && leb (get_or b mode_at 0) last_mode)

-- The bytes are as many as a reader's state has, begin as one, and the spare byte is 0.
abbrev pub formed : List ℕ → Bool
formed b = eqb (length b) reader_size && (begun reader_kind b && eqb (get_or b spare_at 0) 0)

-- The state that bytes hold, each number by its position; bytes past the end count as 0.
abbrev pub unpacked : List ℕ → ReaderState
unpacked b = record {
  shown = slots_from records b shown_at;
  pending = slots_from records b pending_at;
  setup = setup_in b setup_at;
  current = record { 0 = word_at b current_at };
  mode = mode_in (get_or b mode_at 0);
}

-- ---- what is stored

-- The first four bytes of a state: the version, its kind, the mode, and one more.
abbrev pub head_bytes : ℕ → Mode → ℕ → List ℕ
head_bytes kind m more = version ∷ kind ∷ mode_byte m ∷ more ∷ []

-- The bytes behind them: the current slot, the setup, the shown and the pending table.
unfoldable pub body_bytes : ReaderState → List ℕ
body_bytes s = low_bytes 4 s.current.0 ++ (setup_bytes s.setup ++ (table_bytes s.shown ++ table_bytes s.pending))

-- A state's bytes.
unfoldable pub packed : ReaderState → List ℕ
packed s = head_bytes reader_kind s.mode 0 ++ body_bytes s

-- ---- what fits

-- The state's numbers have room in its bytes, and its tables are whole.
pub record StateFits (s : ReaderState) : Type 0 where
  pub whole : length s.shown ≡ records
  pub whole_pending : length s.pending ≡ records
  pub shown : SlotsFit s.shown
  pub pending : SlotsFit s.pending
  pub setup : SetupFits s.setup
  pub current : s.current.0 < 2 ^ 32
