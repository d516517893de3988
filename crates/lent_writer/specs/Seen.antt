-- A writer's state as bytes and back, and what each call over lent bytes answers: the answer of the call by value. Assumes nothing.
use Rattle.std.specs.Prelude.{◌≡◌, Bool, true, false, cond, ◌&&◌, List, [], ◌∷◌, ◌++◌, ℕ, ◌+◌, ◌<◌, ◌^◌, eqb, leb, ℤ, length, get_or, take, drop}
use Rattle.model.specs.Panel.{base, setup_good, records}
use Rattle.model.specs.Records.{low_bytes, join16}
use Rattle.model.specs.Calls as C
use Rattle.model.specs.Calls.{check}
use Rattle.model.specs.Pointing.{fresh_pointer_call, pointer_call, pointer_buffer}
use Rattle.model.specs.Anonymous.{anonymous_call, anonymous_buffer}
use Rattle.records.specs.Seen.{word_at}
use Rattle.common.specs.declared.Verdict.TheVariants.{State}
use Rattle.common.specs.Seen.{verdict_number}
use Rattle.panel.specs.declared.Setup.{Setup}
use Rattle.panel.specs.Seen.{setup_of}
use Rattle.pointer.specs.declared.Pointer.{Pointer}
use Rattle.writer.specs.declared.WriterState.{WriterState}
use Rattle.writer.specs.declared.Written.{Written}
use Rattle.writer.specs.Seen.{seen, fresh_from, written_from, not_written_by}
use Rattle.lent.specs.Lent.{slots_from, setup_in, setup_bytes, table_bytes}
use Rattle.lent_writer.specs.Layout.{state_size, version, kind, version_at, kind_at, option_at, touch_at, tool_at, zero_at, setup_at, current_at, counter_at, x_at, y_at, table_at, ranks_at}

-- ---- a state's bytes

-- A byte by its position; 0 past the end.
abbrev pub byte_at : List ℕ → ℕ → ℕ
byte_at b i = get_or b i 0

-- Bytes of a writer's state: its size, version and kind, an option that is 0 or 1, and zeros where nothing is held. What they hold may still be no good state.
unfoldable pub formed : List ℕ → Bool
formed b =
    eqb (length b) state_size
    && (eqb (byte_at b version_at) version && (eqb (byte_at b kind_at) kind && (leb (byte_at b option_at) 1 && (eqb (byte_at b zero_at) 0 && eqb (byte_at b (zero_at + 1)) 0))))

-- What an old display was told last.
abbrev pub told_in : List ℕ → Pointer
told_in b = record { x = word_at b x_at; y = word_at b y_at; tool = join16 (byte_at b tool_at) (byte_at b (tool_at + 1)); touch = byte_at b touch_at }

-- The ranks' bytes; fewer where the bytes end before.
abbrev pub ranks_in : List ℕ → List ℕ
ranks_in b = take records (drop ranks_at b)

-- The state that bytes hold, whatever they are.
abbrev pub unpacked : List ℕ → WriterState
unpacked b = record {
  table = slots_from records b table_at;
  ranks = ranks_in b;
  setup = setup_in b setup_at;
  current = record { 0 = word_at b current_at };
  counter = word_at b counter_at;
  told = told_in b;
  pointer = eqb (byte_at b option_at) 1;
}

-- The option's byte.
abbrev pub flag : Bool → ℕ
flag true = 1
flag false = 0

-- The first eight bytes: version, kind, option, the touch and the tool told, and two zeros.
abbrev pub head_bytes : Bool → Pointer → List ℕ
head_bytes on told = version ∷ kind ∷ flag on ∷ told.touch ∷ (low_bytes 2 told.tool ++ (0 ∷ 0 ∷ []))

-- The numbers after them: the setup, the current slot, the counter, and the X and Y told.
abbrev pub number_bytes : WriterState → List ℕ
number_bytes s = setup_bytes s.setup ++ low_bytes 4 s.current.0 ++ low_bytes 4 s.counter ++ low_bytes 4 s.told.x ++ low_bytes 4 s.told.y

-- A state's bytes.
unfoldable pub packed : WriterState → List ℕ
packed s = head_bytes s.pointer s.told ++ number_bytes s ++ table_bytes s.table ++ s.ranks

-- ---- what a call answers

-- Accepted.
abbrev pub accepted : Written → Bool
accepted w = eqb (verdict_number w.verdict) 0

-- The state's bytes after a call: those of the answer's state, and as they were where it is refused.
abbrev pub state_after : List ℕ → Written → List ℕ
state_after b w = cond (accepted w) (packed w.state) b

-- What the host is told beside the number: the count, the need and the changed slots.
abbrev pub told_of : Written → List ℕ
told_of w = w.count ∷ w.need ∷ w.changed ∷ []

-- The state of an accepted answer has an n and a current slot of 32 bits, as bytes can hold them.
abbrev pub Held : Written → Type 0
Held w = accepted w ≡ true → (w.state.setup.n < 2 ^ 32) × (w.state.current.0 < 2 ^ 32)

-- The answer w told to the host: the number, the state's bytes and what is told beside them.
pub record Settles (b : List ℕ) (w : Written) (r : ℕ) (b' a' : List ℕ) : Type 0 where
  pub number : r ≡ verdict_number w.verdict
  pub state : b' ≡ state_after b w
  pub answer : a' ≡ told_of w

-- A call over the state bytes b whose answer is w and whose buffer is then `left`: its number, and the bytes, the answer and the buffer that it leaves.
pub record Writes (b : List ℕ) (w : Written) (left : List ℕ) (r : ℕ) (b' a' buf' : List ℕ) : Type 0 where
  pub number : r ≡ verdict_number w.verdict
  pub state : b' ≡ state_after b w
  pub answer : a' ≡ told_of w
  pub buffer : buf' ≡ left

-- The answer of `write`, by value; bytes that are not formed are refused by STATE.
unfoldable pub written : List ℕ → List ℤ → ℕ → ℕ → Written
written b f at size = cond (formed b) (written_from (pointer_call base (seen (unpacked b)) f at size)) (not_written_by State (unpacked b) 0)

-- The buffer after it.
unfoldable pub written_buffer : List ℕ → List ℤ → ℕ → List ℕ → List ℕ
written_buffer b f at buf = cond (formed b) (pointer_buffer base (seen (unpacked b)) f at buf) buf

-- The answer of `write_anonymous`, of a type A frame's records.
unfoldable pub anonymous_written : List ℕ → List ℕ → ℕ → ℕ → Written
anonymous_written b rs at size = cond (formed b) (written_from (anonymous_call base (seen (unpacked b)) rs at size)) (not_written_by State (unpacked b) 0)

-- The buffer after it.
unfoldable pub anonymous_left : List ℕ → List ℕ → ℕ → List ℕ → List ℕ
anonymous_left b rs at buf = cond (formed b) (anonymous_buffer base (seen (unpacked b)) rs at buf) buf

-- A call of `write`.
abbrev pub WritesFrame : List ℕ → List ℤ → ℕ → List ℕ → ℕ → List ℕ → List ℕ → List ℕ → Type 0
WritesFrame b f at buf = Writes b (written b f at (length buf)) (written_buffer b f at buf)

-- A call of `write_anonymous`.
abbrev pub WritesAnonymous : List ℕ → List ℕ → ℕ → List ℕ → ℕ → List ℕ → List ℕ → List ℕ → Type 0
WritesAnonymous b rs at buf = Writes b (anonymous_written b rs at (length buf)) (anonymous_left b rs at buf)

-- ---- a fresh state

-- Six numbers as a setup: n, and the largest x, y, pressure, major and minor.
abbrev pub setup_given : List ℕ → Setup
setup_given us = record { n = get_or us 0 0; x = get_or us 1 0; y = get_or us 2 0; pressure = get_or us 3 0; major = get_or us 4 0; minor = get_or us 5 0 }

-- Refused by SETUP unless the setup is good, and then by STATE unless the bytes are as many as a state has and the option is 0 or 1.
abbrev pub fresh_refusal : List ℕ → List ℕ → ℕ → C.Verdict
fresh_refusal b us on = check (setup_good base (setup_of (setup_given us))) C.setup (check (eqb (length b) state_size && leb on 1) C.state C.accepted)

-- The state of a fresh writer.
abbrev pub fresh_state : List ℕ → ℕ → WriterState
fresh_state us on = (fresh_from (fresh_pointer_call base (eqb on 1) (setup_of (setup_given us)))).state

-- A call of `fresh`: its number, and the bytes of a fresh state, or those that were there where it is refused.
pub record Freshens (b us : List ℕ) (on r : ℕ) (b' : List ℕ) : Type 0 where
  pub number : r ≡ C.verdict_number (fresh_refusal b us on)
  pub state : b' ≡ cond (C.is_accepted (fresh_refusal b us on)) (packed (fresh_state us on)) b
