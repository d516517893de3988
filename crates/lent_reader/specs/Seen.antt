-- What each call over lent bytes promises, as the model's call on the state that the bytes hold. Bytes that are not formed are refused as a state that is not well formed: 2.
-- An accepted call leaves the bytes of the model's next state, and a refused one the bytes as they came. Assumes nothing.
use Rattle.std.specs.Prelude.{◌≡◌, cond, List, [], ◌∷◌, ℕ, ◌<◌, ◌^◌, eqb, ℤ, pos, length, get_or, replicate}
use Rattle.model.specs.Panel.{base, per_slot, setup_good}
use Rattle.model.specs.Reader.{Skipped, none, event, Counts}
use Rattle.model.specs.Calls as C
use Rattle.model.specs.Calls.{Verdict, check, is_accepted, verdict_number, fresh_reader_call, Ran, not_run, run_call, Loaded, load_call, Asked, asked_number, ask_call}
use Rattle.panel.specs.Seen.{setup_of}
use Rattle.panel.specs.declared.Setup.{Setup}
use Rattle.reader.specs.States.{seen, held, given}
use Rattle.reader.specs.declared.SlotAnswer.{SlotAnswer}
use Rattle.reader.specs.declared.SlotAnswer.TheVariants.{Contact, Empty, Unknown, NoSuchSlot, Refused}
use Rattle.lent_reader.specs.Layout.{reader_size, formed, unpacked, packed}

-- ---- what comes back in numbers

-- The setup of six numbers: n, x, y, pressure, major, minor; one that is missing counts as 0.
abbrev pub setup_from : List ℕ → Setup
setup_from s = given (get_or s 0 0) (get_or s 1 0) (get_or s 2 0) (get_or s 3 0) (get_or s 4 0) (get_or s 5 0)

-- The first event skipped as three numbers: 1, its type and its code; or zeros.
abbrev pub skipped_row : Skipped → List ℕ
skipped_row none = 0 ∷ 0 ∷ 0 ∷ []
skipped_row (event t c) = 1 ∷ t ∷ c ∷ []

-- What a run tells as eight numbers: shown, types, codes, bad, ignored, and the first event skipped.
abbrev pub counts_row : Counts → List ℕ
counts_row c = c.shown ∷ c.types ∷ c.codes ∷ c.bad ∷ c.ignored ∷ skipped_row c.first

-- An answer with no numbers of a slot.
abbrev pub bare : ℕ → List ℤ
bare k = pos k ∷ replicate per_slot (pos 0)

-- A question's answer as seven numbers: 0 unknown, 1 empty, 2 a contact, 3 no such slot; then a contact's six, else zeros. A refusal is all zeros.
abbrev pub asked_row : Asked → List ℤ
asked_row (C.contact s) = pos 2 ∷ s
asked_row C.empty = bare 1
asked_row C.unknown = bare 0
asked_row C.no_such_slot = bare 3
asked_row (C.refused v) = bare 0

-- ---- the model's calls on the state that bytes hold

-- A fresh state: the setup is judged first, then how many bytes there are.
abbrev pub fresh_verdict_in : ℕ → List ℕ → List ℕ → Verdict
fresh_verdict_in size b s = check (setup_good base (setup_of (setup_from s))) C.setup (check (eqb (length b) size) C.state C.accepted)

-- A run.
abbrev pub ran_in : List ℕ → List ℕ → Ran
ran_in b bytes = cond (formed b) (run_call base (seen (unpacked b)) bytes) (not_run C.state (seen (unpacked b)))

-- A load.
abbrev pub loaded_in : List ℕ → List ℤ → ℕ → Loaded
loaded_in b image k = cond (formed b) (load_call base (seen (unpacked b)) image k) (record { verdict = C.state; state = seen (unpacked b) })

-- A question.
abbrev pub asked_of : List ℕ → ℕ → Asked
asked_of b k = cond (formed b) (ask_call base (seen (unpacked b)) k) (C.refused C.state)

-- The bytes afterwards: those of the next state where the call was accepted, else those before.
abbrev pub stored : Verdict → List ℕ → List ℕ → List ℕ
stored v next b = cond (is_accepted v) next b

-- A contact's numbers but for its id are below 2 ^ 31, so that each is a signed number too; any other answer has none.
abbrev pub Told : SlotAnswer → Type 0
Told (Contact s) = (s.x < 2 ^ 31) × (s.y < 2 ^ 31) × (s.pressure < 2 ^ 31) × (s.major < 2 ^ 31) × (s.minor < 2 ^ 31)
Told Empty = Unit {0}
Told Unknown = Unit {0}
Told NoSuchSlot = Unit {0}
Told (Refused v) = Unit {0}

-- ---- the promises: r is the number that is returned, b the state's bytes before, and next those after

pub record FreshIn (b s : List ℕ) (r : ℕ) (next : List ℕ) : Type 0 where
  pub number : r ≡ verdict_number (fresh_verdict_in reader_size b s)
  pub state : next ≡ stored (fresh_verdict_in reader_size b s) (packed (held (fresh_reader_call base (setup_of (setup_from s))).state)) b

pub record RunIn (b bytes : List ℕ) (r : ℕ) (next told : List ℕ) : Type 0 where
  pub number : r ≡ verdict_number (ran_in b bytes).verdict
  pub state : next ≡ stored (ran_in b bytes).verdict (packed (held (ran_in b bytes).state)) b
  pub answer : told ≡ counts_row (ran_in b bytes).counts

pub record LoadIn (b : List ℕ) (image : List ℤ) (k r : ℕ) (next : List ℕ) : Type 0 where
  pub number : r ≡ verdict_number (loaded_in b image k).verdict
  pub state : next ≡ stored (loaded_in b image k).verdict (packed (held (loaded_in b image k).state)) b

pub record AskIn (b : List ℕ) (k r : ℕ) (told : List ℤ) : Type 0 where
  pub number : r ≡ asked_number (asked_of b k)
  pub answer : told ≡ asked_row (asked_of b k)
