-- What each call over the lent bytes of a line's state promises, as the model's call on the state that the bytes hold. Bytes that are not formed are refused as a state that is not well formed: 2.
-- An accepted call leaves the bytes of the model's next state, and a refused one the bytes as they came. Assumes nothing.
use Rattle.std.specs.Prelude.{◌≡◌, cond, List, ℕ, ℤ}
use Rattle.model.specs.Panel.{base}
use Rattle.model.specs.Calls as C
use Rattle.model.specs.Calls.{verdict_number, Asked, asked_number}
use Rattle.model.specs.Pieces.{fresh_line_call, Taken, not_taken, take_call, LineLoaded, line_load_call, line_ask_call}
use Rattle.panel.specs.Seen.{setup_of}
use Rattle.pieces.specs.Seen.{seen, held}
use Rattle.lent_reader.specs.Seen.{setup_from, counts_row, asked_row, fresh_verdict_in, stored}
use Rattle.lent_line.specs.Layout.{line_size, formed, unpacked, packed}

-- ---- the model's calls on the state that bytes hold

-- A piece.
abbrev pub taken_in : List ℕ → List ℕ → Taken
taken_in b piece = cond (formed b) (take_call base (seen (unpacked b)) piece) (not_taken C.state (seen (unpacked b)))

-- A load.
abbrev pub loaded_in : List ℕ → List ℤ → ℕ → LineLoaded
loaded_in b image k = cond (formed b) (line_load_call base (seen (unpacked b)) image k) (record { verdict = C.state; state = seen (unpacked b) })

-- A question.
abbrev pub asked_of : List ℕ → ℕ → Asked
asked_of b k = cond (formed b) (line_ask_call base (seen (unpacked b)) k) (C.refused C.state)

-- ---- the promises: r is the number that is returned, b the state's bytes before, and next those after

pub record FreshIn (b s : List ℕ) (r : ℕ) (next : List ℕ) : Type 0 where
  pub number : r ≡ verdict_number (fresh_verdict_in line_size b s)
  pub state : next ≡ stored (fresh_verdict_in line_size b s) (packed (held (fresh_line_call base (setup_of (setup_from s))).state)) b

pub record TakeIn (b piece : List ℕ) (r : ℕ) (next told : List ℕ) : Type 0 where
  pub number : r ≡ verdict_number (taken_in b piece).verdict
  pub state : next ≡ stored (taken_in b piece).verdict (packed (held (taken_in b piece).state)) b
  pub answer : told ≡ counts_row (taken_in b piece).counts

pub record LoadIn (b : List ℕ) (image : List ℤ) (k r : ℕ) (next : List ℕ) : Type 0 where
  pub number : r ≡ verdict_number (loaded_in b image k).verdict
  pub state : next ≡ stored (loaded_in b image k).verdict (packed (held (loaded_in b image k).state)) b

pub record AskIn (b : List ℕ) (k r : ℕ) (told : List ℤ) : Type 0 where
  pub number : r ≡ asked_number (asked_of b k)
  pub answer : told ≡ asked_row (asked_of b k)
