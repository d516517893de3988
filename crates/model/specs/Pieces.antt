-- K5, bytes as the line delivers them: a reader that carries up to seven left-over bytes from piece to piece, and its calls. The contracts of the crate
-- pieces are these calls, seen through their structs. Assumes nothing.
use Rattle.std.specs.Prelude.{Bool, cond, ◌&&◌, List, [], ◌∷◌, ◌++◌, ℕ, ◌+◌, ◌-◌, ◌*◌, ◌/◌, leb, eqb, ℤ, length, take, drop, replicate}
use Rattle.model.specs.Panel.{Layout, Setup, panel_of}
use Rattle.model.specs.Reader.{Counts, nothing, plus}
use Rattle.model.specs.States.{ReaderState, reader_good}
use Rattle.model.specs.Calls.{Verdict, accepted, state, is_accepted, fresh_reader_call, run_call, is_stale, image_good, load_call, Asked, refused, ask_call}
use Rattle.model.specs.Pod.{zeros}
use Rattle.model.specs.Refusals.{Row, unless}

-- ---- a byte string

-- The bytes of its whole records.
abbrev pub whole_bytes : List ℕ → List ℕ
whole_bytes bs = take (8 * (length bs / 8)) bs

-- The bytes after its last whole record: seven at most.
abbrev pub left_bytes : List ℕ → List ℕ
left_bytes bs = drop (8 * (length bs / 8)) bs

-- The string that pieces make, empty ones among them.
abbrev pub string_of : List (List ℕ) → List ℕ
string_of [] = []
string_of (piece ∷ pieces) = piece ++ string_of pieces

-- ---- the state

-- The number of places for left-over bytes: one fewer than a record has bytes.
abbrev pub places : ℕ
places = 7

-- A reader's state, the bytes in all places, and how many of them, from the first on, are held.
pub record LineState : Type 0 where
  pub reader : ReaderState
  pub left : List ℕ
  pub count : ℕ

-- The left-over bytes that a state holds.
abbrev pub held_in : LineState → List ℕ
held_in s = take s.count s.left

-- Bytes in the places, with 0 in the unused ones.
abbrev pub placed : List ℕ → List ℕ
placed held = held ++ replicate (places - length held) 0

-- The state of a reader that carries these bytes.
abbrev pub carrying : ReaderState → List ℕ → LineState
carrying r held = record { reader = r; left = placed held; count = length held }

-- There are seven places, at most seven bytes are held, and unused places are 0.
abbrev pub left_good : List ℕ → ℕ → Bool
left_good left count = eqb (length left) places && (leb count places && zeros (drop count left))

-- A well-formed state: the reader's, and the left-over bytes.
unfoldable pub line_good : Layout → LineState → Bool
line_good l s = reader_good l s.reader && left_good s.left s.count

-- ---- a fresh state: refusal 1

-- The answer of a fresh state.
pub record FreshLine : Type 0 where
  pub verdict : Verdict
  pub state : LineState

-- A fresh reader, or zeros and mode following; nothing is left over.
unfoldable pub fresh_line_call : Layout → Setup → FreshLine
fresh_line_call l u = let a = fresh_reader_call l u in record { verdict = a.verdict; state = carrying a.state [] }

-- ---- taking a piece: refusal 2

-- The answer of a piece: the verdict, the state and what the run tells.
pub record Taken : Type 0 where
  pub verdict : Verdict
  pub state : LineState
  pub counts : Counts

-- A refused piece: the state as it came in, and zeros.
abbrev pub not_taken : Verdict → LineState → Taken
not_taken v s = record { verdict = v; state = s; counts = nothing }

-- What document 01's rules give for a byte string: the answer of `run` to its whole records, and the bytes after them left over.
abbrev pub read_string : Layout → ReaderState → List ℕ → Taken
read_string l r bs = let a = run_call l r (whole_bytes bs) in record { verdict = a.verdict; state = carrying a.state (left_bytes bs); counts = a.counts }

-- What a piece answers: it is read behind the bytes that were left over. An empty piece changes nothing.
unfoldable pub take_call : Layout → LineState → List ℕ → Taken
take_call l s piece = cond (line_good l s) (read_string l s.reader (held_in s ++ piece)) (not_taken state s)

-- The five counts together: no more than the records that were read, so they can be added up.
abbrev pub total : Counts → ℕ
total a = a.shown + a.types + a.codes + a.bad + a.ignored

-- Two answers, one after the other, as one: the first refusal, the later state, and the counts added up.
abbrev pub both_taken : Taken → Taken → Taken
both_taken a b = record { verdict = cond (is_accepted a.verdict) b.verdict a.verdict; state = b.state; counts = plus a.counts b.counts }

-- Pieces one after the other, each on the state that the one before left; no piece at all changes nothing.
abbrev pub take_pieces : Layout → LineState → List (List ℕ) → Taken
take_pieces l s [] = record { verdict = accepted; state = s; counts = nothing }
take_pieces l s (piece ∷ pieces) = let a = take_call l s piece in both_taken a (take_pieces l a.state pieces)

-- ---- a load between pieces: refusals 2, 7, 8

-- The answer of a load: the verdict and the state.
pub record LineLoaded : Type 0 where
  pub verdict : Verdict
  pub state : LineState

-- Another reader with the same left-over bytes.
abbrev pub beside : LineState → ReaderState → LineState
beside s r = record { reader = r; left = s.left; count = s.count }

-- What a load answers: the reader's own answer; the left-over bytes stay.
unfoldable pub line_load_call : Layout → LineState → List ℤ → ℕ → LineLoaded
line_load_call l s m c =
    let a = load_call l s.reader m c in
    cond (line_good l s) (record { verdict = a.verdict; state = beside s a.state }) (record { verdict = state; state = s })

-- What document 01's rules give for the rest of a string into which a load comes: the records that are whole before it are read before it, and all
-- others of the string after it.
abbrev pub read_around : Layout → ReaderState → List ℕ → List ℤ → ℕ → List ℕ → Taken
read_around l r before m c after =
    let a = load_call l (run_call l r (whole_bytes before)).state m c in
    let b = run_call l a.state (drop (length (whole_bytes before)) (whole_bytes (before ++ after))) in
    record { verdict = b.verdict; state = carrying b.state (left_bytes (before ++ after)); counts = b.counts }

-- ---- asked for a slot: refusal 2, then the slot number, then the mode

-- What the reader answers of a slot; left-over bytes are no event yet.
unfoldable pub line_ask_call : Layout → LineState → ℕ → Asked
line_ask_call l s k = cond (line_good l s) (ask_call l s.reader k) (refused state)

-- ---- the refusals, as rows of document 01's table

-- A piece, and a question: STATE. Number 6 stays for the old call.
abbrev pub line_rows : Layout → LineState → List Row
line_rows l s = unless 2 (line_good l s) ∷ []

-- A load: STATE, NOT STALE, IMAGE.
abbrev pub line_load_rows : Layout → LineState → List ℤ → ℕ → List Row
line_load_rows l s m c =
    unless 2 (line_good l s) ∷ unless 7 (is_stale s.reader.reader.mode) ∷ unless 8 (image_good (panel_of l s.reader.setup) m c) ∷ []
