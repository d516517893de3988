-- K5: what the calls of a reader that takes pieces promise, as claims of what is handed in and what is answered, and pieces one after the other with
-- their answers. proofs/PiecesCalls checks the claims against the contracts. Assumes nothing.
use Rattle.std.specs.Prelude.{◌≡◌, true, List, [], ◌∷◌, ◌++◌, map, ℕ, ℤ, length, take, drop}
use Rattle.model.specs.Panel.{base}
use Rattle.model.specs.Reader.{nothing}
use Rattle.model.specs.Pieces.{whole_bytes, left_bytes, string_of, placed, line_good, fresh_line_call, take_call, line_load_call, line_ask_call}
use Rattle.common.specs.declared.Verdict.TheVariants.{Accepted}
use Rattle.common.specs.declared.Counts.{Counts}
use Rattle.common.specs.Seen.{counts_from}
use Rattle.panel.specs.declared.Setup.{Setup}
use Rattle.panel.specs.Seen.{setup_of}
use Rattle.reader.specs.declared.RunAnswer.{RunAnswer}
use Rattle.reader.specs.declared.LoadAnswer.{LoadAnswer as ReaderLoad}
use Rattle.reader.specs.declared.SlotAnswer.{SlotAnswer}
use Rattle.reader.specs.Seen.{asked_from}
use Rattle.pieces.specs.declared.LineState.{LineState}
use Rattle.pieces.specs.declared.FreshAnswer.{FreshAnswer}
use Rattle.pieces.specs.declared.TakeAnswer.{TakeAnswer}
use Rattle.pieces.specs.declared.LoadAnswer.{LoadAnswer}
use Rattle.pieces.specs.Seen.{seen, fresh_from, taken_from, loaded_from}
use Rattle.link.specs.Promises.{added}

-- ---- the promises

-- What `LineState::fresh` promises of its answer.
abbrev pub LineMade : Setup → FreshAnswer → Type 0
LineMade u r = r ≡ fresh_from (fresh_line_call base (setup_of u))

-- What `take` promises of its answer.
abbrev pub Took : LineState → List ℕ → TakeAnswer → Type 0
Took s piece q = q ≡ taken_from (take_call base (seen s) piece)

-- What `load` promises of its answer.
abbrev pub LineLoaded : LineState → List ℤ → ℕ → LoadAnswer → Type 0
LineLoaded s m c q = q ≡ loaded_from (line_load_call base (seen s) m c)

-- What `ask` promises of its answer.
abbrev pub LineAsked : LineState → ℕ → SlotAnswer → Type 0
LineAsked s k r = r ≡ asked_from (line_ask_call base (seen s) k)

-- A line's state is well formed.
abbrev pub GoodLine : LineState → Type 0
GoodLine s = line_good base (seen s) ≡ true

-- The left-over bytes that a state holds.
abbrev pub held_by : LineState → List ℕ
held_by s = take s.count s.left

-- ---- pieces, one after the other

-- A piece, and what it was answered.
pub record Piece : Type 0 where
  pub bytes : List ℕ
  pub answer : TakeAnswer

-- The contract of `take` allows the answers, each on the state that the piece before left.
abbrev pub AllTook : LineState → List Piece → Type 0
AllTook s [] = Unit {0}
AllTook s (p ∷ ps) = Took s p.bytes p.answer × AllTook p.answer.state ps

-- The state after them.
abbrev pub line_after : LineState → List Piece → LineState
line_after s [] = s
line_after s (p ∷ ps) = line_after p.answer.state ps

-- Their counts added up, with the first event skipped of all.
abbrev pub counted_all : List Piece → Counts
counted_all [] = counts_from nothing
counted_all (p ∷ ps) = added p.answer.counts (counted_all ps)

-- None of them was refused.
abbrev pub AllAccepted : List Piece → Type 0
AllAccepted [] = Unit {0}
AllAccepted (p ∷ ps) = (p.answer.verdict ≡ Accepted) × AllAccepted ps

-- The string that they make.
abbrev pub line_bytes : List Piece → List ℕ
line_bytes ps = string_of (map (λ (p : Piece). p.bytes) ps)

-- ---- what K5 asks

-- What the line's state s and its pieces are after them, where q is what `run` answers to the whole records of the string bs: none was refused, the
-- reader and the counts are that answer's, and the bytes of bs after its whole records are left over, with 0 in the unused places.
pub record ReadAs (s : LineState) (ps : List Piece) (bs : List ℕ) (q : RunAnswer) : Type 0 where
  pub accepted : AllAccepted ps
  pub reader : (line_after s ps).reader ≡ q.state
  pub counts : counted_all ps ≡ q.counts
  pub left : (line_after s ps).left ≡ placed (left_bytes bs)
  pub count : (line_after s ps).count ≡ length (left_bytes bs)

-- A load's answer q on the state s, where l is what the reader's own load answers: the same verdict and reader, and the left-over bytes stay.
pub record LoadedBeside (s : LineState) (q : LoadAnswer) (l : ReaderLoad) : Type 0 where
  pub verdict : q.verdict ≡ l.verdict
  pub reader : q.state.reader ≡ l.state
  pub left : q.state.left ≡ s.left
  pub count : q.state.count ≡ s.count

-- The whole records of a string that are not whole in the bytes before a place of it.
abbrev pub records_from : List ℕ → List ℕ → List ℕ
records_from before after = drop (length (whole_bytes before)) (whole_bytes (before ++ after))
