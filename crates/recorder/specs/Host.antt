-- What a host does with a recording: it lays it, reads piece after piece, and has of each its events or a loss. The theorems of proofs/Promises and
-- proofs/Replay speak of it. Assumes nothing.
use Rattle.std.specs.Prelude.{◌≡◌, List, [], ◌∷◌, ◌++◌, ℕ, suc, ◌+◌, ◌*◌, ◌/◌, ◌≤◌, ◌<◌, T, length, take, drop, Result, Ok, Err}
use Rattle.model.specs.Recorder as M
use Rattle.common.specs.declared.Verdict.TheVariants.{Accepted}
use Rattle.recorder.specs.declared.BlocksLaid.{BlocksLaid}
use Rattle.recorder.specs.declared.Run.{Run}
use Rattle.recorder.specs.declared.BlockRefusal.{BlockRefusal}
use Rattle.recorder.specs.Seen.{LaysAs, read_seen, AnswersAs}

-- A block whose check is below 2^32, so that the four bytes that stand for it hold all of it, and whose answer gives these events back.
pub record ReadsBack (events block : List ℕ) (r : Result Run BlockRefusal) : Type 0 where
  pub below : M.check_of block < M.number_limit
  pub held : M.check_of block ≡ M.check_in block
  pub answer : r ≡ Ok (record { at = M.header_length; count = length events / 8 })
  pub said : M.said (read_seen r) block ≡ events

-- An accepted call of `lay_blocks` laid these bytes for these events, from a block number on: those from its position on, as many blocks as it says.
pub record Recorded (number : ℕ) (events laid : List ℕ) : Type 0 where
  pub at : ℕ
  pub before : List ℕ
  pub after : List ℕ
  pub answer : BlocksLaid
  pub promised : LaysAs number events at before after answer
  pub accepted : answer.verdict ≡ Accepted
  pub bytes : laid ≡ take (M.block_length * answer.blocks) (drop at after)

-- Bytes that are the recording of these events from a block number on: those of whole records, none of whose blocks is numbered past the last number.
pub record RecordingOf (number : ℕ) (events s : List ℕ) : Type 0 where
  pub laid : s ≡ M.joined (M.recording number events)
  pub numbers : number + M.blocks_for (length events) ≤ M.number_limit
  pub bytes : M.AllBytes events
  pub records : T (M.whole_records events)

-- Pieces were read one after the other, from a number on, each where its place is expected: one answer for each, as `read_block` promises it.
abbrev pub Answered : ℕ → List (List ℕ) → List (Result Run BlockRefusal) → Type 0
Answered number [] [] = Unit {0}
Answered number [] (r ∷ rs) = ⊥
Answered number (p ∷ ps) [] = ⊥
Answered number (p ∷ ps) (r ∷ rs) = AnswersAs number p r × Answered (suc number) ps rs

-- The records that the host has of them: those that an answer points to, and SYN_DROPPED for a refused piece.
abbrev pub heard : List (List ℕ) → List (Result Run BlockRefusal) → List ℕ
heard [] rs = []
heard (p ∷ ps) [] = []
heard (p ∷ ps) (r ∷ rs) = M.said (read_seen r) p ++ heard ps rs

-- None of them is refused.
abbrev pub AllEvents : List (Result Run BlockRefusal) → Type 0
AllEvents [] = Unit {0}
AllEvents (r ∷ rs) = (M.read_number (read_seen r) ≡ 0) × AllEvents rs

-- Answers that are those of a whole recording up to place j, and there one that refuses by this name.
pub record RefusedAs (j : ℕ) (why : BlockRefusal) (whole rs : List (Result Run BlockRefusal)) : Type 0 where
  pub before : take j rs ≡ take j whole
  pub there : take 1 (drop j rs) ≡ Err why ∷ []
