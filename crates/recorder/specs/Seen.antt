-- The recorder's structs as the model's values, and back; the meaning is the model's. Cited by the promises of src/lib.rt. Assumes nothing.
use Rattle.std.specs.Prelude.{◌≡◌, List, ℕ, ◌+◌, ◌*◌, ◌≤◌, length, replicate, Result, Ok, Err}
use Rattle.model.specs.Recorder as M
use Rattle.common.specs.declared.Verdict.{Verdict}
use Rattle.common.specs.Seen.{verdict_from}
use Rattle.recorder.specs.declared.BlockMade.{BlockMade}
use Rattle.recorder.specs.declared.BlocksLaid.{BlocksLaid}
use Rattle.recorder.specs.declared.Run.{Run}
use Rattle.recorder.specs.declared.BlockRefusal.{BlockRefusal}
use Rattle.recorder.specs.declared.BlockRefusal.TheVariants as R

-- The answer of a block that is made.
abbrev pub made_from : M.Made → BlockMade
made_from a = record { verdict = verdict_from a.verdict; block = a.block }

-- A refused one's: zeros.
abbrev pub not_made : Verdict → BlockMade
not_made v = record { verdict = v; block = replicate M.block_length 0 }

-- The blocks of events have their numbers, and the buffer has room for them.
pub record Room (number : ℕ) (events : List ℕ) (blocks : ℕ) (buf : List ℕ) (at : ℕ) : Type 0 where
  pub count : blocks ≡ M.blocks_for (length events)
  pub numbers : number + blocks ≤ M.number_limit
  pub room : at + M.block_length * blocks ≤ length buf

-- The answer of blocks that are laid.
abbrev pub laid_from : M.Laid → BlocksLaid
laid_from a = record { verdict = verdict_from a.verdict; blocks = a.blocks; next = a.next; need = a.need }

-- A refused one's.
abbrev pub not_laid : Verdict → ℕ → ℕ → BlocksLaid
not_laid v number need = record { verdict = v; blocks = 0; next = number; need = need }

-- What `lay_blocks` promises of its answer r and of the buffer after it: both are the model's.
pub record LaysAs (number : ℕ) (events : List ℕ) (at : ℕ) (before after : List ℕ) (r : BlocksLaid) : Type 0 where
  pub answer : r ≡ laid_from (M.lay_call number events at (length before))
  pub buffer : after ≡ M.lay_buffer number events at before

-- The model's answer to a block as a run or a refusal.
abbrev pub held_read : M.BlockRead → Result Run BlockRefusal
held_read (M.events_at at count) = Ok (record { at = at; count = count })
held_read M.wrong_check = Err R.WrongCheck
held_read M.wrong_number = Err R.WrongNumber
held_read M.count_over = Err R.CountOver
held_read M.not_zero = Err R.NotZero

-- An answer as the model's.
abbrev pub read_seen : Result Run BlockRefusal → M.BlockRead
read_seen (Ok run) = M.events_at run.at run.count
read_seen (Err R.WrongCheck) = M.wrong_check
read_seen (Err R.WrongNumber) = M.wrong_number
read_seen (Err R.CountOver) = M.count_over
read_seen (Err R.NotZero) = M.not_zero

-- The number of an answer's name in document 02's order, and 0 for events.
abbrev pub name_of : Result Run BlockRefusal → ℕ
name_of r = M.read_number (read_seen r)

-- The numbers of an answer.
abbrev pub values_of : Result Run BlockRefusal → List ℕ
values_of r = M.read_values (read_seen r)

-- What `read_block` promises of its answer r to a piece where a number is expected: it is the model's, with its name's number and its values.
pub record AnswersAs (number : ℕ) (piece : List ℕ) (r : Result Run BlockRefusal) : Type 0 where
  pub answer : r ≡ held_read (M.read_block number piece)
  pub name : name_of r ≡ M.read_number (M.read_block number piece)
  pub values : values_of r ≡ M.read_values (M.read_block number piece)
