-- What the program makes of a piece of a recording. Cited by the promises of src/main.rt. Assumes nothing.
use Rattle.std.specs.Prelude.{◌≡◌, ℕ, List, Result, Ok, Err}
use Rattle.model.specs.Panel.{base}
use Rattle.model.specs.Calls.{run_call}
use Rattle.model.specs.Recorder.{read_block, said}
use Rattle.recorder.specs.Seen.{held_read}
use Rattle.recorder.specs.declared.Run.{Run}
use Rattle.recorder.specs.declared.BlockRefusal.{BlockRefusal}
use Rattle.recorder.specs.declared.BlockRefusal.TheVariants.{WrongCheck, WrongNumber, CountOver, NotZero}
use Rattle.reader.specs.States.{seen, held}
use Rattle.reader.specs.declared.ReaderState.{ReaderState}

-- The refusal at a place past the last number, from the answer at any number: no number is right there, and the check is judged before it.
abbrev pub past_last : Result Run BlockRefusal → BlockRefusal
past_last (Ok run) = WrongNumber
past_last (Err WrongCheck) = WrongCheck
past_last (Err WrongNumber) = WrongNumber
past_last (Err CountOver) = WrongNumber
past_last (Err NotZero) = WrongNumber

-- What is made of a piece p at its place by a reader in the state s: the reader after the records that p says there, SYN_DROPPED where p is refused;
-- and p's answer.
pub record HearsAs (s : ReaderState) (place : ℕ) (p : List ℕ) (after : ReaderState) (read : Result Run BlockRefusal) : Type 0 where
  pub state : after ≡ held (run_call base (seen s) (said (read_block place p) p)).state
  pub answer : read ≡ held_read (read_block place p)
