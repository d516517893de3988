-- The force stick's structs as the model's values, and back, and what its functions answer by them; the meaning is the model's. Cited by the
-- promises of src/lib.rt. Assumes nothing.
use Rattle.std.specs.Prelude.{◌≡◌, Bool, false, List, [], ◌∷◌, ℕ, ℤ, length}
use Rattle.model.specs.Force as M
use Rattle.common.specs.Seen.{verdict_from, verdict_number}
use Rattle.force.specs.declared.Report.{Report}
use Rattle.force.specs.declared.Answer.{Answer}
use Rattle.force.specs.declared.Answer.TheVariants as A
use Rattle.force.specs.declared.ReadAnswer.{ReadAnswer}
use Rattle.force.specs.declared.Written.{Written}

-- A report as the model's.
abbrev pub seen : Report → M.Report
seen r = record { x = r.x; y = r.y; throttle = r.throttle; buttons = r.buttons; hat = r.hat; rudder = r.rudder }

-- The model's report as a struct.
abbrev pub held : M.Report → Report
held r = record { x = r.x; y = r.y; throttle = r.throttle; buttons = r.buttons; hat = r.hat; rudder = r.rudder }

-- The model's answer as an enum.
abbrev pub held_answer : M.Answer → Answer
held_answer (M.report r) = A.Report (held r)
held_answer (M.not_for_us op len) = A.NotForUs op len
held_answer M.length_over = A.LengthOver
held_answer M.wrong_check = A.WrongCheck
held_answer M.unfinished = A.Unfinished
held_answer M.nothing = A.Nothing

-- An answer as the model's.
abbrev pub answer_seen : Answer → M.Answer
answer_seen (A.Report r) = M.report (seen r)
answer_seen (A.NotForUs op len) = M.not_for_us op len
answer_seen A.LengthOver = M.length_over
answer_seen A.WrongCheck = M.wrong_check
answer_seen A.Unfinished = M.unfinished
answer_seen A.Nothing = M.nothing

-- The number of an answer.
abbrev pub number_of : Answer → ℕ
number_of a = M.answer_number (answer_seen a)

-- The values of an answer.
abbrev pub values_of : Answer → List ℤ
values_of a = M.answer_values (answer_seen a)

-- An answer and where reading goes on, as a struct.
abbrev pub held_read : M.Read → ReadAnswer
held_read r = record { answer = held_answer r.answer; next = r.next }

-- And back.
abbrev pub read_seen : ReadAnswer → M.Read
read_seen r = record { answer = answer_seen r.answer; next = r.next }

-- What `read` promises of its answer r to an input and a position: it is the model's, with its number and values.
pub record AnswersAs (input : List ℕ) (at : ℕ) (r : ReadAnswer) : Type 0 where
  pub answer : r ≡ held_read (M.read_at input at)
  pub number : number_of r.answer ≡ M.answer_number (M.read_at input at).answer
  pub values : values_of r.answer ≡ M.answer_values (M.read_at input at).answer

-- An answer waits for more bytes.
abbrev pub waiting : ReadAnswer → Bool
waiting r = M.waits (answer_seen r.answer)

-- What a host was answered that reads on, each time from where the answer before says, while no answer waits: the contract of `read` allows each.
abbrev pub ReadsOn : List ℕ → ℕ → List ReadAnswer → Type 0
ReadsOn input at [] = Unit {0}
ReadsOn input at (r ∷ rs) = AnswersAs input at r × (waiting r ≡ false) × ReadsOn input r.next rs

-- A write's answer as a struct.
abbrev pub written_from : M.Written → Written
written_from w = record { verdict = verdict_from w.verdict; need = w.need }

-- It was accepted.
abbrev pub IsAccepted : Written → Type 0
IsAccepted w = verdict_number w.verdict ≡ 0

-- What `write` promises of its answer and of the buffer afterwards.
pub record Wrote (report : Report) (at : ℕ) (buf : List ℕ) (r : Written) (after : List ℕ) : Type 0 where
  pub answer : r ≡ written_from (M.write_call (seen report) at (length buf))
  pub buffer : after ≡ M.write_buffer (seen report) at buf
