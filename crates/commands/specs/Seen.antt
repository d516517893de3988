-- The structs of the commands as the model's values, and back, and what the functions answer by them; the meaning is the model's. Cited by the
-- promises of src/lib.rt. Assumes nothing.
use Rattle.std.specs.Prelude.{◌≡◌, Bool, true, false, List, [], ◌∷◌, ℕ, ◌+◌, ℤ, length}
use Rattle.model.specs.Commands as M
use Rattle.common.specs.Seen.{verdict_from, verdict_number}
use Rattle.pod.specs.declared.PodState.{PodState}
use Rattle.pod.specs.Seen as Pod
use Rattle.commands.specs.declared.Command.{Command}
use Rattle.commands.specs.declared.Command.TheVariants as C
use Rattle.commands.specs.declared.Kind.{Kind}
use Rattle.commands.specs.declared.Kind.TheVariants as K
use Rattle.commands.specs.declared.Answer.{Answer}
use Rattle.commands.specs.declared.Answer.TheVariants as A
use Rattle.commands.specs.declared.ReadAnswer.{ReadAnswer}
use Rattle.commands.specs.declared.Written.{Written}

-- A command as the model's.
abbrev pub seen : Command → M.Command
seen (C.Reset c) = M.reset
seen (C.ButtonAction c) = M.buttons c.action
seen (C.RelativeMode c) = M.relative
seen (C.AbsoluteMode c) = M.absolute c.x c.y
seen (C.Threshold c) = M.threshold c.x c.y
seen (C.Scale c) = M.scale c.x c.y
seen (C.Interrogate c) = M.interrogate
seen (C.LoadPosition c) = M.load c.x c.y
seen (C.SetClock c) = M.set_clock (Pod.clock_seen c.clock)
seen (C.AskClock c) = M.ask_clock

-- The model's command as an enum.
abbrev pub held : M.Command → Command
held M.reset = C.Reset (record {})
held (M.buttons action) = C.ButtonAction (record { action = action })
held M.relative = C.RelativeMode (record {})
held (M.absolute x y) = C.AbsoluteMode (record { x = x; y = y })
held (M.threshold x y) = C.Threshold (record { x = x; y = y })
held (M.scale x y) = C.Scale (record { x = x; y = y })
held M.interrogate = C.Interrogate (record {})
held (M.load x y) = C.LoadPosition (record { x = x; y = y })
held (M.set_clock c) = C.SetClock (record { clock = Pod.held_clock c })
held M.ask_clock = C.AskClock (record {})

-- A kind of command as the model's.
abbrev pub kind_seen : Kind → M.Kind
kind_seen K.Reset = M.reset_kind
kind_seen K.ButtonAction = M.buttons_kind
kind_seen K.RelativeMode = M.relative_kind
kind_seen K.AbsoluteMode = M.absolute_kind
kind_seen K.Threshold = M.threshold_kind
kind_seen K.Scale = M.scale_kind
kind_seen K.Interrogate = M.interrogate_kind
kind_seen K.LoadPosition = M.load_kind
kind_seen K.SetClock = M.set_clock_kind
kind_seen K.AskClock = M.ask_clock_kind
kind_seen K.Other = M.other_kind

-- The model's answer as an enum.
abbrev pub held_answer : M.Answer → Answer
held_answer (M.command c) = A.Command (held c)
held_answer M.lost = A.Lost
held_answer M.not_for_us = A.NotForUs
held_answer M.refused = A.Refused
held_answer M.unfinished = A.Unfinished
held_answer M.nothing = A.Nothing

-- An answer as the model's.
abbrev pub answer_seen : Answer → M.Answer
answer_seen (A.Command c) = M.command (seen c)
answer_seen A.Lost = M.lost
answer_seen A.NotForUs = M.not_for_us
answer_seen A.Refused = M.refused
answer_seen A.Unfinished = M.unfinished
answer_seen A.Nothing = M.nothing

-- The number of an answer.
abbrev pub number_of : Answer → ℕ
number_of a = M.answer_number (answer_seen a)

-- The refusal number of an answer.
abbrev pub refusal_of : Answer → ℕ
refusal_of a = M.answer_refusal (answer_seen a)

-- The values of an answer.
abbrev pub values_of : Answer → List ℤ
values_of a = M.answer_values (answer_seen a)

-- An answer and where reading goes on, as a struct.
abbrev pub held_read : M.Read → ReadAnswer
held_read r = record { answer = held_answer r.answer; next = r.next }

-- And back.
abbrev pub read_seen : ReadAnswer → M.Read
read_seen r = record { answer = answer_seen r.answer; next = r.next }

-- What `read` promises of its answer r to an input and a position: it is the model's, with its number, refusal number and values.
pub record AnswersAs (input : List ℕ) (at : ℕ) (r : ReadAnswer) : Type 0 where
  pub answer : r ≡ held_read (M.read_at input at)
  pub number : number_of r.answer ≡ M.answer_number (M.read_at input at).answer
  pub refusal : refusal_of r.answer ≡ M.answer_refusal (M.read_at input at).answer
  pub values : values_of r.answer ≡ M.answer_values (M.read_at input at).answer

-- An answer waits for more bytes.
abbrev pub waiting : ReadAnswer → Bool
waiting r = M.waits (answer_seen r.answer)

-- What a host was answered that reads on, each time from where the answer before says, while no answer waits: the contract of `read` allows each.
abbrev pub ReadsOn : List ℕ → ℕ → List ReadAnswer → Type 0
ReadsOn input at [] = Unit {0}
ReadsOn input at (r ∷ rs) = AnswersAs input at r × (waiting r ≡ false) × ReadsOn input r.next rs

-- A write's answer as a struct.
abbrev pub written_from : M.Written → Written
written_from w = record { verdict = verdict_from w.verdict; state = Pod.held w.state; need = w.need }

-- It was accepted.
abbrev pub IsAccepted : Written → Type 0
IsAccepted w = verdict_number w.verdict ≡ 0

-- What `write` promises of its answer and of the buffer afterwards.
pub record Wrote (state : PodState) (command : Command) (at : ℕ) (buf : List ℕ) (r : Written) (after : List ℕ) : Type 0 where
  pub answer : r ≡ written_from (M.write_call (Pod.seen state) (seen command) at (length buf))
  pub buffer : after ≡ M.write_buffer (Pod.seen state) (seen command) at buf

-- ---- lists of calls

-- A call of `write`: the pod's state that was in hand, the command, the answer and the buffer that it left.
pub record Call : Type 0 where
  pub pod : PodState
  pub command : Command
  pub answer : Written
  pub after : List ℕ

-- Where writing goes on after a call that was accepted.
abbrev pub place_after : ℕ → Call → ℕ
place_after at c = at + M.size_of (seen c.command)

-- Calls one after the other, each where the command before it ended and all accepted: the contract of `write` allows each.
abbrev pub WritesOn : List ℕ → ℕ → List Call → Type 0
WritesOn buf at [] = Unit {0}
WritesOn buf at (c ∷ cs) = Wrote c.pod c.command at buf c.answer c.after × IsAccepted c.answer × WritesOn c.after (place_after at c) cs

-- Every number of their commands fits the bits that document 02 gives it, as the types have it.
abbrev pub Fits : List Call → Type 0
Fits [] = Unit {0}
Fits (c ∷ cs) = (M.sized (seen c.command) ≡ true) × Fits cs

-- The buffer that they leave.
abbrev pub buffer_after : List ℕ → List Call → List ℕ
buffer_after buf [] = buf
buffer_after buf (c ∷ cs) = buffer_after c.after cs

-- Their commands, as the model's.
abbrev pub commands_of : List Call → List M.Command
commands_of [] = []
commands_of (c ∷ cs) = seen c.command ∷ commands_of cs

-- What a host was answered that reads on, each time from where the answer before says, whatever the answers: the contract of `read` allows each.
abbrev pub ReadsEach : List ℕ → ℕ → List ReadAnswer → Type 0
ReadsEach input at [] = Unit {0}
ReadsEach input at (r ∷ rs) = AnswersAs input at r × ReadsEach input r.next rs

-- The answers that are the commands of these calls, each with the place where it ends.
abbrev pub told : ℕ → List Call → List ReadAnswer
told at [] = []
told at (c ∷ cs) = record { answer = A.Command c.command; next = place_after at c } ∷ told (place_after at c) cs
