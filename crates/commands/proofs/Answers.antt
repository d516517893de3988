-- What is held of the model's answers is seen again, so all that `read` promises follows from the answer alone; and an answer is known by its
-- number and values. Cited by the proof of `read` and by Promises. Assumes nothing.
use mathlib.Core.Path.{◌≡◌, refl, sym, ap, ◌∙◌}
use mathlib.Core.List.{List}
use Prim.Native.Nat.{ℕ}
use Rattle.model.specs.Commands as M
use Rattle.model.proofs.CommandOnes.{told-apart}
use Rattle.commands.specs.declared.Command.{Command}
use Rattle.commands.specs.declared.Command.TheVariants as C
use Rattle.commands.specs.declared.Answer.{Answer}
use Rattle.commands.specs.declared.Answer.TheVariants as A
use Rattle.commands.specs.declared.ReadAnswer.{ReadAnswer}
use Rattle.commands.specs.Seen.{seen, held, held_answer, answer_seen, number_of, values_of, held_read, read_seen, AnswersAs}

pub command-seen : (c : M.Command) → seen (held c) ≡ c
command-seen M.reset = refl
command-seen (M.buttons action) = refl
command-seen M.relative = refl
command-seen (M.absolute x y) = refl
command-seen (M.threshold x y) = refl
command-seen (M.scale x y) = refl
command-seen M.interrogate = refl
command-seen (M.load x y) = refl
command-seen (M.set_clock c) = refl
command-seen M.ask_clock = refl

pub command-held : (c : Command) → held (seen c) ≡ c
command-held (C.Reset c) = refl
command-held (C.ButtonAction c) = refl
command-held (C.RelativeMode c) = refl
command-held (C.AbsoluteMode c) = refl
command-held (C.Threshold c) = refl
command-held (C.Scale c) = refl
command-held (C.Interrogate c) = refl
command-held (C.LoadPosition c) = refl
command-held (C.SetClock c) = refl
command-held (C.AskClock c) = refl

pub answer-seen : (a : M.Answer) → answer_seen (held_answer a) ≡ a
answer-seen (M.command c) = ap M.command (command-seen c)
answer-seen M.lost = refl
answer-seen M.not_for_us = refl
answer-seen M.refused = refl
answer-seen M.unfinished = refl
answer-seen M.nothing = refl

pub read-seen : (r : M.Read) → read_seen (held_read r) ≡ r
read-seen r = ap (λ a. record { answer = a; next = r.next }) (answer-seen r.answer)

pub answers : (input : List ℕ) (at : ℕ) (r : ReadAnswer) → r ≡ held_read (M.read_at input at) → AnswersAs input at r
answers input at r e =
    let back = ap (λ (x : ReadAnswer). answer_seen x.answer) e ∙ answer-seen (M.read_at input at).answer in
    record { answer = e; number = ap M.answer_number back; refusal = ap M.answer_refusal back; values = ap M.answer_values back }

-- An answer's number and values are the whole of it.
answer-held : (a : Answer) → held_answer (answer_seen a) ≡ a
answer-held (A.Command c) = ap A.Command (command-held c)
answer-held A.Lost = refl
answer-held A.NotForUs = refl
answer-held A.Refused = refl
answer-held A.Unfinished = refl
answer-held A.Nothing = refl

pub answers-apart : (a b : Answer) → number_of a ≡ number_of b → values_of a ≡ values_of b → a ≡ b
answers-apart a b n v = sym (answer-held a) ∙ ap held_answer (told-apart (answer_seen a) (answer_seen b) n v) ∙ answer-held b
