-- What is held of the model's answers is seen again, so all that `read` promises follows from the answer alone; and an answer is known by its
-- number and values. Cited by the proof of `read` and by Promises. Assumes nothing.
use mathlib.Core.Path.{◌≡◌, refl, sym, ap, ◌∙◌}
use mathlib.Core.List.{List}
use Prim.Native.Nat.{ℕ}
use Rattle.model.specs.Force as M
use Rattle.model.proofs.ForceForms.{told-apart}
use Rattle.force.specs.declared.Answer.{Answer}
use Rattle.force.specs.declared.Answer.TheVariants as A
use Rattle.force.specs.declared.ReadAnswer.{ReadAnswer}
use Rattle.force.specs.Seen.{held_answer, answer_seen, number_of, values_of, held_read, read_seen, AnswersAs}

pub answer-seen : (a : M.Answer) → answer_seen (held_answer a) ≡ a
answer-seen (M.report r) = refl
answer-seen (M.not_for_us op len) = refl
answer-seen M.length_over = refl
answer-seen M.wrong_check = refl
answer-seen M.unfinished = refl
answer-seen M.nothing = refl

pub read-seen : (r : M.Read) → read_seen (held_read r) ≡ r
read-seen r = ap (λ a. record { answer = a; next = r.next }) (answer-seen r.answer)

pub answers : (input : List ℕ) (at : ℕ) (r : ReadAnswer) → r ≡ held_read (M.read_at input at) → AnswersAs input at r
answers input at r e =
    let back = ap (λ (x : ReadAnswer). answer_seen x.answer) e ∙ answer-seen (M.read_at input at).answer in
    record { answer = e; number = ap M.answer_number back; values = ap M.answer_values back }

-- An answer's number and values are the whole of it.
answer-held : (a : Answer) → held_answer (answer_seen a) ≡ a
answer-held (A.Report r) = refl
answer-held (A.NotForUs op len) = refl
answer-held A.LengthOver = refl
answer-held A.WrongCheck = refl
answer-held A.Unfinished = refl
answer-held A.Nothing = refl

pub answers-apart : (a b : Answer) → number_of a ≡ number_of b → values_of a ≡ values_of b → a ≡ b
answers-apart a b n v = sym (answer-held a) ∙ ap held_answer (told-apart (answer_seen a) (answer_seen b) n v) ∙ answer-held b
