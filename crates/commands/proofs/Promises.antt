-- What the promise of `read` settles, for every answer that it allows: its numbers and values; the place moves on, past the whole command, at every
-- answer but unfinished and nothing, so a reader of all commands ends; what stands before and what comes later. Assumes nothing.
use mathlib.Core.Path.{◌≡◌, sym, ap, ◌∙◌}
use mathlib.Core.Bool.{false}
use mathlib.Core.List.{List, [], ◌∷◌, ◌++◌}
use Prim.Native.Nat.{ℕ, ◌+◌, ◌-◌, ◌≤◌, ◌<◌}
use native.Mathlib.Omega.{arith}
use lib.ListN.{length}
use Rattle.model.specs.Unique.{Gives}
use Rattle.model.specs.Commands as M
use Rattle.model.specs.Commands.{length_of, answer_number, answer_refusal, answer_values, waits, read_at}
use Rattle.model.proofs.CommandReads.{kind_at, read-on, read_within, read-unfinished, read_behind, read_longer}
use Rattle.commands.specs.declared.Answer.TheVariants as A
use Rattle.commands.specs.declared.ReadAnswer.{ReadAnswer}
use Rattle.commands.specs.Seen.{answer_seen, number_of, refusal_of, values_of, held_read, read_seen, AnswersAs, waiting, ReadsOn}
use Rattle.commands.proofs.Answers.{read-seen, answers}
use Rattle.commands.proofs.read.Reads as read

-- The claim of which the laws below speak is the contract of `read` itself.
pub read_is : (κs : _) (a : _) (r : ReadAnswer) (t : _) → read.Learnt κs a r t → AnswersAs a.0.now a.1.0 r
read_is κs a r t e = e

-- Its numbers are the model's,
pub read_number : Gives read.Learnt (λ κs r. number_of r.answer) (λ κs a. answer_number (read_at a.0.now a.1.0).answer)
read_number κs a r s e = e.number

-- 11 and 0 among them,
pub read-refusal : Gives read.Learnt (λ κs r. refusal_of r.answer) (λ κs a. answer_refusal (read_at a.0.now a.1.0).answer)
read-refusal κs a r s e = e.refusal

-- and so are its values.
pub read-values : Gives read.Learnt (λ κs r. values_of r.answer) (λ κs a. answer_values (read_at a.0.now a.1.0).answer)
read-values κs a r s e = e.values

module _ (input : List ℕ) (at : ℕ) (r : ReadAnswer) (h : AnswersAs input at r) where
  -- The answer is the model's.
  pub is_read : read_seen r ≡ read_at input at
  is_read = ap read_seen h.answer ∙ read-seen (read_at input at)

  pub next-is : r.next ≡ (read_at input at).next
  next-is = ap (λ (q : M.Read). q.next) is_read

  pub answer-is : answer_seen r.answer ≡ (read_at input at).answer
  answer-is = ap (λ (q : M.Read). q.answer) is_read

  given : waiting r ≡ false → waits (read_at input at).answer ≡ false
  given w = sym (ap waits answer-is) ∙ w

  -- The place moves on at every answer but unfinished and nothing,
  pub moves-on : waiting r ≡ false → (at < r.next) × (r.next ≤ length input)
  moves-on w =
      let on = read-on input at (given w) in
      (rw next-is on.1, rw next-is on.2)

  -- past the whole command, also where it is refused or lost,
  pub goes_past : waiting r ≡ false → r.next ≡ at + length_of (kind_at input at)
  goes_past w = next-is ∙ (read-on input at (given w)).0

  -- is never past the end,
  pub stays-inside : r.next ≤ length input
  stays-inside = rw next-is (read_within input at)

  -- and stays at the first byte of a command that is unfinished.
  pub stays : r.answer ≡ A.Unfinished → r.next ≡ at
  stays e = next-is ∙ read-unfinished input at (sym answer-is ∙ ap answer_seen e)

-- So a reader of all commands ends: it gets no more answers that do not wait than there are bytes from the position on.
pub reads-few : (input : List ℕ) (at : ℕ) (rs : List ReadAnswer) → ReadsOn input at rs → length rs ≤ length input - at
reads-few input at [] h = omega arith
reads-few input at (r ∷ rs) h =
    let on = moves-on input at r h.0 h.1 in
    omega (arith, on, reads-few input r.next rs h.2)

-- What stands before the position does not matter: a host may drop the bytes that it is done with.
pub reads-behind : (before input : List ℕ) (at : ℕ) (r q : ReadAnswer) → AnswersAs (before ++ input) (length before + at) r → AnswersAs input at q
    → r ≡ record { answer = q.answer; next = length before + q.next }
reads-behind before input at r q h g =
    h.answer ∙ ap held_read (read_behind before input at)
    ∙ sym (ap (λ (x : ReadAnswer). record { answer = x.answer; next = length before + x.next }) g.answer)

-- An answer that was given is not changed by what comes later,
pub given_stays : (input more : List ℕ) (at : ℕ) (r q : ReadAnswer) → AnswersAs input at r → AnswersAs (input ++ more) at q → waiting r ≡ false → r ≡ q
given_stays input more at r q h g w = h.answer ∙ sym (ap held_read (read_longer input more at (given input at r h w))) ∙ sym g.answer

-- and so are all of them.
pub reads_stay : (input more : List ℕ) (at : ℕ) (rs : List ReadAnswer) → ReadsOn input at rs → ReadsOn (input ++ more) at rs
reads_stay input more at [] h = h
reads_stay input more at (r ∷ rs) h =
    let same = read_longer input more at (given input at r h.0 h.1) in
    (answers (input ++ more) at r (h.0.answer ∙ sym (ap held_read same)), h.1, reads_stay input more r.next rs h.2)
