-- What the promise of `read` settles, for every answer that it allows: its number and values; the place moves on, so a reader of all packets
-- ends; any packet is read, wherever it stands; what a cut of the input changes. Assumes nothing.
use mathlib.Core.Path.{◌≡◌, sym, ap, ◌∙◌}
use mathlib.Core.Bool.{true, false}
use mathlib.Core.List.{List, [], ◌∷◌, ◌++◌}
use Prim.Native.Nat.{ℕ, ◌+◌, ◌-◌, ◌≤◌, ◌<◌}
use native.Mathlib.Omega.{arith}
use lib.ListN.{length, take, drop}
use Rattle.model.specs.Unique.{Gives}
use Rattle.model.specs.Force as M
use Rattle.model.specs.Force.{most_data, packet_bytes, packet, answer_number, answer_values, meant, waits, refuses, no_mark, mark_from, read_at, judged_up_to}
use Rattle.model.proofs.ForceReads.{read-on, read_within, read-refused, read-unfinished, read_behind, read_skipped}
use Rattle.model.proofs.ForceWritten.{packet_stands}
use Rattle.model.proofs.ForceCut.{read_longer, cut-before, cut_inside, cut-unfinished, cut-nothing, read-later}
use Rattle.force.specs.declared.Answer.TheVariants as A
use Rattle.force.specs.declared.ReadAnswer.{ReadAnswer}
use Rattle.force.specs.Seen.{held_answer, answer_seen, number_of, values_of, held_read, read_seen, AnswersAs, waiting, ReadsOn}
use Rattle.force.proofs.Answers.{read-seen, answers}
use Rattle.force.proofs.read.Reads as read

-- The claim of which the laws below speak is the contract of `read` itself.
pub read_is : (κs : _) (a : _) (r : ReadAnswer) (t : _) → read.Learnt κs a r t → AnswersAs a.0.now a.1.0 r
read_is κs a r t e = e

-- Its numbers are the model's,
pub read_number : Gives read.Learnt (λ κs r. number_of r.answer) (λ κs a. answer_number (read_at a.0.now a.1.0).answer)
read_number κs a r s e = e.number

-- and so are its values.
pub read-values : Gives read.Learnt (λ κs r. values_of r.answer) (λ κs a. answer_values (read_at a.0.now a.1.0).answer)
read-values κs a r s e = e.values

module _ (input : List ℕ) (at : ℕ) (r : ReadAnswer) (h : AnswersAs input at r) where
  -- The answer is the model's.
  pub is_read : read_seen r ≡ read_at input at
  is_read = ap read_seen h.answer ∙ read-seen (read_at input at)

  pub next-is : r.next ≡ (read_at input at).next
  next-is = ap (λ (q : M.Read). q.next) is_read

  pub answer-is : answer_seen r.answer ≡ (read_at input at).answer
  answer-is = ap (λ (q : M.Read). q.answer) is_read

  -- The place moves on at every answer but unfinished and nothing,
  pub moves-on : waiting r ≡ false → (at < r.next) × (r.next ≤ length input)
  moves-on w =
      let on = read-on input at (sym (ap waits answer-is) ∙ w) in
      (rw next-is on.0, rw next-is on.1)

  -- is never past the end,
  pub stays-inside : r.next ≤ length input
  stays-inside = rw next-is (read_within input at)

  -- is the 0x2B of a packet that is unfinished,
  pub stays-at-mark : r.answer ≡ A.Unfinished → r.next ≡ mark_from input at
  stays-at-mark e = next-is ∙ ap (λ (q : M.Read). q.next) (read-unfinished input at (sym answer-is ∙ ap answer_seen e))

  -- and the very next byte after the 0x2B of one that is refused.
  pub resumes : refuses (answer_seen r.answer) ≡ true → r.next ≡ mark_from input at + 1
  resumes w = next-is ∙ read-refused input at (sym (ap refuses answer-is) ∙ w)

-- So a reader of all packets ends: it gets no more answers that do not wait than there are bytes from the position on.
pub reads-few : (input : List ℕ) (at : ℕ) (rs : List ReadAnswer) → ReadsOn input at rs → length rs ≤ length input - at
reads-few input at [] h = omega arith
reads-few input at (r ∷ rs) h =
    let on = moves-on input at r h.0 h.1 in
    omega (arith, on, reads-few input r.next rs h.2)

-- Bytes without a 0x2B, from a position on, are skipped.
pub skips : (input : List ℕ) (from at : ℕ) (r q : ReadAnswer) → AnswersAs input from r → AnswersAs input at q → from ≤ at → at ≤ length input
    → no_mark (take (at - from) (drop from input)) ≡ true → r ≡ q
skips input from at r q h g l e n = h.answer ∙ ap held_read (read_skipped input from at l e n) ∙ sym g.answer

-- What stands before the position does not matter: a host may drop the bytes that it is done with.
pub reads-behind : (before input : List ℕ) (at : ℕ) (r q : ReadAnswer) → AnswersAs (before ++ input) (length before + at) r → AnswersAs input at q
    → r ≡ record { answer = q.answer; next = length before + q.next }
reads-behind before input at r q h g =
    h.answer ∙ ap held_read (read_behind before input at)
    ∙ sym (ap (λ (x : ReadAnswer). record { answer = x.answer; next = length before + x.next }) g.answer)

-- A packet of any OP and any data bytes, 16 at most, wherever it stands, is read: OP 01 with 8 as a report, every other as not for us.
pub reads-packet : (input skipped bytes rest : List ℕ) (op at : ℕ) (r : ReadAnswer) → AnswersAs input at r
    → drop at input ≡ skipped ++ (packet op bytes ++ rest) → no_mark skipped ≡ true → length bytes ≤ most_data
    → r ≡ record { answer = held_answer (meant op (length bytes) bytes); next = at + length skipped + packet_bytes (length bytes) }
reads-packet input skipped bytes rest op at r h e n l = h.answer ∙ ap held_read (packet_stands input skipped bytes rest op at e n l)

-- ---- a cut: the input, and more that comes later

-- All answers that were given stay.
pub reads_stay : (input more : List ℕ) (at : ℕ) (rs : List ReadAnswer) → ReadsOn input at rs → ReadsOn (input ++ more) at rs
reads_stay input more at [] h = h
reads_stay input more at (r ∷ rs) h =
    let same = read_longer input more at (sym (ap waits (answer-is input at r h.0)) ∙ h.1) in
    (answers (input ++ more) at r (h.0.answer ∙ sym (ap held_read same)), h.1, reads_stay input more r.next rs h.2)

module _ (input more : List ℕ) (at : ℕ) (r q : ReadAnswer) (h : AnswersAs input at r) (g : AnswersAs (input ++ more) at q) where
  -- An answer that was given is not changed by what comes later.
  pub given_stays : waiting r ≡ false → r ≡ q
  given_stays w =
      h.answer ∙ sym (ap held_read (read_longer input more at (sym (ap waits (answer-is input at r h)) ∙ w))) ∙ sym g.answer

  -- Cutting the input changes no answer that was given by bytes before the cut,
  pub cut_keeps : judged_up_to (input ++ more) at ≤ length input → r ≡ q
  cut_keeps l = h.answer ∙ ap held_read (cut-before input more at l) ∙ sym g.answer

  -- and makes every other wait: unfinished at its 0x2B, where that stands before the cut,
  pub cut-waits : length input < judged_up_to (input ++ more) at → waiting r ≡ true
  cut-waits l = ap waits (answer-is input at r h) ∙ cut_inside input more at l

  pub cut_open : mark_from (input ++ more) at < length input → length input < judged_up_to (input ++ more) at
      → r ≡ record { answer = A.Unfinished; next = mark_from (input ++ more) at }
  cut_open m l = h.answer ∙ ap held_read (cut-unfinished input more at m l)

  -- nothing where it does not.
  pub cut_away : length input ≤ mark_from (input ++ more) at → r ≡ record { answer = A.Nothing; next = length input }
  cut_away m = h.answer ∙ ap held_read (cut-nothing input more at m)

  -- From there reading goes on, when the rest has come, as if there had been no cut.
  pub goes_on : at ≤ length input → waiting r ≡ true → (p : ReadAnswer) → AnswersAs (input ++ more) r.next p → p ≡ q
  goes_on l w p k =
      let same = read-later input more at l (sym (ap waits (answer-is input at r h)) ∙ w) in
      k.answer ∙ ap (λ n. held_read (read_at (input ++ more) n)) (next-is input at r h) ∙ sym (ap held_read same) ∙ sym g.answer
