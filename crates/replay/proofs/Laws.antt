-- The laws that the promises of src/main.rt need: where a piece's events lie, what a piece's answer says, and what is answered past the last number. Assumes nothing.
use Rattle.std.proofs.Common.{◌≡◌, ℕ, ◌+◌, ◌-◌, ◌≤◌, Bool, true, false, eqb, leb, ◌≢◌, List, length, take, drop, sym, refl, ap, ◌∙◌, arith}
use Rattle.std.specs.Prelude.{Result, Ok, Err}
use Rattle.model.specs.Panel.{base}
use Rattle.model.specs.Calls.{run_call}
use Rattle.model.specs.Recorder as M
use Rattle.model.proofs.Blocks.{check-first, number-second}
use Rattle.model.proofs.Tampered.{drop-take}
use Rattle.recorder.specs.Seen.{held_read, read_seen}
use Rattle.recorder.specs.declared.Run.{Run}
use Rattle.recorder.specs.declared.BlockRefusal.{BlockRefusal}
use Rattle.recorder.specs.declared.BlockRefusal.TheVariants.{WrongCheck, WrongNumber, CountOver, NotZero}
use Rattle.recorder.proofs.Laws.{read-seen, answered}
use Rattle.recorder.proofs.Promises.{events_within}
use Rattle.reader.specs.States.{seen, held}
use Rattle.reader.specs.declared.ReaderState.{ReaderState}
use Rattle.replay.specs.Heard.{past_last, HearsAs}

-- A piece that is answered with its events is a whole block, and they lie inside it.
pub inside : (n : ℕ) (p : List ℕ) (r : Result Run BlockRefusal) (run : Run) → r ≡ held_read (M.read_block n p) → r ≡ Ok run
    → (run.at ≡ M.header_length) × (run.count ≤ M.most_in_block) × (length p ≡ M.block_length)
inside n p r run e q = events_within n p r run (answered n p r e) q

-- A lent part of it is the model's.
pub cut : (at k : ℕ) (p : List ℕ) → take (at + k - at) (drop at p) ≡ M.part at (at + k) p
cut at k p =
    let all : at + k - at ≡ k = omega arith in
    ap (λ n. take n (drop at p)) all ∙ sym (drop-take at k p)

-- A refused piece says a loss, by whatever name it is refused.
pub lost : (why : BlockRefusal) (p : List ℕ) → M.loss ≡ M.said (read_seen (Err why)) p
lost WrongCheck p = refl
lost WrongNumber p = refl
lost CountOver p = refl
lost NotZero p = refl

-- A reader that ran the records which a piece's answer says heard the piece.
pub hears : (s : ReaderState) (n : ℕ) (p : List ℕ) (after : ReaderState) (r read v : Result Run BlockRefusal)
    → r ≡ held_read (M.read_block n p) → r ≡ v → after ≡ held (run_call base (seen s) (M.said (read_seen v) p)).state → read ≡ v
    → HearsAs s n p after read
hears s n p after r read v e q h k =
    let b = M.read_block n p in
    let same : read_seen v ≡ b = ap read_seen (sym q ∙ e) ∙ read-seen b in
    record { state = h ∙ ap (λ x. held (run_call base (seen s) (M.said x p)).state) same; answer = k ∙ sym q ∙ e }

-- ---- past the last number

-- With a right check nothing but the number is wrong there, whatever the other tests say.
other : (m k z : Bool) (count : ℕ)
    → past_last (held_read (M.test m M.wrong_number (M.test k M.count_over (M.test z M.not_zero (M.events_at M.header_length count))))) ≡ WrongNumber
other false k z count = refl
other true false z count = refl
other true true false count = refl
other true true true count = refl

right : (n : ℕ) (p : List ℕ) → M.check_good p ≡ true → past_last (held_read (M.read_block n p)) ≡ WrongNumber
unfolding M.read_block
right n p e = rw e (other (eqb (M.number_in p) n) (leb (M.count_in p) M.most_in_block) (M.zero_good p) (M.count_in p))

-- Four bytes hold no such number.
unlike : (place : ℕ) (p : List ℕ) → M.AllBytes p → M.number_limit ≤ place → M.number_in p ≢ place
unlike place p bytes h e = omega (arith, bytes 0, bytes 1, bytes 2, bytes 3)

pub past-last : (n place : ℕ) (p : List ℕ) → M.AllBytes p → M.number_limit ≤ place
    → Err (past_last (held_read (M.read_block n p))) ≡ held_read (M.read_block place p)
past-last n place p bytes h = by_check (M.check_good p) refl
  where
    by_check : (t : Bool) → M.check_good p ≡ t → Err (past_last (held_read (M.read_block n p))) ≡ held_read (M.read_block place p)
    by_check true e = ap Err (right n p e) ∙ sym (ap held_read (number-second place p e (unlike place p bytes h)))
    by_check false e = ap (λ x. Err (past_last (held_read x))) (check-first n p e) ∙ sym (ap held_read (check-first place p e))
