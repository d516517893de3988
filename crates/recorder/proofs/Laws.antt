-- Laws of the recorder's loops, one byte more that is summed or tested; and of its answer to a block. Cited by the proofs of its
-- functions. Assumes nothing.
use mathlib.Core.Path.{◌≡◌, refl, sym, ap, ap₂, ◌∙◌}
use mathlib.Core.Bool.{Bool, true, false, ◌&&◌, and_assoc}
use mathlib.Core.List.{List}
use Prim.Native.Nat.{ℕ, suc, ◌+◌, ◌*◌, ◌≤◌, ◌<◌}
use native.Mathlib.Numerals.{add-one}
use native.Mathlib.Omega.{arith}
use lib.Bits.{bit_or, or_add_and, and_le_l, and_le_r}
use lib.Dec.{eqb}
use lib.ListN.{length, get_or, take}
use lib.Seq.{length-take-le, take-suc, slice-cons}
use borrow.Author.Tests.{eq-eqb, ne_eqb, eqb-true, eqb-false}
use Rattle.model.specs.Pod.{zeros}
use Rattle.model.specs.Recorder as M
use Rattle.model.specs.Recorder.{weighed, part}
use Rattle.model.proofs.Weights.{weighed-more}
use Rattle.std.specs.Prelude.{Result}
use Rattle.recorder.specs.declared.Run.{Run}
use Rattle.recorder.specs.declared.BlockRefusal.{BlockRefusal}
use Rattle.recorder.specs.Seen.{held_read, read_seen, AnswersAs}

-- One byte more is summed.
pub sum_turn : (b : List ℕ) (i : ℕ) → i < length b → weighed 1 (take (i + 1) b) ≡ weighed 1 (take i b) + get_or b i 0 * (i + 1)
sum_turn b i h =
    let w : 1 + length (take i b) ≡ i + 1 = omega (arith, length-take-le i b (omega arith)) in
    ap (λ n. weighed 1 (take n b)) (add-one i) ∙ ap (weighed 1) (take-suc b i 0 h) ∙ weighed-more 1 (take i b) (get_or b i 0)
    ∙ ap (λ k. weighed 1 (take i b) + get_or b i 0 * k) w

-- Joined bits are zero where both are.
or_zero : (x y : ℕ) → eqb (bit_or x y) 0 ≡ (eqb x 0 && eqb y 0)
or_zero x y = by_tests (eqb x 0) (eqb y 0) refl refl
  where
    by_tests : (s t : Bool) → eqb x 0 ≡ s → eqb y 0 ≡ t → eqb (bit_or x y) 0 ≡ (s && t)
    by_tests true true p q =
        let a = eqb-true x 0 p in
        let b = eqb-true y 0 q in
        eq-eqb (bit_or x y) 0 (omega (arith, or_add_and x y))
    by_tests true false p q = ne_eqb (bit_or x y) 0 (λ e. eqb-false y 0 q (omega (arith, or_add_and x y, and_le_l x y, and_le_r x y)))
    by_tests false t p q = ne_eqb (bit_or x y) 0 (λ e. eqb-false x 0 p (omega (arith, or_add_and x y, and_le_l x y, and_le_r x y)))

-- One byte more is tested.
pub clear_turn : (b : List ℕ) (bits i to : ℕ) → i < to → to ≤ length b
    → (eqb bits 0 && zeros (part i to b)) ≡ (eqb (bit_or bits (get_or b i 0)) 0 && zeros (part (i + 1) to b))
clear_turn b bits i to h k =
    let x = get_or b i 0 in
    ap (λ l. eqb bits 0 && zeros l) (slice-cons i to b 0 h k)
    ∙ sym (ap₂ (λ t n. t && zeros (part n to b)) (or_zero bits x) (add-one i) ∙ and_assoc (eqb bits 0) (eqb x 0) (zeros (part (suc i) to b)))

-- ---- the answer to a block

-- The four tests of a block are the model's.
pub tests_are : (n : ℕ) (p : List ℕ) (right expected : Bool) (count : ℕ) (clear : Bool) → length p ≡ M.block_length
    → right ≡ eqb (M.check_of p) (M.check_in p) → expected ≡ eqb (M.number_in p) n → count ≡ M.count_in p → clear ≡ M.zero_good p
    → M.judged_block right expected count clear ≡ M.read_block n p
unfolding M.read_block
tests_are n p right expected count clear l e f g h =
    let whole : M.check_good p ≡ eqb (M.check_of p) (M.check_in p) = ap (λ t. t && eqb (M.check_of p) (M.check_in p)) (eq-eqb (length p) M.block_length l) in
    ap₂ (λ a b. M.judged_block a b count clear) (e ∙ sym whole) f ∙ ap₂ (λ k z. M.judged_block (M.check_good p) (eqb (M.number_in p) n) k z) g h

-- What is held of an answer is seen again.
pub read-seen : (r : M.BlockRead) → read_seen (held_read r) ≡ r
read-seen (M.events_at at count) = refl
read-seen M.wrong_check = refl
read-seen M.wrong_number = refl
read-seen M.count_over = refl
read-seen M.not_zero = refl

-- So all that `read_block` promises follows from the answer alone.
pub answered : (n : ℕ) (p : List ℕ) (r : Result Run BlockRefusal) → r ≡ held_read (M.read_block n p) → AnswersAs n p r
answered n p r e =
    let back = ap read_seen e ∙ read-seen (M.read_block n p) in
    record { answer = e; name = ap M.read_number back; values = ap M.read_values back }
