-- Records whose numbers are gathered bit by bit: what is gathered is an unused record's where every record is unused. Cited by the proof of `rest_unused`. Assumes nothing.
use mathlib.Core.Path.{◌≡◌, refl, sym, ap, ◌∙◌}
use mathlib.Core.Bool.{Bool, true, false, cond, ◌&&◌}
use mathlib.Core.List.{List, [], ◌∷◌}
use Prim.Native.Nat.{ℕ, ◌-◌, ◌<◌, ◌^◌}
use native.Mathlib.Omega.{arith}
use lib.Bits.{bit_and, bit_or, and_le_l, and_le_r, and_self, or_add_and}
use lib.Dec.{eqb, ltb}
use lib.IntN.{pos, negsuc}
use lib.ListN.{length}
use borrow.Author.Tests.{ltb-true, eqb-true, eqb-false, eq-eqb, ne_eqb}
use Rattle.model.specs.Numbers.{eq_z, minus_one}
use Rattle.model.specs.Records.{signed_of}
use Rattle.common.proofs.Signs.{and-false, join}

-- The bits of an id of -1.
abbrev pub ones : ℕ
ones = 4294967295

-- ---- what is gathered

-- Every number is 0.
abbrev pub none : List ℕ → Bool
none [] = true
none (v ∷ l) = eqb v 0 && none l

-- The bits of ids that are all -1, and numbers that are all 0.
abbrev pub idle : ℕ → List ℕ → Bool
idle ids l = eqb ids ones && none l

-- Each number of one list with the bits of the other's; a number that has no other is left out.
abbrev pub joined : List ℕ → List ℕ → List ℕ
joined [] k = []
joined (a ∷ l) [] = []
joined (a ∷ l) (b ∷ k) = bit_or a b ∷ joined l k

-- ---- two numbers

-- m is k where a and b both are.
module _ (m a b k : ℕ) where
  both_by : (a ≡ k → b ≡ k → m ≡ k) → (m ≡ k → (a ≡ k) × (b ≡ k)) → eqb m k ≡ (eqb a k && eqb b k)
  both_by to from =
      (elim (eqb a k) as (λ x. eqb a k ≡ x → eqb m k ≡ (x && eqb b k)) [
        | true ↦ λ e.
            (elim (eqb b k) as (λ y. eqb b k ≡ y → eqb m k ≡ y) [
              | true ↦ λ h. eq-eqb m k (to (eqb-true a k e) (eqb-true b k h))
              | false ↦ λ h. ne_eqb m k (λ z. eqb-false b k h (from z).1)
            ]) refl
        | false ↦ λ e. ne_eqb m k (λ z. eqb-false a k e (from z).0)
      ]) refl

none_or : (a b : ℕ) → eqb (bit_or a b) 0 ≡ (eqb a 0 && eqb b 0)
none_or a b =
    both_by (bit_or a b) a b 0
    (λ e h. omega (arith, e, h, or_add_and a b))
    (λ z. (omega (arith, z, or_add_and a b, and_le_l a b, and_le_r a b), omega (arith, z, or_add_and a b, and_le_l a b, and_le_r a b)))

ones_and : (a b : ℕ) → a < 2 ^ 32 → b < 2 ^ 32 → eqb (bit_and a b) ones ≡ (eqb a ones && eqb b ones)
ones_and a b f g =
    both_by (bit_and a b) a b ones
    (λ e h. ap (bit_and a) (h ∙ sym e) ∙ and_self a ∙ e)
    (λ z. (omega (arith, z, f, and_le_l a b), omega (arith, z, g, and_le_r a b)))

-- ---- two records

crossed : (a b c d : Bool) → ((a && b) && (c && d)) ≡ ((a && c) && (b && d))
crossed false b c d = refl
crossed true true c d = refl
crossed true false c d = sym (and-false c false refl)

none-joined : (l k : List ℕ) → length l ≡ length k → none (joined l k) ≡ (none l && none k)
none-joined [] [] e = refl
none-joined [] (b ∷ k) e = absurd (omega arith)
none-joined (a ∷ l) [] e = absurd (omega arith)
none-joined (a ∷ l) (b ∷ k) e = join (none_or a b) (none-joined l k (omega arith)) ∙ crossed (eqb a 0) (eqb b 0) (none l) (none k)

grouped : (a b c : Bool) → ((a && b) && c) ≡ (a && (b && c))
grouped false b c = refl
grouped true b c = refl

-- One record more is gathered.
pub idle_more : (ids : ℕ) (l : List ℕ) (id : ℕ) (k : List ℕ) → ids < 2 ^ 32 → id < 2 ^ 32 → length l ≡ length k → (rest : Bool)
    → (idle ids l && (idle id k && rest)) ≡ (idle (bit_and ids id) (joined l k) && rest)
idle_more ids l id k f g e rest =
    let both = join (ones_and ids id f g) (none-joined l k e) ∙ crossed (eqb ids ones) (eqb id ones) (none l) (none k) in
    sym (ap (λ b. b && rest) both ∙ grouped (idle ids l) (idle id k) rest)

-- An id is -1 where all its bits are 1.
pub ones_are : (id : ℕ) → id < 2 ^ 32 → eqb id ones ≡ eq_z (signed_of id) minus_one
unfolding signed_of
ones_are id f =
    (elim (ltb id 2147483648) as (λ b. ltb id 2147483648 ≡ b → eqb id ones ≡ eq_z (cond b (pos id) (negsuc (ones - id))) minus_one) [
      | true ↦ λ l. ne_eqb id ones (λ z. absurd (omega (arith, z, ltb-true id 2147483648 l)))
      | false ↦ λ l.
          (elim (eqb id ones) as (λ y. eqb id ones ≡ y → y ≡ eqb (ones - id) 0) [
            | true ↦ λ e. sym (eq-eqb (ones - id) 0 (omega (arith, eqb-true id ones e)))
            | false ↦ λ e. sym (ne_eqb (ones - id) 0 (λ z. eqb-false id ones e (omega (arith, z, f))))
          ]) refl
    ]) refl
