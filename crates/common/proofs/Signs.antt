-- Signed numbers: their bits, their signs, and tests with `true` at the end. Cited by the proofs here, and by those of the crates above. Assumes nothing.
use mathlib.Core.Path.{◌≡◌, refl, sym, ap₂, ◌∙◌}
use mathlib.Core.Bool.{Bool, true, false, ◌&&◌, ◌||◌}
use Prim.Native.Nat.{ℕ, suc, ◌-◌, ◌^◌}
use native.Mathlib.Omega.{arith}
use lib.Dec.{eqb}
use lib.IntN.{ℤ, pos, negsuc}
use borrow.Author.Tests.{eq-eqb, ne_eqb, eqb-true, eqb-false}
use mir.Syntax.{w32}
use mir.Val.{SFits, of_z}
use Rattle.model.specs.Numbers.{eq_z, minus_one}

-- ---- equal bits are equal numbers

eqb_iff : (a b c d : ℕ) → (a ≡ b → c ≡ d) → (c ≡ d → a ≡ b) → eqb a b ≡ eqb c d
eqb_iff a b c d f g = go (eqb c d) refl
  where
    go : (t : Bool) → eqb c d ≡ t → eqb a b ≡ t
    go true e = eq-eqb a b (g (eqb-true c d e))
    go false e = ne_eqb a b (λ q. eqb-false c d e (f q))

pub eq_bits : (a b : ℤ) → SFits w32 a → SFits w32 b → eqb (of_z w32 a) (of_z w32 b) ≡ eq_z a b
eq_bits (pos m) (pos n) f g = refl
eq_bits (pos m) (negsuc n) f g = ne_eqb m (2 ^ 32 - suc n) (λ e. omega arith)
eq_bits (negsuc m) (pos n) f g = ne_eqb (2 ^ 32 - suc m) n (λ e. omega arith)
eq_bits (negsuc m) (negsuc n) f g = eqb_iff (2 ^ 32 - suc m) (2 ^ 32 - suc n) m n (λ e. omega arith) (λ e. omega arith)

-- ---- an id's bits: those of -1 are of no contact

module _ (v : ℤ) (f : SFits w32 v) where
  none-fits : SFits w32 minus_one
  none-fits = record { sfits = omega arith }

  pub alive : (of_z w32 v ≡ 4_294_967_295 → ⊥) → eq_z v minus_one ≡ false
  alive n = sym (eq_bits v minus_one f none-fits) ∙ ne_eqb (of_z w32 v) 4_294_967_295 n

  pub dead : of_z w32 v ≡ 4_294_967_295 → eq_z v minus_one ≡ true
  dead e = sym (eq_bits v minus_one f none-fits) ∙ eq-eqb (of_z w32 v) 4_294_967_295 e

-- ---- tests joined

pub first-false : (a b : Bool) → a ≡ false → (a && b) ≡ false
first-false a b e = rw e

pub first-true : (a b : Bool) → a ≡ true → (a && b) ≡ b
first-true a b e = rw e

pub and-false : (a b : Bool) → b ≡ false → (a && b) ≡ false
and-false true b e = e
and-false false b e = refl

pub and-true : (a : Bool) → (a && true) ≡ a
and-true true = refl
and-true false = refl

pub or-true : (a b : Bool) → a ≡ true → (a || b) ≡ true
or-true a b e = rw e

pub or_false : (a b : Bool) → a ≡ false → (a || b) ≡ b
or_false a b e = rw e

-- A chain of tests, part by part; the model's chains end with `true`.
pub join : {a b c d : Bool} → a ≡ b → c ≡ d → (a && c) ≡ (b && d)
join e f = ap₂ (λ x y. x && y) e f

pub last : {a b : Bool} → a ≡ b → a ≡ (b && true)
last {b = b} e = e ∙ sym (and-true b)
