-- Laws on tests, and on the equality of whole numbers. Cited by nearly every proof here and in the code's crates. Assumes nothing.
use mathlib.Core.Path.{◌≡◌, refl, ap}
use mathlib.Core.Bool.{Bool, true, false, not, ◌&&◌, cond, false≢true}
use Prim.Native.Nat.{ℕ, suc, ◌-◌}
use native.Mathlib.Omega.{arith}
use lib.Dec.{T, eqb→eq, eqb_refl, not_T}
use lib.IntN.{ℤ, pos, negsuc}
use mir.Val.{sel}
use Rattle.model.specs.Numbers.{eq_z}

-- Brought in so that the sheet is checked before any law: a wrong definition then fails at a row of it, by computing.

-- ---- a test and its value

pub is_true : (b : Bool) → T b → b ≡ true
is_true true t = refl
is_true false t = absurd t

pub holds : (b : Bool) → b ≡ true → T b
holds true e = tt
holds false e = absurd (false≢true e)

pub is_false : (b : Bool) → T (not b) → b ≡ false
is_false true t = absurd t
is_false false t = refl

-- ---- both of two tests

pub both : (a b : Bool) → T a → T b → T (a && b)
both true b x y = y
both false b x y = x

pub both_left : (a b : Bool) → T (a && b) → T a
both_left true b t = tt
both_left false b t = t

pub both_right : (a b : Bool) → T (a && b) → T b
both_right true b t = t
both_right false b t = absurd t

-- The same of a test's value.
pub and_left : (a b : Bool) → (a && b) ≡ true → a ≡ true
and_left true b e = refl
and_left false b e = e

pub and_right : (a b : Bool) → (a && b) ≡ true → b ≡ true
and_right true b e = e
and_right false b e = absurd (false≢true e)

pub not_both : (a b : Bool) → T (not b) → T (not (a && b))
not_both true b h = h
not_both false b h = tt

-- ---- whole numbers

pub eq_z→eq : (a b : ℤ) → T (eq_z a b) → a ≡ b
eq_z→eq (pos a) (pos b) t = ap pos (eqb→eq a b t)
eq_z→eq (pos a) (negsuc b) t = absurd t
eq_z→eq (negsuc a) (pos b) t = absurd t
eq_z→eq (negsuc a) (negsuc b) t = ap negsuc (eqb→eq a b t)

pub eq_z-refl : (a : ℤ) → T (eq_z a a)
eq_z-refl (pos a) = eqb_refl a
eq_z-refl (negsuc a) = eqb_refl a

-- Numbers that differ are told apart.
pub apart : (a b : ℕ) → (a ≡ b → ⊥) → T (not (eq_z (pos a) (pos b)))
apart a b n = not_T (eq_z (pos a) (pos b)) (λ t. n (pos_inj a b (eq_z→eq (pos a) (pos b) t)))
  where
    pos_inj : (a b : ℕ) → pos a ≡ pos b → a ≡ b
    pos_inj a b e = cc

-- ---- a sign bit

-- What the machine reads of bits below top, by the test of the highest, is two's complement.
pub by_sign : (top v : ℕ) (b : Bool) → sel b (pos v) (negsuc (top - suc v)) ≡ cond b (pos v) (negsuc (top - 1 - v))
by_sign top v true = refl
by_sign top v false = ap negsuc (omega arith)
