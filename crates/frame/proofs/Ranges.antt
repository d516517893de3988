-- A range tested on a number's bits, what a frame may give as a range, and a row's kind as one. Cited by the proofs of `in_range`, `numbers_in` and `row_ok`. Assumes nothing.
use mathlib.Core.Path.{◌≡◌, refl, sym, ap, ◌∙◌}
use mathlib.Core.Bool.{Bool, true, false, ◌&&◌, ◌||◌}
use Prim.Native.Nat.{ℕ, zero, suc, ◌<◌, ◌≤◌, ◌-◌}
use native.Mathlib.Omega.{arith}
use lib.Dec.{leb, eqb}
use lib.IntN.{ℤ, pos, negsuc}
use lib.Signed.{le_z}
use borrow.Author.Tests.{le-leb, lt-leb, ne_eqb}
use mir.Syntax.{w32}
use mir.Val.{SFits, of_z, to_z}
use mir.ValLaws.{to_z-of_z}
use Rattle.model.specs.Numbers.{eq_z, between_z}
use Rattle.model.specs.Records.{bits_of}
use Rattle.common.proofs.Signs.{first-false, and-false}

-- ---- bits

pub bits_below : (v : ℤ) (least top : ℕ) → bits_of v < least → between_z (pos least) (pos top) v ≡ false
unfolding bits_of
bits_below (pos n) least top l = first-false (leb least n) (leb n top) (lt-leb least n l)
bits_below (negsuc n) least top l = refl

-- The bits of a negative number are above every top below 2^31.
pub bits_from : (v : ℤ) (least top : ℕ) → SFits w32 v → top < 2147483648 → least ≤ bits_of v → leb (bits_of v) top ≡ between_z (pos least) (pos top) v
unfolding bits_of
bits_from (pos n) least top f l m = rw (le-leb least n m)
bits_from (negsuc n) least top f l m = lt-leb (4294967295 - n) top (omega arith)

-- ---- what a frame may give

-- Not below the least, and in the range from 0, is in the range from the least.
given_range : (v : ℤ) (least top : ℕ) → (between_z (pos 0) (pos top) v && le_z (pos least) v) ≡ between_z (pos least) (pos top) v
given_range (pos n) least top = rw (le-leb 0 n (omega arith)) (swap (leb n top) (leb least n))
  where
    swap : (a b : Bool) → (a && b) ≡ (b && a)
    swap true true = refl
    swap true false = refl
    swap false true = refl
    swap false false = refl
given_range (negsuc n) least top = refl

-- What a test says that was asked of a number's bits.
pub judged : (b : Bool) (v : ℤ) (least top : ℕ) → SFits w32 v → b ≡ between_z (pos least) (pos top) (to_z w32 (of_z w32 v)) → (between_z (pos 0) (pos top) v && le_z (pos least) v) ≡ b
judged b v least top f e = given_range v least top ∙ sym (e ∙ ap (between_z (pos least) (pos top)) (to_z-of_z w32 v f))

-- ---- a row's kind

natural-kind : (n : ℕ) → (leb 1 n && leb n 2) ≡ (eqb n 1 || eqb n 2)
natural-kind zero = refl
natural-kind (suc zero) = refl
natural-kind (suc (suc zero)) = refl
natural-kind (suc (suc (suc m))) =
    let n = suc (suc (suc m)) in
    rw (lt-leb n 2 (omega arith), ne_eqb n 1 (λ q. omega arith), ne_eqb n 2 (λ q. omega arith)) (and-false (leb 1 n) false refl)

-- A kind that is 1 to 2 is 1 or 2.
pub contact-kind : (k : ℤ) → between_z (pos 1) (pos 2) k ≡ (eq_z k (pos 1) || eq_z k (pos 2))
contact-kind (pos n) = natural-kind n
contact-kind (negsuc n) = refl
