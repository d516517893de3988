-- The numbers in a packet: exclusive or and CS, in which one altered byte shows; signed numbers and their bits; the byte that buttons and hat
-- share. Cited by the other laws of packets and by the crate force. Assumes nothing.
use mathlib.Core.Path.{◌≡◌, refl, sym, ◌∙◌}
use mathlib.Core.Bool.{Bool, true, false, cond}
use mathlib.Core.List.{List, [], ◌∷◌}
use Prim.Native.Nat.{ℕ, zero, suc, ◌+◌, ◌-◌, ◌*◌, ◌/◌, ◌%◌, ◌≤◌, ◌<◌}
use native.Mathlib.Omega.{arith}
use lib.Arith.{bin_ind}
use lib.Bits.{bit_xor, differ, xor_step, xor_comm}
use lib.Dec.{ltb, leb}
use lib.IntN.{ℤ, pos, negsuc}
use lib.ListN.{length, get_or, set}
use borrow.Author.Tests.{lt-ltb, le-ltb, le-leb, leb-true, ltb-true, ltb-false}
use Rattle.model.specs.Force.{xor_after, check_of, signed_in, bits_in, fits_in, most_buttons, upper_buttons, hat_of, shared_byte}
use Rattle.model.proofs.Bools.{and_left}

-- Brought in so that the sheet is checked first, as ForcePackets does.

-- ---- exclusive or

-- Two digits differ, or they do not: a digit.
differ-digit : (a b : ℕ) → a < 2 → b < 2 → differ a b < 2
differ-digit zero b h k = k
differ-digit (suc zero) zero h k = h
differ-digit (suc zero) (suc zero) h k = omega arith
differ-digit (suc zero) (suc (suc b)) h k = absurd (omega arith)
differ-digit (suc (suc a)) b h k = absurd (omega arith)

-- A digit is known by how it differs from another.
differ_known : (a b c : ℕ) → a < 2 → b < 2 → c < 2 → differ a b ≡ differ a c → b ≡ c
differ_known zero b c h k l e = e
differ_known (suc zero) zero zero h k l e = refl
differ_known (suc zero) zero (suc zero) h k l e = absurd (omega arith)
differ_known (suc zero) zero (suc (suc c)) h k l e = absurd (omega arith)
differ_known (suc zero) (suc zero) zero h k l e = absurd (omega arith)
differ_known (suc zero) (suc zero) (suc zero) h k l e = refl
differ_known (suc zero) (suc zero) (suc (suc c)) h k l e = absurd (omega arith)
differ_known (suc zero) (suc (suc b)) c h k l e = absurd (omega arith)
differ_known (suc (suc a)) b c h k l e = absurd (omega arith)

-- Numbers by their last digit.
by_digits : (m n a b : ℕ) → a < 2 → b < 2 → m * 2 + a ≡ n * 2 + b → (m ≡ n) × (a ≡ b)
by_digits m n a b h k e = (omega arith, omega arith)

-- A number is known by its exclusive or with another.
pub xor_known : (a b c : ℕ) → bit_xor a b ≡ bit_xor a c → b ≡ c
xor_known = bin_ind (λ (a : ℕ). (b c : ℕ) → bit_xor a b ≡ bit_xor a c → b ≡ c) (λ b c e. e) step
  where
    step : (a : ℕ) → ((b c : ℕ) → bit_xor (a / 2) b ≡ bit_xor (a / 2) c → b ≡ c) → (b c : ℕ) → bit_xor a b ≡ bit_xor a c → b ≡ c
    step a up b c e =
        let digit : (n : ℕ) → n % 2 < 2 = λ n. omega arith in
        let parts =
        by_digits (bit_xor (a / 2) (b / 2)) (bit_xor (a / 2) (c / 2)) (differ (a % 2) (b % 2)) (differ (a % 2) (c % 2))
        (differ-digit (a % 2) (b % 2) (digit a) (digit b)) (differ-digit (a % 2) (c % 2) (digit a) (digit c))
        (sym (xor_step a b) ∙ e ∙ xor_step a c) in
        let high = up (b / 2) (c / 2) parts.0 in
        let low = differ_known (a % 2) (b % 2) (c % 2) (digit a) (digit b) (digit c) parts.1 in
        omega (arith, high, low)

-- So is one before bytes by its exclusive or with them.
sum_known : (l : List ℕ) (a b : ℕ) → xor_after a l ≡ xor_after b l → a ≡ b
sum_known [] a b e = e
sum_known (x ∷ l) a b e = xor_known x a b (xor_comm x a ∙ sum_known l (bit_xor a x) (bit_xor b x) e ∙ xor_comm b x)

-- One altered byte alters the exclusive or of all.
xor_altered : (sum : ℕ) (l : List ℕ) (i b : ℕ) → i < length l → xor_after sum (set l i b) ≡ xor_after sum l → b ≡ get_or l i 0
xor_altered sum [] i b h e = absurd (omega arith)
xor_altered sum (x ∷ l) zero b h e = xor_known sum b x (sum_known l (bit_xor sum b) (bit_xor sum x) e)
xor_altered sum (x ∷ l) (suc i) b h e = xor_altered (bit_xor sum x) l i b (omega arith) e

-- One altered byte alters CS.
pub check_altered : (l : List ℕ) (i b : ℕ) → i < length l → check_of (set l i b) ≡ check_of l → b ≡ get_or l i 0
unfolding check_of
check_altered l i b h e = xor_altered 0 l i b h e

-- ---- signed numbers

module _ (values : ℕ) (many : 2 ≤ values) where
  -- A number that has bits has fewer than the values.
  pub bits_below : (z : ℤ) → fits_in values z ≡ true → bits_in values z < values
  unfolding bits_in
  bits_below (pos n) h = omega (arith, leb-true n (values / 2 - 1) h)
  bits_below (negsuc n) h = omega arith

  -- The bits of a number are read as that number.
  pub signed-bits : (z : ℤ) → fits_in values z ≡ true → signed_in values (bits_in values z) ≡ z
  unfolding signed_in bits_in
  signed-bits (pos n) h = rw (lt-ltb n (values / 2) (omega (arith, leb-true n (values / 2 - 1) h)))
  signed-bits (negsuc n) h =
      let l : n ≤ values / 2 - 1 = leb-true n (values / 2 - 1) (and_left (leb n (values / 2 - 1)) true h) in
      let b : values - 1 - (values - 1 - n) ≡ n = omega arith in
      rw (le-ltb (values - 1 - n) (values / 2) (omega arith), b)

  -- Bits are those of the number that they are read as.
  pub bits-signed : (n : ℕ) → n < values → bits_in values (signed_in values n) ≡ n
  unfolding signed_in bits_in
  bits-signed n h = by_half (ltb n (values / 2))
    where
      by_half : (t : Bool) → bits_in values (cond t (pos n) (negsuc (values - 1 - n))) ≡ n
      by_half true = refl
      by_half false = omega arith

-- Bits are read as a number that fits them, where half of the values are negative.
pub signed-fits : (half n : ℕ) → 1 ≤ half → n < 2 * half → fits_in (2 * half) (signed_in (2 * half) n) ≡ true
unfolding signed_in
signed-fits half n h l = by_half (ltb n (2 * half / 2)) refl
  where
    by_half : (t : Bool) → ltb n (2 * half / 2) ≡ t → fits_in (2 * half) (cond t (pos n) (negsuc (2 * half - 1 - n))) ≡ true
    by_half true e = le-leb n (2 * half / 2 - 1) (omega (arith, ltb-true n (2 * half / 2) e))
    by_half false e = rw (le-leb (2 * half - 1 - n) (2 * half / 2 - 1) (omega (arith, ltb-false n (2 * half / 2) e)))

-- ---- buttons and hat

-- Bytes 05 and 06 give the buttons back,
pub buttons_back : (buttons hat : ℕ) → buttons ≤ most_buttons → buttons % 256 + 256 * upper_buttons (shared_byte buttons hat) ≡ buttons
buttons_back buttons hat h = omega arith

-- and byte 06 the hat.
pub hat_back : (buttons hat : ℕ) → buttons ≤ most_buttons → hat_of (shared_byte buttons hat) ≡ hat
hat_back buttons hat h = omega arith

-- Both give the bytes back.
pub shared_back : (low shared : ℕ) → low < 256 → shared_byte (low + 256 * upper_buttons shared) (hat_of shared) ≡ shared
shared_back low shared h = omega arith

pub low_back : (low shared : ℕ) → low < 256 → (low + 256 * upper_buttons shared) % 256 ≡ low
low_back low shared h = omega arith
