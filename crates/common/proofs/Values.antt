-- What a slot number, an id or another number asks, by the raw 32 bits that it came in. Cited by `follow` and by the cranes' acts. Assumes nothing.
use mathlib.Core.Path.{◌≡◌, refl, sym}
use mathlib.Core.Bool.{Bool, true, false, cond}
use Prim.Native.Nat.{ℕ, ◌-◌, ◌≤◌, ◌<◌, ◌^◌}
use native.Mathlib.Omega.{arith}
use lib.Dec.{ltb}
use lib.IntN.{ℤ, pos, negsuc}
use borrow.Author.Tests.{lt-ltb, le-ltb, le-leb, lt-leb, ltb-true, ltb-false}
use Rattle.model.specs.Numbers.{between_z}
use Rattle.model.specs.Panel.{id_field, id_count, last_id}
use Rattle.model.specs.Table.{fits}
use Rattle.model.specs.Events.{Act, bad, slot, number, slot_act}
use Rattle.model.specs.Records.{signed_of}

small_signed : (v : ℕ) → v < 2_147_483_648 → signed_of v ≡ pos v
unfolding signed_of
small_signed v l = rw (lt-ltb v 2_147_483_648 l)

large_signed : (v : ℕ) → 2_147_483_648 ≤ v → signed_of v ≡ negsuc (4_294_967_295 - v)
unfolding signed_of
large_signed v l = rw (le-ltb v 2_147_483_648 l)

-- By whether a value's bits are those of a negative number.
by_sign : (P : ℤ → Type 0) (v : ℕ) → (v < 2_147_483_648 → P (pos v)) → (2_147_483_648 ≤ v → P (negsuc (4_294_967_295 - v))) → P (signed_of v)
by_sign P v f g = go (ltb v 2_147_483_648) refl
  where
    go : (b : Bool) → ltb v 2_147_483_648 ≡ b → P (signed_of v)
    go true e = let l : v < 2_147_483_648 = ltb-true v 2_147_483_648 e in rw (small_signed v l) (f l)
    go false e = let l : 2_147_483_648 ≤ v = ltb-false v 2_147_483_648 e in rw (large_signed v l) (g l)

fits_not : (top v : ℕ) → top < v → between_z (pos 0) (pos top) (signed_of v) ≡ false
fits_not top v l = by_sign (λ z. between_z (pos 0) (pos top) z ≡ false) v (λ m. rw (le-leb 0 v (omega arith), lt-leb v top l)) (λ m. refl)

pub slot-in : (n v : ℕ) → v < n → n ≤ 2_147_483_648 → slot_act n (signed_of v) ≡ slot v
slot-in n v l m = rw (small_signed v (omega arith), lt-ltb v n l)

pub slot_out : (n v : ℕ) → n ≤ v → slot_act n (signed_of v) ≡ bad
slot_out n v l = by_sign (λ z. slot_act n z ≡ bad) v (λ m. rw (le-ltb v n l)) (λ m. refl)

pub id-small : (v : ℕ) → v < id_count → cond (fits id_field (signed_of v)) (number 0 (signed_of v)) bad ≡ number 0 (pos v)
id-small v l = rw (small_signed v (omega arith), le-leb v last_id (omega arith))

pub id-none : cond (fits id_field (signed_of 4_294_967_295)) (number 0 (signed_of 4_294_967_295)) bad ≡ number 0 (negsuc 0)
unfolding signed_of
id-none = refl

pub id-not : (v : ℕ) → id_count ≤ v → (v ≡ 4_294_967_295 → ⊥) → v < 2 ^ 32 → cond (fits id_field (signed_of v)) (number 0 (signed_of v)) bad ≡ bad
id-not v l d m =
    by_sign (λ z. cond (fits id_field z) (number 0 z) bad ≡ bad) v
    (λ q. rw (lt-leb v last_id (omega arith))) (λ q. rw (lt-leb (4_294_967_295 - v) 0 (omega arith)))

-- ---- a number that is not an id, by its largest value

-- What number i of a slot asks, with a largest value, of a value whose bits are v.
abbrev pub judged_at : ℕ → ℕ → ℕ → Act
judged_at i top v = cond (between_z (pos 0) (pos top) (signed_of v)) (number i (signed_of v)) bad

pub number-good : (i top v : ℕ) → top < 2_147_483_648 → v ≤ top → judged_at i top v ≡ number i (pos v)
number-good i top v s l = rw (small_signed v (omega arith), le-leb 0 v (omega arith), le-leb v top l)

pub number-bad : (i top v : ℕ) → top < v → judged_at i top v ≡ bad
number-bad i top v l = rw (fits_not top v l)

-- The same of the first field, where fields are gone through one by one.
abbrev pub judged : ℕ → ℕ → Act
judged top v = judged_at 0 top v

pub number_in : (top v : ℕ) → top < 2_147_483_648 → v ≤ top → number 0 (pos v) ≡ judged top v
number_in top v s l = sym (number-good 0 top v s l)

pub number_out : (top v : ℕ) → top < v → bad ≡ judged top v
number_out top v l = sym (number-bad 0 top v l)

-- What the bits of a slot number, an id or another number ask: cited by name in the sources of the crates above.
pub ruleset by_bits = (slot-in, slot_out, id-small, id-none, id-not, number-good, number-bad)
