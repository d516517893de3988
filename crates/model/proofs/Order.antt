-- The loop over the set bits of a number, by trailing zeros and `m & (m - 1)`, and what it sends, over any width. Cited by the writer's crates tally and send. Assumes nothing.
use mathlib.Core.Path.{◌≡◌, refl, sym, ap, ap₂, ◌∙◌}
use mathlib.Core.Bool.{true, false, ◌&&◌}
use mathlib.Core.List.{List, [], ◌∷◌, ◌++◌}
use Prim.Native.Nat.{ℕ, zero, suc, ◌+◌, ◌-◌, ◌*◌, ◌/◌, ◌%◌, ◌^◌, ◌≤◌, ◌<◌, min}
use native.Mathlib.Omega.{arith}
use native.Mathlib.Nat.{add-zero, pow-suc}
use lib.Bits.{bit_and, and_step, and_self, and_zero_r, and_le_l}
use lib.Count.{count_trailing_zeros, under}
use lib.ListN.{length, get_or}
use Rattle.model.proofs.Count.{one_unless_le, same_slot_self}
use Rattle.model.specs.Numbers.{eq_z}
use Rattle.model.specs.Table.{Slot, Table}
use Rattle.model.specs.Sending.{Sent, send_slot, send_number, unless, changes, opened, all_changes, slot_done, one_unless, same_slot, changed_mask, others_mask}
use Rattle.model.specs.Order.{if_bit, of_mask}

-- ---- the lowest bit taken off

down_odd : (m : ℕ) → m % 2 ≡ 1 → bit_and m (m - 1) ≡ m / 2 * 2
down_odd m e =
    let h : (m - 1) / 2 ≡ m / 2 = omega arith in
    let z : (m - 1) % 2 ≡ 0 = omega arith in
    and_step m (m - 1) ∙ ap₂ (λ x y. bit_and (m / 2) x * 2 + y) h (ap₂ min e z) ∙ ap (λ x. x * 2 + 0) (and_self (m / 2)) ∙ omega arith

down_even : (m : ℕ) → 0 < m → m % 2 ≡ 0 → bit_and m (m - 1) ≡ bit_and (m / 2) (m / 2 - 1) * 2
down_even m p e =
    let h : (m - 1) / 2 ≡ m / 2 - 1 = omega arith in
    let z : (m - 1) % 2 ≡ 1 = omega arith in
    and_step m (m - 1) ∙ ap₂ (λ x y. bit_and (m / 2) x * 2 + y) h (ap₂ min e z) ∙ add-zero (bit_and (m / 2) (m / 2 - 1) * 2)

twice_mod : (x : ℕ) → x * 2 % 2 ≡ 0
twice_mod x = omega arith

twice_div : (x : ℕ) → x * 2 / 2 ≡ x
twice_div x = omega arith

module _ {A : Type 0} where
  pub mask_none : (w : ℕ) (f : ℕ → List A) → of_mask w 0 f ≡ []
  unfolding of_mask
  mask_none zero f = refl
  mask_none (suc w) f = mask_none w (λ j. f (suc j))

  mask_open : (w m : ℕ) (f : ℕ → List A) → of_mask (suc w) m f ≡ if_bit (m % 2) (f 0) ++ of_mask w (m / 2) (λ j. f (suc j))
  unfolding of_mask
  mask_open w m f = refl

  mask_twice : (w x : ℕ) (f : ℕ → List A) → of_mask (suc w) (x * 2) f ≡ of_mask w x (λ j. f (suc j))
  unfolding of_mask
  mask_twice w x f = ap₂ (λ d y. if_bit d (f 0) ++ of_mask w y (λ j. f (suc j))) (twice_mod x) (twice_div x)

  -- The law of the loop: the list of the lowest set bit, and then those of the others.
  pub mask_next : (w m : ℕ) (f : ℕ → List A) → 0 < m → m < 2 ^ w → of_mask w m f ≡ f (count_trailing_zeros w m) ++ of_mask w (bit_and m (m - 1)) f
  unfolding count_trailing_zeros
  mask_next zero m f p h = absurd (omega arith)
  mask_next (suc w) m f p h =
      go (m % 2) refl (λ e. mask_next w (m / 2) (λ j. f (suc j)) (omega arith) (omega (arith, pow-suc 2 w)))
    where
      go : (r : ℕ) → m % 2 ≡ r
          → (m % 2 ≡ 0 → of_mask w (m / 2) (λ j. f (suc j)) ≡ f (suc (count_trailing_zeros w (m / 2))) ++ of_mask w (bit_and (m / 2) (m / 2 - 1)) (λ j. f (suc j)))
          → of_mask (suc w) m f ≡ f (under (m % 2) (count_trailing_zeros w (m / 2))) ++ of_mask (suc w) (bit_and m (m - 1)) f
      go zero e ih =
          mask_open w m f ∙ ap (λ d. if_bit d (f 0) ++ of_mask w (m / 2) (λ j. f (suc j))) e
          ∙ ih e
          ∙ ap₂ {C = List A} (λ d s. f (under d (count_trailing_zeros w (m / 2))) ++ s) (sym e)
          (sym (ap (λ x. of_mask (suc w) x f) (down_even m p e) ∙ mask_twice w (bit_and (m / 2) (m / 2 - 1)) f))
      go (suc zero) e ih =
          mask_open w m f ∙ ap (λ d. if_bit d (f 0) ++ of_mask w (m / 2) (λ j. f (suc j))) e
          ∙ ap₂ {C = List A} (λ d s. f (under d (count_trailing_zeros w (m / 2))) ++ s) (sym e)
          (sym (ap (λ x. of_mask (suc w) x f) (down_odd m e) ∙ mask_twice w (m / 2) f))
      go (suc (suc r)) e ih = absurd (omega arith)

-- A number that is not 0 has a set bit below its width.
pub trailing_below : (w m : ℕ) → 0 < m → m < 2 ^ w → count_trailing_zeros w m < w
unfolding count_trailing_zeros
trailing_below zero m p h = absurd (omega arith)
trailing_below (suc w) m p h = go (m % 2) refl (λ e. trailing_below w (m / 2) (omega arith) (omega (arith, pow-suc 2 w)))
  where
    go : (r : ℕ) → m % 2 ≡ r → (m % 2 ≡ 0 → count_trailing_zeros w (m / 2) < w) → under (m % 2) (count_trailing_zeros w (m / 2)) < suc w
    go zero e ih = rw e (omega (arith, ih e))
    go (suc r) e ih = rw e (omega arith)

-- ---- the slots that the changed-slot number names

no_changes : (i : ℕ) (o v : Slot) → same_slot o v ≡ true → changes i o v ≡ []
no_changes i [] v e = refl
no_changes i (x ∷ o) [] e = refl
no_changes i (x ∷ o) (y ∷ v) e =
    (elim (eq_z x y) as (λ b. (b && same_slot o v) ≡ true → unless b (send_number i y) (changes (suc i) o v) ≡ []) [
      | true ↦ λ q. no_changes (suc i) o v q
      | false ↦ λ q. let z : ◌≡◌ {A = ℕ} 0 1 = cc in absurd (omega arith)
    ]) e

some_changes : (k i : ℕ) (o v : Slot) → same_slot o v ≡ false → opened k (changes i o v) ≡ send_slot k ∷ changes i o v
some_changes k i [] v e = let z : ◌≡◌ {A = ℕ} 0 1 = cc in absurd (omega arith)
some_changes k i (x ∷ o) [] e = let z : ◌≡◌ {A = ℕ} 0 1 = cc in absurd (omega arith)
some_changes k i (x ∷ o) (y ∷ v) e =
    (elim (eq_z x y) as (λ b. (b && same_slot o v) ≡ false → opened k (unless b (send_number i y) (changes (suc i) o v)) ≡ send_slot k ∷ unless b (send_number i y) (changes (suc i) o v)) [
      | true ↦ λ q. some_changes k (suc i) o v q
      | false ↦ λ q. refl
    ]) e

bit-opened : (k : ℕ) (o v : Slot) (l : List Sent) → (same_slot o v ≡ false → l ≡ send_slot k ∷ changes 0 o v)
    → if_bit (one_unless (same_slot o v)) l ≡ opened k (changes 0 o v)
bit-opened k o v l e =
    (elim (same_slot o v) as (λ b. same_slot o v ≡ b → if_bit (one_unless b) l ≡ opened k (changes 0 o v)) [
      | true ↦ λ q. sym (ap (opened k) (no_changes 0 o v q))
      | false ↦ λ q. e q ∙ sym (some_changes k 0 o v q)
    ]) refl

-- f gives slot j's changes, opened by its number, for the changed slots from k on.
abbrev pub Opens : ℕ → Table → Table → (ℕ → List Sent) → Type 0
Opens k old new f =
    (j : ℕ) → j < length old → same_slot (get_or old j []) (get_or new j []) ≡ false → f j ≡ send_slot (k + j) ∷ changes 0 (get_or old j []) (get_or new j [])

opens_head : (k : ℕ) (o v : Slot) (old new : Table) (f : ℕ → List Sent) → Opens k (o ∷ old) (v ∷ new) f → same_slot o v ≡ false
    → f 0 ≡ send_slot k ∷ changes 0 o v
opens_head k o v old new f e q = let z : k + 0 ≡ k = omega arith in e 0 (omega arith) q ∙ ap {B = List Sent} (λ j. send_slot j ∷ changes 0 o v) z

opens_tail : (k : ℕ) (o v : Slot) (old new : Table) (f : ℕ → List Sent) → Opens k (o ∷ old) (v ∷ new) f → Opens (suc k) old new (λ j. f (suc j))
opens_tail k o v old new f e j h q =
    let z : k + suc j ≡ suc k + j = omega arith in
    e (suc j) (omega arith) q ∙ ap {B = List Sent} (λ i. send_slot i ∷ changes 0 (get_or old j []) (get_or new j [])) z

low_bit : (b m : ℕ) → b ≤ 1 → (b + 2 * m) % 2 ≡ b
low_bit b m h = omega arith

high_bits : (b m : ℕ) → b ≤ 1 → (b + 2 * m) / 2 ≡ m
high_bits b m h = omega arith

mask_bit : (w b m : ℕ) (f : ℕ → List Sent) → b ≤ 1 → of_mask (suc w) (b + 2 * m) f ≡ if_bit b (f 0) ++ of_mask w m (λ j. f (suc j))
unfolding of_mask
mask_bit w b m f h = ap₂ (λ d y. if_bit d (f 0) ++ of_mask w y (λ j. f (suc j))) (low_bit b m h) (high_bits b m h)

-- The slots that the changed-slot number names are sent as the model sends them.
pub mask_all : (k : ℕ) (old new : Table) (f : ℕ → List Sent) → Opens k old new f → of_mask (length old) (changed_mask old new) f ≡ all_changes k old new
mask_all k [] new f e = mask_none 0 f
mask_all k (o ∷ old) [] f e = mask_none (suc (length old)) f
mask_all k (o ∷ old) (v ∷ new) f e =
    mask_bit (length old) (one_unless (same_slot o v)) (changed_mask old new) f (one_unless_le (same_slot o v))
    ∙ ap₂ {C = List Sent} (λ x y. x ++ y) (bit-opened k o v (f 0) (opens_head k o v old new f e)) (mask_all (suc k) old new (λ j. f (suc j)) (opens_tail k o v old new f e))

-- ---- slot c done

pub length_done : (c : ℕ) (old new : Table) → length (slot_done c old new) ≡ length old
length_done c [] new = refl
length_done c (o ∷ old) [] = refl
length_done zero (o ∷ old) (v ∷ new) = refl
length_done (suc c) (o ∷ old) (v ∷ new) = ap suc (length_done c old new)

-- A slot that is still to change is as it was.
still : (c j : ℕ) (old new : Table) → same_slot (get_or (slot_done c old new) j []) (get_or new j []) ≡ false → get_or (slot_done c old new) j [] ≡ get_or old j []
still c j [] new q = refl
still c j (o ∷ old) [] q = refl
still zero zero (o ∷ old) (v ∷ new) q = let z : ◌≡◌ {A = ℕ} 0 1 = ap one_unless (sym (same_slot_self v) ∙ q) in absurd (omega arith)
still zero (suc j) (o ∷ old) (v ∷ new) q = refl
still (suc c) zero (o ∷ old) (v ∷ new) q = refl
still (suc c) (suc j) (o ∷ old) (v ∷ new) q = still c j old new q

-- So what opens every slot opens those.
pub opens_done : (c k : ℕ) (old new : Table) (f : ℕ → List Sent) → Opens k old new f → Opens k (slot_done c old new) new f
opens_done c k old new f e j h q =
    let w = still c j old new q in
    let changed = sym (ap (λ s. same_slot s (get_or new j [])) w) ∙ q in
    e j (omega (arith, length_done c old new)) changed ∙ ap {B = List Sent} (λ s. send_slot (k + j) ∷ changes 0 s (get_or new j [])) (sym w)

-- The changed-slot number with slot c's bit taken out.
pub mask_without : (c : ℕ) (old new : Table) → changed_mask old new - bit_and (changed_mask old new) (2 ^ c) ≡ others_mask c old new
mask_without c [] new = omega arith
mask_without c (o ∷ old) [] = omega arith
mask_without zero (o ∷ old) (v ∷ new) =
    let m = one_unless (same_slot o v) + 2 * changed_mask old new in
    omega (arith, one_unless_le (same_slot o v), ap one_unless (same_slot_self v), and_step m 1, and_zero_r (m / 2))
mask_without (suc c) (o ∷ old) (v ∷ new) =
    let b = one_unless (same_slot o v) in
    let m = changed_mask old new in
    let p : 2 ^ suc c / 2 ≡ 2 ^ c = omega (arith, pow-suc 2 c) in
    let z : 2 ^ suc c % 2 ≡ 0 = omega (arith, pow-suc 2 c) in
    let h : (b + 2 * m) / 2 ≡ m = high_bits b m (one_unless_le (same_slot o v)) in
    let s = and_step (b + 2 * m) (2 ^ suc c) ∙ ap₂ (λ x y. x * 2 + min ((b + 2 * m) % 2) y) (ap₂ bit_and h p) z in
    omega (arith, s, mask_without c old new, and_le_l m (2 ^ c))
