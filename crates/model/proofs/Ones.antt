-- The changed-slot number's ones, and the most events that a frame can have. Cited by Calls and the writer's crates. Assumes nothing.
use mathlib.Core.Path.{◌≡◌, refl, sym, ap, ap₂, ◌∙◌, subst}
use mathlib.Core.Bool.{true, false, cond}
use mathlib.Core.List.{List, [], ◌∷◌}
use Prim.Native.Nat.{ℕ, zero, suc, ◌+◌, ◌*◌, ◌/◌, ◌%◌, ◌-◌, ◌^◌, ◌≤◌, ◌<◌}
use native.Mathlib.Omega.{arith}
use native.Mathlib.Nat.{suc-mul, pow-suc, mul_assoc, mul_comm}
use lib.Dec.{T, eqb}
use lib.Count.{ones, ones_step}
use lib.ListN.{length, get_or, set}
use Rattle.model.proofs.Bools.{both_right}
use Rattle.model.proofs.Tables.{same-past, place, good-records}
use Rattle.model.proofs.Count.{one_unless_le, same_none, changed_in_self, same_slot_self, event-count}
use Rattle.model.specs.Numbers.{eq_z}
use Rattle.model.specs.Panel.{Field, Panel}
use Rattle.model.specs.Table.{Slot, Table, fits, good_slot, good_place, good_records, good_table}
use Rattle.model.specs.Sending.{events_sent, one_unless, same_slot, changed_in, changed_numbers, changed_slots, changed_others, fewest, changed_mask, bit_of}

-- ---- the ones

-- The ones of the changed-slot number are the changed slots.
pub mask_ones : (old new : Table) → ones (changed_mask old new) ≡ changed_slots old new
unfolding ones
mask_ones [] new = refl
mask_ones (o ∷ old) [] = refl
mask_ones (o ∷ old) (v ∷ new) =
    let b = one_unless (same_slot o v) in
    let m = changed_mask old new in
    let low : (b + 2 * m) % 2 ≡ b = omega (arith, one_unless_le (same_slot o v)) in
    let up : (b + 2 * m) / 2 ≡ m = omega (arith, one_unless_le (same_slot o v)) in
    ones_step (b + 2 * m) ∙ ap₂ (λ x y. x + ones y) low up ∙ ap (λ x. b + x) (mask_ones old new)

no_bit : (k : ℕ) → bit_of k 0 ≡ 0
no_bit zero = omega arith
no_bit (suc k) = let z : 0 / 2 ≡ 0 = omega arith in ap (bit_of k) z ∙ no_bit k

-- Bit s is for slot s: 1 if any of its numbers changed, else 0; past the tables there is none.
pub mask_bit : (old new : Table) (k : ℕ) → bit_of k (changed_mask old new) ≡ one_unless (same_slot (get_or old k []) (get_or new k []))
mask_bit [] new k = no_bit k
mask_bit (o ∷ old) [] k = no_bit k ∙ sym (ap one_unless (same_none (get_or (o ∷ old) k [])))
mask_bit (o ∷ old) (v ∷ new) zero =
    let low : (one_unless (same_slot o v) + 2 * changed_mask old new) % 2 ≡ one_unless (same_slot o v) = omega (arith, one_unless_le (same_slot o v)) in
    low
mask_bit (o ∷ old) (v ∷ new) (suc k) =
    let up : (one_unless (same_slot o v) + 2 * changed_mask old new) / 2 ≡ changed_mask old new = omega (arith, one_unless_le (same_slot o v)) in
    ap (bit_of k) up ∙ mask_bit old new k

-- It has no bit past the records held.
pub mask_below : (old new : Table) → changed_mask old new < 2 ^ length old
mask_below [] new = omega arith
mask_below (o ∷ old) [] = omega (arith, pow-suc 2 (length old), mask_below old [])
mask_below (o ∷ old) (v ∷ new) = omega (arith, pow-suc 2 (length old), one_unless_le (same_slot o v), mask_below old new)

-- A table that stays has no changed slot.
pub mask_self : (t : Table) → changed_mask t t ≡ 0
mask_self [] = refl
mask_self (s ∷ t) =
    let b : one_unless (same_slot s s) ≡ 0 = ap one_unless (same_slot_self s) in
    omega (arith, mask_self t)

twice : (b s : ℕ) → b * 2 ^ suc s ≡ 2 * (b * 2 ^ s)
twice b s = ap (λ n. b * n) (pow-suc 2 s) ∙ sym (mul_assoc b (2 ^ s) 2) ∙ mul_comm (b * 2 ^ s) 2

-- A slot that was as in the old table is set: its bit is added.
pub mask_set : (old t : Table) (s : ℕ) (w : Slot) → s < length old → s < length t → get_or t s [] ≡ get_or old s []
    → changed_mask old (set t s w) ≡ changed_mask old t + one_unless (same_slot (get_or old s []) w) * 2 ^ s
mask_set [] t s w h g e = absurd (omega arith)
mask_set (o ∷ old) [] s w h g e = absurd (omega arith)
mask_set (o ∷ old) (v ∷ t) zero w h g e =
    let z : one_unless (same_slot o v) ≡ 0 = ap (λ x. one_unless (same_slot o x)) e ∙ ap one_unless (same_slot_self o) in
    omega arith
mask_set (o ∷ old) (v ∷ t) (suc s) w h g e =
    omega (arith, twice (one_unless (same_slot (get_or old s []) w)) s, mask_set old t s w (omega arith) (omega arith) e)

-- ---- the limit

in_limit : (fs : List Field) (old new : Slot) → T (good_slot fs old) → changed_in old new ≤ length fs
in_limit fs [] new g = omega arith
in_limit fs (o ∷ old) [] g = omega arith
in_limit [] (o ∷ old) (v ∷ new) g = absurd g
in_limit (f ∷ fs) (o ∷ old) (v ∷ new) g = omega (arith, one_unless_le (eq_z o v), in_limit fs old new (both_right (fits f o) (good_slot fs old) g))

numbers_limit : (fs : List Field) (n : ℕ) (old new : Table) → T (good_records fs n old) → T (good_records fs n new) → changed_numbers old new ≤ n * length fs
numbers_limit fs n [] new g h = omega arith
numbers_limit fs n (o ∷ old) [] g h = omega arith
numbers_limit fs zero (o ∷ old) (v ∷ new) g h =
    omega (arith, subst (λ w. changed_in o w ≡ 0) (same-past fs o v (place fs zero o old g) (place fs zero v new h)) (changed_in_self o), numbers_limit fs zero old new (both_right (good_place fs zero o) _ g) (both_right (good_place fs zero v) _ h))
numbers_limit fs (suc n) (o ∷ old) (v ∷ new) g h =
    omega (arith, suc-mul n (length fs), in_limit fs o v (place fs (suc n) o old g), numbers_limit fs n old new (both_right (good_slot fs o) _ g) (both_right (good_slot fs v) _ h))

slots_limit : (fs : List Field) (n : ℕ) (old new : Table) → T (good_records fs n old) → T (good_records fs n new) → changed_slots old new ≤ n
slots_limit fs n [] new g h = omega arith
slots_limit fs n (o ∷ old) [] g h = omega arith
slots_limit fs zero (o ∷ old) (v ∷ new) g h =
    omega (arith, subst (λ w. one_unless (same_slot o w) ≡ 0) (same-past fs o v (place fs zero o old g) (place fs zero v new h)) (ap one_unless (same_slot_self o)), slots_limit fs zero old new (both_right (good_place fs zero o) _ g) (both_right (good_place fs zero v) _ h))
slots_limit fs (suc n) (o ∷ old) (v ∷ new) g h = omega (arith, one_unless_le (same_slot o v), slots_limit fs n old new (both_right (good_slot fs o) _ g) (both_right (good_slot fs v) _ h))

-- Once a slot of the panel is done, one less than its n slots can change.
others_limit : (fs : List Field) (n c : ℕ) (old new : Table) → c < n → T (good_records fs n old) → T (good_records fs n new) → suc (changed_others c old new) ≤ n
others_limit fs n c [] new l g h = omega arith
others_limit fs n c (o ∷ old) [] l g h = omega arith
others_limit fs zero c (o ∷ old) (v ∷ new) l g h = absurd (omega arith)
others_limit fs (suc n) zero (o ∷ old) (v ∷ new) l g h = omega (arith, ap one_unless (same_slot_self v), slots_limit fs n old new (both_right (good_slot fs o) _ g) (both_right (good_slot fs v) _ h))
others_limit fs (suc n) (suc c) (o ∷ old) (v ∷ new) l g h = omega (arith, one_unless_le (same_slot o v), others_limit fs n c old new (omega arith) (both_right (good_slot fs o) _ g) (both_right (good_slot fs v) _ h))

fewest_le : (c : ℕ) (old new : Table) → fewest c old new ≤ 1 + changed_numbers old new + changed_others c old new
fewest_le c old new = elim (eqb (changed_numbers old new) 0) as (λ b. cond b 0 (1 + changed_numbers old new + changed_others c old new) ≤ 1 + changed_numbers old new + changed_others c old new) [
  | true ↦ omega arith
  | false ↦ omega arith
]

-- A frame has 1 + kn + (n - 1) events at most, where a slot has k numbers: 224 at k = 6 and n = 32.
pub event_limit : (p : Panel) (c : ℕ) (old new : Table) → c < p.slots → T (good_table p old) → T (good_table p new)
    → length (events_sent p c old new) ≤ 1 + p.slots * length p.fields + (p.slots - 1)
event_limit p c old new l g h =
    omega (arith, event-count p c old new, fewest_le c old new, numbers_limit p.fields p.slots old new (good-records p old g) (good-records p new h), others_limit p.fields p.slots c old new l (good-records p old g) (good-records p new h))
