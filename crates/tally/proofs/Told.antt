-- What is told of two tables while one more slot is made. Cited by the plan and by the writer. Assumes nothing.
use mathlib.Core.Path.{◌≡◌, refl, sym, ap, ap₂, ◌∙◌}
use mathlib.Core.Bool.{Bool, true, false, cond}
use mathlib.Core.List.{List, [], ◌∷◌}
use Prim.Native.Nat.{ℕ, zero, suc, ◌<◌, ◌≤◌, ◌+◌, ◌-◌, ◌*◌, ◌^◌}
use native.Mathlib.Numerals.{add-one}
use native.Mathlib.Omega.{arith}
use native.Mathlib.Nat.{pow-suc}
use lib.Bits.{bit_and}
use lib.Count.{ones}
use lib.Dec.{eqb}
use lib.ListN.{length, length-map, drop, get_or, set}
use lib.Seq.{drop-set-lt}
use Rattle.model.specs.Panel.{per_slot}
use Rattle.model.specs.Table as T
use Rattle.model.specs.Sending.{one_unless, changed_in, changed_numbers, changed_mask, slot_done, changed_others, others_mask, fewest}
use Rattle.model.proofs.Count.{changed_numbers_self, same_count, numbers-set}
use Rattle.model.proofs.Ones.{mask_self, mask_ones, mask_set}
use Rattle.model.proofs.Order.{mask_without}
use Rattle.panel.specs.declared.Slot.{Slot}
use Rattle.panel.specs.Seen.{slot_of, table_of, blank}
use Rattle.panel.proofs.Tables.{rest-is, slot_at}
use Rattle.tally.specs.declared.Changed.{Changed}
use Rattle.tally.specs.Told.{unchanged, with_slot, Tells}

bit_le : (b : Bool) (x : ℕ) → one_unless b * x ≤ x
bit_le true x = omega arith
bit_le false x = omega arith

-- One slot more is one bit more.
pub bit-room : (m s : ℕ) (b : Bool) → m < 2 ^ s → m + one_unless b * 2 ^ s < 2 ^ (s + 1)
bit-room m s b h = rw add-one (omega (arith, bit_le b (2 ^ s), pow-suc 2 s))

-- A table that stays.
pub none_told : (t : List Slot) → Tells 0 t t unchanged
none_told t = record {
  slots = sym (mask_self (table_of t));
  numbers = sym (changed_numbers_self (table_of t));
  before = record { slots = omega arith; numbers = omega arith };
  rest = refl;
}

set-seen : (t : List Slot) (s : ℕ) (w : Slot) → table_of (set t s w) ≡ set (table_of t) s (slot_of w)
set-seen [] s w = refl
set-seen (v ∷ t) zero w = refl
set-seen (v ∷ t) (suc s) w = ap {B = T.Table} (λ l. slot_of v ∷ l) (set-seen t s w)

-- ---- slot s, the first of those that are the same

module _ (old t : List Slot) (s : ℕ) (h : s < length old) (g : s < length t) (c : Changed) (k : Tells s old t c) where
  rests : slot_of (get_or old s blank) ∷ table_of (drop (s + 1) old) ≡ slot_of (get_or t s blank) ∷ table_of (drop (s + 1) t)
  rests = sym (rest-is old s h) ∙ k.rest ∙ rest-is t s g

  as_was : get_or (table_of t) s [] ≡ get_or (table_of old) s []
  as_was = slot_at t s g ∙ sym (ap (λ l. get_or l 0 []) rests) ∙ sym (slot_at old s h)

  -- It stays.
  pub told-on : Tells (s + 1) old t c
  told-on = record {
    slots = k.slots;
    numbers = k.numbers;
    before = record { slots = rw add-one (omega (arith, k.before.slots, pow-suc 2 s)); numbers = omega (arith, k.before.numbers) };
    rest = ap (drop 1) rests;
  }

  -- It becomes w, of which d numbers changed.
  module _ (w : Slot) (d : ℕ) (few : d ≤ per_slot) (e : d ≡ changed_in (slot_of (get_or t s blank)) (slot_of w)) where
    in_old : changed_in (get_or (table_of old) s []) (slot_of w) ≡ d
    in_old = ap (λ o. changed_in o (slot_of w)) (sym as_was ∙ slot_at t s g) ∙ sym e

    slots-told : c.slots + one_unless (eqb d 0) * 2 ^ s ≡ changed_mask (table_of old) (table_of (set t s w))
    slots-told =
        let is = mask_set (table_of old) (table_of t) s (slot_of w) (omega (arith, length-map old slot_of)) (omega (arith, length-map t slot_of)) as_was in
        let bit = ap one_unless (ap (λ n. eqb n 0) (sym in_old) ∙ same_count (get_or (table_of old) s []) (slot_of w)) in
        ap₂ (λ m b. m + b * 2 ^ s) k.slots bit ∙ sym (ap (changed_mask (table_of old)) (set-seen t s w) ∙ is)

    numbers-told : c.numbers + d ≡ changed_numbers (table_of old) (table_of (set t s w))
    numbers-told =
        let is = numbers-set (table_of old) (table_of t) s (slot_of w) (omega (arith, length-map old slot_of)) (omega (arith, length-map t slot_of)) as_was in
        ap₂ (λ m n. m + n) k.numbers (sym in_old) ∙ sym (ap (changed_numbers (table_of old)) (set-seen t s w) ∙ is)

    pub told-set : Tells (s + 1) old (set t s w) (with_slot c s d)
    told-set = record {
      slots = slots-told;
      numbers = numbers-told;
      before = record { slots = bit-room c.slots s (eqb d 0) k.before.slots; numbers = omega (arith, k.before.numbers) };
      rest = ap (drop 1) rests ∙ sym (ap table_of (drop-set-lt (s + 1) t s w (omega arith)));
    }

-- ---- the frame's slots other than the current one, and its events

module _ (old new : List Slot) (current : ℕ) (s : ℕ) (c : Changed) (k : Tells s old new c) where
  pub others-told : c.slots - bit_and c.slots (2 ^ current) ≡ others_mask current (table_of old) (table_of new)
  others-told = ap (λ m. m - bit_and m (2 ^ current)) k.slots ∙ mask_without current (table_of old) (table_of new)

  pub events-told : (others : ℕ) → others ≡ others_mask current (table_of old) (table_of new)
      → cond (eqb c.numbers 0) 0 (1 + c.numbers + ones others) ≡ fewest current (table_of old) (table_of new)
  events-told others e =
      let opened : ones others ≡ changed_others current (table_of old) (table_of new) = ap ones e ∙ mask_ones (slot_done current (table_of old) (table_of new)) (table_of new) in
      ap₂ (λ n o. cond (eqb n 0) 0 (1 + n + o)) k.numbers opened
