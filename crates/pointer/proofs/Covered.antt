-- Whether every id stays, by the bits of the slots that may have changed: from one set bit to the next. Cited by the proofs of `ids_stay` and `moves`. Assumes nothing.
use mathlib.Core.Path.{◌≡◌, refl, sym, ap, ap₂, ◌∙◌}
use mathlib.Core.Bool.{Bool, true, false, cond, ◌&&◌}
use mathlib.Core.List.{List, [], ◌∷◌, ◌++◌}
use Prim.Native.Nat.{ℕ, zero, suc, ◌-◌, ◌/◌, ◌%◌, ◌^◌, ◌<◌}
use native.Mathlib.Omega.{arith}
use lib.Bits.{bit_and}
use lib.Count.{count_trailing_zeros}
use lib.IntN.{ℤ, pos}
use lib.ListN.{length, get_or}
use Rattle.model.specs.Panel.{records}
use Rattle.model.specs.Numbers.{eq_z}
use Rattle.model.specs.Table.{ids, eq_slot}
use Rattle.model.specs.Sending.{one_unless, same_slot, changed_mask, bit_of}
use Rattle.model.specs.Order.{if_bit, of_mask}
use Rattle.model.proofs.Bools.{is_true, eq_z→eq, eq_z-refl, holds, and_left}
use Rattle.model.proofs.Ones.{mask_bit}
use Rattle.model.proofs.Order.{mask_none, mask_next}
use Rattle.panel.specs.declared.Slot.{Slot}
use Rattle.panel.specs.Seen.{slot_of, table_of, blank}
use Rattle.panel.proofs.Tables.{slot_at}
use Rattle.pointer.specs.Moved.{Covers}

-- ---- the slots that a number names whose ids differ

-- Slot s, if its ids differ.
abbrev pub differs : List ℤ → List ℤ → ℕ → List ℕ
differs old new s = cond (eq_z (get_or old s (pos 0)) (get_or new s (pos 0))) [] (s ∷ [])

abbrev is_none : List ℕ → Bool
is_none [] = true
is_none (s ∷ l) = false

-- None of the slots that m names has another id.
abbrev pub stays_in : ℕ → List ℤ → List ℤ → Bool
stays_in m old new = is_none (of_mask records m (differs old new))

-- One slot: where its bit is 0 its ids are the same.
head : (b : Bool) (s d : ℕ) (l : List ℕ) → (d ≡ 0 → b ≡ true) → is_none (if_bit d (cond b [] (s ∷ [])) ++ l) ≡ (b && is_none l)
head true s zero l e = refl
head true s (suc d) l e = refl
head false s zero l e = let z : one_unless false ≡ one_unless true = ap one_unless (e refl) in absurd (omega arith)
head false s (suc d) l e = refl

all_from : (w m : ℕ) (old new : List ℤ) (f : ℕ → ℕ) → length old ≡ w → length new ≡ w
    → ((s : ℕ) → s < w → bit_of s m ≡ 0 → get_or old s (pos 0) ≡ get_or new s (pos 0))
    → is_none (of_mask w m (λ s. cond (eq_z (get_or old s (pos 0)) (get_or new s (pos 0))) [] (f s ∷ []))) ≡ eq_slot old new
unfolding of_mask
all_from zero m [] [] f e g H = refl
all_from zero m [] (v ∷ new) f e g H = absurd (omega arith)
all_from zero m (u ∷ old) new f e g H = absurd (omega arith)
all_from (suc w) m [] new f e g H = absurd (omega arith)
all_from (suc w) m (u ∷ old) [] f e g H = absurd (omega arith)
all_from (suc w) m (u ∷ old) (v ∷ new) f e g H =
    let same : m % 2 ≡ 0 → eq_z u v ≡ true = λ z. ap (eq_z u) (sym (H 0 (omega arith) z)) ∙ is_true (eq_z u u) (eq_z-refl u) in
    head (eq_z u v) (f 0) (m % 2) (of_mask w (m / 2) (λ s. cond (eq_z (get_or old s (pos 0)) (get_or new s (pos 0))) [] (f (suc s) ∷ []))) same
    ∙ ap (λ b. eq_z u v && b) (all_from w (m / 2) old new (λ s. f (suc s)) (omega arith) (omega arith) (λ s h z. H (suc s) (omega arith) z))

-- Where the number covers every change, none of its slots has another id exactly where all ids are the same.
pub covered : (m : ℕ) (old new : List ℤ) → length old ≡ records → length new ≡ records → Covers m old new → stays_in m old new ≡ eq_slot old new
covered m old new e g c = all_from records m old new (λ s. s) e g c.same

-- ---- from one set bit to the next

module _ (old new : List ℤ) where
  pub stays-over : stays_in 0 old new ≡ true
  stays-over = ap is_none (mask_none records (differs old new))

  module _ (m : ℕ) (p : 0 < m) (h : m < 2 ^ records) where
    abbrev z : ℕ
    z = count_trailing_zeros records m

    abbrev test : Bool
    test = eq_z (get_or old z (pos 0)) (get_or new z (pos 0))

    next : stays_in m old new ≡ is_none (cond test [] (z ∷ []) ++ of_mask records (bit_and m (m - 1)) (differs old new))
    next = ap is_none (mask_next records m (differs old new) p h)

    pub stays-turn : test ≡ true → stays_in m old new ≡ stays_in (bit_and m (m - 1)) old new
    unfolding next
    stays-turn e = next ∙ ap (λ b. is_none (cond b [] (z ∷ []) ++ of_mask records (bit_and m (m - 1)) (differs old new))) e

    pub stays-not : test ≡ false → stays_in m old new ≡ false
    unfolding next
    stays-not e = next ∙ ap (λ b. is_none (cond b [] (z ∷ []) ++ of_mask records (bit_and m (m - 1)) (differs old new))) e

-- ---- the changed slots of two tables

same_id : (a b : Slot) → one_unless (same_slot (slot_of a) (slot_of b)) ≡ 0 → a.id.0 ≡ b.id.0
same_id a b e = eq_z→eq a.id.0 b.id.0 (holds _ (and_left (eq_z a.id.0 b.id.0) _ (zero-true (same_slot (slot_of a) (slot_of b)) e)))
  where
    zero-true : (b : Bool) → one_unless b ≡ 0 → b ≡ true
    zero-true true e = refl
    zero-true false e = absurd (omega arith)

id-at : (t : List Slot) (s : ℕ) → s < length t → get_or (ids (table_of t)) s (pos 0) ≡ (get_or t s blank).id.0
id-at [] s h = absurd (omega arith)
id-at (a ∷ t) zero h = refl
id-at (a ∷ t) (suc s) h = id-at t s (omega arith)

-- They cover every change of an id.
pub changed_covers : (old new : List Slot) (m : ℕ) (l k : List ℤ) → length old ≡ records → length new ≡ records
    → m ≡ changed_mask (table_of old) (table_of new) → l ≡ ids (table_of old) → k ≡ ids (table_of new) → Covers m l k
changed_covers old new m l k e g c was is = record {
  same = λ s h z.
      let both = ap₂ (λ x y. one_unless (same_slot x y)) (sym (slot_at old s (omega arith))) (sym (slot_at new s (omega arith))) in
      let none = both ∙ sym (mask_bit (table_of old) (table_of new) s) ∙ ap (bit_of s) (sym c) ∙ z in
      ap (λ x. get_or x s (pos 0)) was ∙ id-at old s (omega arith) ∙ same_id (get_or old s blank) (get_or new s blank) none
      ∙ sym (ap (λ x. get_or x s (pos 0)) is ∙ id-at new s (omega arith));
}
