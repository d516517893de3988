-- A table that code holds, of any slots: `see` is how one is seen. Its tests as a loop makes them, one record and what is left; a whole table; and one that is held again. Cited by the panel's laws and by the cranes' reader. Assumes nothing.
use mathlib.Core.Path.{◌≡◌, refl, sym, ap, ap₂, ◌∙◌}
use mathlib.Core.Bool.{Bool, true, not, ◌&&◌, and_assoc}
use mathlib.Core.List.{List, [], ◌∷◌, map}
use Prim.Native.Nat.{ℕ, zero, suc, ◌+◌, ◌-◌, ◌≤◌, ◌<◌}
use native.Mathlib.Numerals.{add-one}
use native.Mathlib.Omega.{arith}
use lib.Dec.{T}
use lib.IntN.{ℤ}
use lib.ListN.{take, drop, get_or, get_or-replicate, length, length-replicate, replicate, drop_of_length-le, length-map}
use lib.Seq.{drop-cons, slice-cons, slice_empty}
use borrow.Author.Tests.{eq-eqb}
use Rattle.model.specs.Numbers.{eq_z}
use Rattle.model.specs.Panel.{Field, Panel}
use Rattle.model.specs.Table.{Slot, Table, id_of, unheld, ids, unused_slot, eq_slot, eq_table, good_slot, good_records, good_table}
use Rattle.model.proofs.Bools.{holds, is_true, both_left, both_right, and_right}
use Rattle.model.proofs.Tables.{eq_slot→eq, eq_table→eq, eq_table_self, good_length, good-records}

-- The length of an array that is a field is known of its mapped list.
pub unmapped : (A B : Type 0) (f : A → B) (l : List A) (n : ℕ) → length (map f l) ≡ n → length l ≡ n
unmapped A B f l n e = sym (length-map l f) ∙ e

module _ {A : Type 0} (see : A → Slot) where
  -- From slot i on among the first n.
  abbrev front : List A → ℕ → ℕ → Table
  front t n i = map see (drop i (take n t))

  -- ---- from slot i on; slot d stands past the table's end

  module _ (d : A) where
    -- Slot i, and the slots after it: every turn of a loop over a table comes of this.
    pub rest-is : (t : List A) (i : ℕ) → i < length t → map see (drop i t) ≡ see (get_or t i d) ∷ map see (drop (i + 1) t)
    rest-is t i h = rw (add-one, drop-cons t i d h)

    front_is : (t : List A) (n i : ℕ) → i < n → n ≤ length t → front t n i ≡ see (get_or t i d) ∷ front t n (i + 1)
    front_is t n i k h = rw add-one (ap (map see) (slice-cons i n t d k h))

    module _ (t : List A) (n : ℕ) (h : n ≤ length t) (i : ℕ) (k : i < n) where
      pub unheld-turn : (v : ℤ) → unheld v (ids (front t n i)) ≡ (not (eq_z v (id_of (see (get_or t i d)))) && unheld v (ids (front t n (i + 1))))
      unheld-turn v = ap (λ l. unheld v (ids l)) (front_is t n i k h)

      pub slots-turn : (fs : List Field)
          → good_records fs (n - i) (front t n i) ≡ (good_slot fs (see (get_or t i d)) && good_records fs (n - (i + 1)) (front t n (i + 1)))
      slots-turn fs =
          let m : n - i ≡ suc (n - (i + 1)) = omega arith in
          rw m (ap (good_records fs (suc (n - (i + 1)))) (front_is t n i k h))

    pub same_turn : (a b : List A) (i : ℕ) → i < length a → i < length b
        → eq_table (map see (drop i a)) (map see (drop i b)) ≡ (eq_slot (see (get_or a i d)) (see (get_or b i d)) && eq_table (map see (drop (i + 1) a)) (map see (drop (i + 1) b)))
    same_turn a b i h k = ap₂ eq_table (rest-is a i h) (rest-is b i k)

    -- One record of those that may never have been used, and those after it: a table of m records, where slot u is an unused one.
    pub rest-turn : (t : List A) (m : ℕ) (u : A) → length t ≡ m → (i : ℕ) → i < m
        → eq_table (map see (drop i t)) (map see (drop i (replicate m u))) ≡ (eq_slot (see (get_or t i d)) (see u) && eq_table (map see (drop (i + 1) t)) (map see (drop (i + 1) (replicate m u))))
    rest-turn t m u full i h =
        same_turn t (replicate m u) i (omega arith) (omega (arith, length-replicate m u))
        ∙ ap (λ x. eq_slot (see (get_or t i d)) (see x) && eq_table (map see (drop (i + 1) t)) (map see (drop (i + 1) (replicate m u)))) (get_or-replicate m i u d h)

    -- The slot that the code reads.
    pub slot_at : (t : List A) (k : ℕ) → k < length t → get_or (map see t) k [] ≡ see (get_or t k d)
    slot_at [] k h = absurd (omega arith)
    slot_at (s ∷ t) zero h = refl
    slot_at (s ∷ t) (suc k) h = slot_at t k (omega arith)

  -- ---- past the last

  pub rest-none : (t : List A) (i : ℕ) → length t ≤ i → map see (drop i t) ≡ []
  rest-none t i h = rw (drop_of_length-le t h)

  module _ (t : List A) (n i : ℕ) (e : i ≡ n) where
    pub unheld-over : (v : ℤ) → unheld v (ids (front t n i)) ≡ true
    unheld-over v = rw e (ap (λ l. unheld v (ids (map see l))) (slice_empty n t))

    pub slots-over : (fs : List Field) → good_records fs (n - i) (front t n i) ≡ true
    slots-over fs =
        let z : n - n ≡ 0 = omega arith in
        rw (e, z) (ap (λ l. good_records fs 0 (map see l)) (slice_empty n t))

  pub same_over : (a b : List A) (i : ℕ) → map see (drop i a) ≡ map see (drop i b) → eq_table (map see (drop i a)) (map see (drop i b)) ≡ true
  same_over a b i e = ap (eq_table (map see (drop i a))) (sym e) ∙ is_true _ (eq_table_self (map see (drop i a)))

  pub rest-over : (t : List A) (m : ℕ) (u : A) → length t ≡ m → (i : ℕ) → m ≤ i → eq_table (map see (drop i t)) (map see (drop i (replicate m u))) ≡ true
  rest-over t m u full i h = same_over t (replicate m u) i (rest-none t i (omega arith) ∙ sym (rest-none (replicate m u) i (omega (arith, length-replicate m u))))

  -- ---- a whole table: the panel's slots, and the records past them, where slot u is an unused one

  parts : (fs : List Field) (n : ℕ) (t : List A) → good_records fs n (map see t) ≡ (good_records fs n (map see (take n t)) && good_records fs 0 (map see (drop n t)))
  parts fs zero t = refl
  parts fs (suc n) [] = refl
  parts fs (suc n) (s ∷ t) =
      let slots = good_records fs n (map see (take n t)) in
      let rest = good_records fs 0 (map see (drop n t)) in
      ap (λ b. good_slot fs (see s) && b) (parts fs n t) ∙ sym (and_assoc (good_slot fs (see s)) slots rest)

  module _ (p : Panel) (u : A) (unused : see u ≡ unused_slot p.fields) where
    never_used : (n : ℕ) (t : List A) → good_records p.fields 0 (map see (drop n t)) ≡ eq_table (map see (drop n t)) (map see (drop n (replicate (length t) u)))
    never_used zero [] = refl
    never_used zero (s ∷ t) = ap₂ (λ x b. eq_slot (see s) x && b) (sym unused) (never_used zero t)
    never_used (suc n) [] = refl
    never_used (suc n) (s ∷ t) = never_used n t

    module _ (t : List A) where
      abbrev slots : Bool
      slots = good_records p.fields p.slots (map see (take p.slots t))

      abbrev rest : Bool
      rest = eq_table (map see (drop p.slots t)) (map see (drop p.slots (replicate p.records u)))

      module _ (e : length t ≡ p.records) where
        pub good_parts : good_records p.fields p.slots (map see t) ≡ (slots && rest)
        good_parts =
            let past = ap (λ m. eq_table (map see (drop p.slots t)) (map see (drop p.slots (replicate m u)))) e in
            parts p.fields p.slots t ∙ ap (λ b. slots && b) (never_used p.slots t ∙ past)

        -- A good table was never used past the panel's slots.
        pub good-rest : good_records p.fields p.slots (map see t) ≡ true → map see (drop p.slots t) ≡ map see (drop p.slots (replicate p.records u))
        good-rest g = eq_table→eq _ _ (holds rest (and_right slots rest (sym good_parts ∙ g)))

      -- A well-formed one was not.
      pub table-rest : T (good_table p (map see t)) → map see (drop p.slots t) ≡ map see (drop p.slots (replicate p.records u))
      table-rest g = good-rest (unmapped _ _ see t p.records (good_length p (map see t) g)) (is_true _ (good-records p (map see t) g))

  pub table-good : (p : Panel) (t : List A) → length t ≡ p.records → good_table p (map see t) ≡ good_records p.fields p.slots (map see t)
  table-good p t e = rw (eq-eqb (length (map see t)) p.records (length-map t see ∙ e))

-- ---- what is seen and held again: `hold` makes a slot of its numbers

module _ {A : Type 0} (see : A → Slot) (hold : Slot → A) where
  pub table_back : ((s : A) → hold (see s) ≡ s) → (t : List A) → map hold (map see t) ≡ t
  table_back back [] = refl
  table_back back (s ∷ t) = ap₂ {C = List A} (λ x l. x ∷ l) (back s) (table_back back t)

  -- Good records are seen as they are, once they are held.
  pub table-seen : (fs : List Field) → ((s : Slot) → T (good_slot fs s) → see (hold s) ≡ s) → see (hold (unused_slot fs)) ≡ unused_slot fs
      → (n : ℕ) (t : Table) → T (good_records fs n t) → map see (map hold t) ≡ t
  table-seen fs good idle zero [] g = refl
  table-seen fs good idle (suc n) [] g = absurd g
  table-seen fs good idle zero (s ∷ t) g =
      let e = eq_slot→eq s (unused_slot fs) (both_left (eq_slot s (unused_slot fs)) _ g) in
      ap₂ {C = Table} (λ x y. x ∷ y) (ap (λ z. see (hold z)) e ∙ idle ∙ sym e) (table-seen fs good idle zero t (both_right (eq_slot s (unused_slot fs)) _ g))
  table-seen fs good idle (suc n) (s ∷ t) g =
      ap₂ {C = Table} (λ x y. x ∷ y) (good s (both_left (good_slot fs s) _ g)) (table-seen fs good idle n t (both_right (good_slot fs s) _ g))
