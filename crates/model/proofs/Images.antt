-- A well-formed table is the table of its image, and a load accepts that image. Cited by Long. Assumes nothing.
use mathlib.Core.Path.{◌≡◌, refl, sym, ap, ap₂, ◌∙◌, subst}
use mathlib.Core.Bool.{◌&&◌}
use mathlib.Core.List.{List, [], ◌∷◌, ◌++◌, append_assoc}
use Prim.Native.Nat.{ℕ, zero, suc, ◌+◌, ◌*◌, ◌-◌, ◌<◌}
use native.Mathlib.Omega.{arith}
use native.Mathlib.Nat.{mul-suc}
use lib.Dec.{T, eqb, eqb_refl, lt→ltb}
use lib.IntN.{ℤ, pos}
use lib.ListN.{length, take, replicate, length-append}
use lib.Seq.{append_snoc, get_or-append_seam}
use Rattle.model.specs.Panel.{Field, Panel}
use Rattle.model.specs.Table.{Slot, Table, ids_differ, fits, good_slot, unused_slot, good_place, good_records, good_table}
use Rattle.model.specs.Frame.{numbers_from, rows_from, sized}
use Rattle.model.specs.Calls.{image_table, image_good}
use Rattle.model.specs.Shift.{flat, image_of}
use Rattle.model.proofs.Bools.{both, both_left, both_right}
use Rattle.model.proofs.Tables.{eq_slot→eq, good_length, good-records}

-- ---- row by row

-- A good slot has a number for each field.
full-slot : (fs : List Field) (s : Slot) → T (good_slot fs s) → length s ≡ length fs
full-slot [] [] g = refl
full-slot [] (v ∷ s) g = absurd g
full-slot (f ∷ fs) [] g = absurd g
full-slot (f ∷ fs) (v ∷ s) g = ap suc (full-slot fs s (both_right (fits f v) (good_slot fs s) g))

-- What stands behind `front` in a list, read back.
pub behind : (front s rest : List ℤ) → numbers_from (length s) (front ++ (s ++ rest)) (length front) ≡ s
behind front [] rest = refl
behind front (v ∷ s) rest =
    let joined : front ++ (v ∷ (s ++ rest)) ≡ (front ++ v ∷ []) ++ (s ++ rest) = sym (append_snoc front v (s ++ rest)) in
    let longer : length front + 1 ≡ length (front ++ v ∷ []) = sym (length-append front (v ∷ [])) in
    ap₂ {C = List ℤ} (λ w l. w ∷ l) (get_or-append_seam front v (s ++ rest) (pos 0))
    (ap₂ (numbers_from (length s)) joined longer ∙ behind (front ++ v ∷ []) s rest)

module _ (fs : List Field) where
  -- The rows of the image are the slots that it was made of.
  rows_are : (n : ℕ) (t : Table) (front : List ℤ) → T (good_records fs n t) → rows_from (length fs) n (front ++ flat (take n t)) (length front) ≡ take n t
  unfolding rows_from
  rows_are zero t front g = refl
  rows_are (suc n) [] front g = absurd g
  rows_are (suc n) (s ∷ t) front g =
      let here = both_left (good_slot fs s) (good_records fs n t) g in
      let later = both_right (good_slot fs s) (good_records fs n t) g in
      let rest = flat (take n t) in
      let size = full-slot fs s here in
      let next : length front + length fs ≡ length (front ++ s) = omega (arith, length-append front s, size) in
      ap₂ {C = Table} (λ x l. x ∷ l)
      (ap (λ k. numbers_from k (front ++ (s ++ rest)) (length front)) (sym size) ∙ behind front s rest)
      (ap₂ (rows_from (length fs) n) (sym (append_assoc front s rest)) next ∙ rows_are n t (front ++ s) later)

  -- It has a number for each field of each slot.
  size_is : (n : ℕ) (t : Table) → T (good_records fs n t) → length (flat (take n t)) ≡ length fs * n
  size_is zero t g = omega arith
  size_is (suc n) [] g = absurd g
  size_is (suc n) (s ∷ t) g =
      let here = full-slot fs s (both_left (good_slot fs s) (good_records fs n t) g) in
      omega (arith, length-append s (flat (take n t)), here, size_is n t (both_right (good_slot fs s) (good_records fs n t) g), mul-suc (length fs) n)

  -- The records past the slots are those that a load makes.
  pub unused-past : (n : ℕ) (t : Table) → T (good_records fs n t) → take n t ++ replicate (length t - n) (unused_slot fs) ≡ t
  unused-past zero [] g = refl
  unused-past zero (s ∷ t) g =
      let here = eq_slot→eq s (unused_slot fs) (both_left (good_place fs zero s) (good_records fs zero t) g) in
      let more : length (s ∷ t) - 0 ≡ suc (length t) = omega arith in
      let same : length t ≡ length t - 0 = omega arith in
      ap (λ m. replicate m (unused_slot fs)) more
      ∙ ap₂ {C = Table} (λ x l. x ∷ l) (sym here) (ap (λ m. replicate m (unused_slot fs)) same ∙ unused-past zero t (both_right (good_place fs zero s) (good_records fs zero t) g))
  unused-past (suc n) [] g = absurd g
  unused-past (suc n) (s ∷ t) g =
      let less : length (s ∷ t) - suc n ≡ length t - n = omega arith in
      ap {B = Table} (λ l. s ∷ l) (ap (λ m. take n t ++ replicate m (unused_slot fs)) less ∙ unused-past n t (both_right (good_slot fs s) (good_records fs n t) g))

-- ---- the image

module _ (p : Panel) (t : Table) (g : T (good_table p t)) where
  pub image_back : image_table p (image_of p t) ≡ t
  image_back =
      let records = good-records p t g in
      ap (λ rows. rows ++ replicate (p.records - p.slots) (unused_slot p.fields)) (rows_are p.fields p.slots t [] records)
      ∙ ap (λ m. take p.slots t ++ replicate (m - p.slots) (unused_slot p.fields)) (sym (good_length p t g))
      ∙ unused-past p.fields p.slots t records

  -- With live ids that differ and a current slot of the panel it is good.
  pub image-good : (c : ℕ) → T (ids_differ t) → c < p.slots → T (image_good p (image_of p t) c)
  image-good c differ below =
      let m = image_of p t in
      let size : T (sized p m) = subst (λ k. T (eqb (length m) k)) (size_is p.fields p.slots t (good-records p t g)) (eqb_refl (length m)) in
      let table : T (good_table p (image_table p m)) = subst (λ x. T (good_table p x)) (sym image_back) g in
      let apart : T (ids_differ (image_table p m)) = subst (λ x. T (ids_differ x)) (sym image_back) differ in
      both (sized p m && good_table p (image_table p m) && ids_differ (image_table p m)) _ (both (sized p m && good_table p (image_table p m)) _ (both (sized p m) _ size table) apart) (lt→ltb c p.slots below)
