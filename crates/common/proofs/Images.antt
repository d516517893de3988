-- A load's image row by row, and the table as it is filled, of any slots: `hold` makes one of its numbers, k make a row, m records a table, and slot u is an unused one.
-- Cited by image's laws and by the cranes' reader. Assumes nothing.
use mathlib.Core.Path.{◌≡◌, refl, sym, ap, ap₂, ◌∙◌}
use mathlib.Core.Bool.{true, false, ◌&&◌}
use mathlib.Core.List.{List, [], ◌∷◌, ◌++◌, map, append_assoc, map-append}
use Prim.Native.Nat.{ℕ, zero, suc, ◌+◌, ◌-◌, ◌*◌, ◌≤◌, ◌<◌}
use native.Mathlib.Nat.{mul-suc}
use native.Mathlib.Omega.{arith}
use lib.Dec.{ltb, eqb→eq}
use lib.IntN.{ℤ}
use lib.ListN.{length, drop, set, replicate, length-append, length-map, length-replicate, replicate-append-replicate}
use lib.Seq.{set_at, drop_at}
use borrow.Author.Tests.{eq-eqb, ne_eqb}
use Rattle.model.specs.Panel.{Field, Panel}
use Rattle.model.specs.Table.{Slot, Table, id_of, ids, ids_differ, live_differ, good_slot, good_records, good_table, unused_slot}
use Rattle.model.specs.Frame.{numbers_from, rows_from, rows_of, sized}
use Rattle.model.specs.Calls.{image_table, image_good}
use Rattle.model.proofs.Bools.{holds, both_left}
use Rattle.model.proofs.Calls.{length-rows_from}
use Rattle.model.proofs.Rows.{rows_next, rows_none}
use Rattle.model.proofs.Tables.{good_pad, map-replicate}

-- ---- the rows

module _ (k : ℕ) (fs : List Field) (l : List ℤ) (n i : ℕ) where
  pub good-next : i < n
      → good_records fs (n - i) (rows_from k (n - i) l (k * i)) ≡ (good_slot fs (numbers_from k l (k * i)) && good_records fs (n - (i + 1)) (rows_from k (n - (i + 1)) l (k * (i + 1))))
  good-next h =
      let m : n - i ≡ suc (n - (i + 1)) = omega arith in
      ap (good_records fs (n - i)) (rows_next k n i l h) ∙ ap (λ j. good_records fs j (numbers_from k l (k * i) ∷ rows_from k (n - (i + 1)) l (k * (i + 1)))) m

  pub good_end : n ≤ i → good_records fs (n - i) (rows_from k (n - i) l (k * i)) ≡ true
  good_end h =
      let m : n - i ≡ 0 = omega arith in
      rw (m, rows_none)

rows_snoc : (k i : ℕ) (l : List ℤ) (at : ℕ) → rows_from k (suc i) l at ≡ rows_from k i l at ++ (numbers_from k l (at + k * i) ∷ [])
unfolding rows_from
rows_snoc k zero l at = let z : at + k * 0 ≡ at = omega arith in rw z
rows_snoc k (suc i) l at =
    let e : at + k + k * i ≡ at + k * suc i = rw mul-suc (swapped at k (k * i)) in
    ap {B = Table} (λ t. numbers_from k l at ∷ t) (rw e at (rows_snoc k i l (at + k)))
  where
    swapped : (a b c : ℕ) → a + b + c ≡ a + (c + b)
    swapped a b c = omega arith

-- ---- the table as it is filled

module _ {A : Type 0} (hold : Slot → A) (u : A) (k m : ℕ) where
  -- i slots filled
  abbrev pub filled : List ℤ → ℕ → List A
  filled l i = map hold (rows_from k i l 0) ++ replicate (m - i) u

  pub filled_start : (l : List ℤ) → replicate m u ≡ filled l 0
  unfolding rows_from
  filled_start l =
      let z : m ≡ m - 0 = omega arith in
      ap (λ j. replicate j u) z

  pub filled_next : (l : List ℤ) (i : ℕ) → i < m → set (filled l i) i (hold (numbers_from k l (k * i))) ≡ filled l (i + 1)
  filled_next l i h =
      let one : m - i ≡ suc (m - (i + 1)) = omega arith in
      let s : i + 1 ≡ suc i = omega arith in
      let z : 0 + k * i ≡ k * i = omega arith in
      let a = map hold (rows_from k i l 0) in
      let x = hold (numbers_from k l (k * i)) in
      let r = replicate (m - (i + 1)) u in
      let n : length a ≡ i = length-map (rows_from k i l 0) hold ∙ length-rows_from k i l 0 in
      let p : set (a ++ (u ∷ r)) i x ≡ a ++ (x ∷ r) = set_at a u r x i n in
      let q : a ++ (x ∷ r) ≡ (a ++ (x ∷ [])) ++ r = sym (append_assoc a (x ∷ []) r) in
      let t : map hold (rows_from k (suc i) l 0) ≡ a ++ (x ∷ []) = ap (map hold) (rw z at (rows_snoc k i l 0)) ∙ map-append hold (rows_from k i l 0) (numbers_from k l (k * i) ∷ []) in
      ap (λ j. set (a ++ replicate j u) i x) one ∙ p ∙ q ∙ ap (λ w. w ++ r) (sym t) ∙ ap (λ j. map hold (rows_from k j l 0) ++ r) (sym s)

-- ---- the image of a panel, filled

module _ {A : Type 0} (hold : Slot → A) (p : Panel) (l : List ℤ) where
  -- An unused slot, held.
  abbrev idle : A
  idle = hold (unused_slot p.fields)

  pub filled_end : filled hold idle (length p.fields) p.records l p.slots ≡ map hold (image_table p l)
  filled_end =
      let t = rows_of p l in
      sym (map-append hold t (replicate (p.records - p.slots) (unused_slot p.fields)) ∙ ap (λ w. map hold t ++ w) (map-replicate hold (p.records - p.slots) (unused_slot p.fields)))

  -- Past the image's slots it was never used.
  pub filled_rest : (see : A → Slot) → p.slots ≤ p.records → map see (drop p.slots (map hold (image_table p l))) ≡ map see (drop p.slots (replicate p.records idle))
  filled_rest see h =
      let n = p.slots in
      let r = replicate (p.records - n) idle in
      let whole : n + (p.records - n) ≡ p.records = omega arith in
      let t = map hold (rows_of p l) in
      let a : drop n (t ++ r) ≡ r = drop_at t r n (length-map (rows_of p l) hold ∙ length-rows_from (length p.fields) n l 0) in
      let all : replicate p.records idle ≡ replicate n idle ++ r = sym (replicate-append-replicate n (p.records - n) idle ∙ ap (λ j. replicate j idle) whole) in
      let b : drop n (replicate p.records idle) ≡ r = ap (drop n) all ∙ drop_at (replicate n idle) r n (length-replicate n idle) in
      ap (λ x. map see (drop n x)) (sym filled_end) ∙ ap (map see) (a ∙ sym b)

-- ---- the image's tests

module _ (p : Panel) (l : List ℤ) where
  -- An image of another length is not good.
  pub other_length : (c : ℕ) → (length l ≡ length p.fields * p.slots → ⊥) → image_good p l c ≡ false
  other_length c e = rw (ne_eqb (length l) (length p.fields * p.slots) e)

  pub image-length : (c : ℕ) → image_good p l c ≡ true → length l ≡ length p.fields * p.slots
  image-length c e =
      let a = sized p l in
      let b = good_table p (image_table p l) in
      let d = ids_differ (image_table p l) in
      eqb→eq (length l) (length p.fields * p.slots) (both_left a b (both_left (a && b) d (both_left (a && b && d) (ltb c p.slots) (holds _ e))))

  -- Good rows make a good table.
  pub image-records : p.slots ≤ p.records → good_table p (image_table p l) ≡ good_records p.fields p.slots (rows_of p l)
  image-records h =
      let t = rows_of p l in
      let r = replicate (p.records - p.slots) (unused_slot p.fields) in
      let n = length-rows_from (length p.fields) p.slots l 0 in
      let all : length (t ++ r) ≡ p.records = omega (arith, length-append t r, n, length-replicate (p.records - p.slots) (unused_slot p.fields)) in
      ap₂ (λ a b. a && b) (eq-eqb (length (t ++ r)) p.records all) (good_pad p.fields p.slots (p.records - p.slots) t n)

-- The table that the code makes has the image's ids.
pub ids-held : {A : Type 0} (see : A → Slot) (hold : Slot → A) → ((s : Slot) → id_of (see (hold s)) ≡ id_of s) → (t : Table) → ids_differ (map see (map hold t)) ≡ ids_differ t
ids-held see hold same t = ap live_differ (all t)
  where
    all : (t : Table) → ids (map see (map hold t)) ≡ ids t
    all [] = refl
    all (s ∷ t) = ap₂ {C = List ℤ} (λ v r. v ∷ r) (same s) (all t)
