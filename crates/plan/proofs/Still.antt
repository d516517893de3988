-- A row that leaves its slot as it is: it is good since the slot is, nothing begins, and the slot stays. Cited by the proofs of the walk and by the writer. Assumes nothing.
use mathlib.Core.Path.{◌≡◌, refl, sym, ap, ap₂, subst, ◌∙◌}
use mathlib.Core.Bool.{Bool, true, false, not, cond, ◌&&◌, false≢true}
use mathlib.Core.Logic.{◌⊎◌, inl, inr, ⊎_elim}
use mathlib.Core.List.{List, [], ◌∷◌}
use Prim.Native.Nat.{ℕ, zero, suc, ◌+◌, ◌-◌, ◌<◌, ◌≤◌}
use native.Mathlib.Omega.{arith}
use lib.Dec.{T, eqb, leb, eqb→eq, leb→le}
use lib.IntN.{ℤ, pos, negsuc}
use lib.ListN.{length, get_or, length-map}
use borrow.Author.Tests.{le-leb, eq-eqb, not-false}
use mir.Syntax.{w32}
use mir.Val.{SFits}
use Rattle.model.specs.Panel.{Field, base, setup_good, per_slot}
use Rattle.model.specs.Numbers.{eq_z, minus_one, between_z}
use Rattle.model.specs.Table.{Table, numbers_of, live, good_slot, good_records}
use Rattle.model.specs.Records.{bits_of}
use Rattle.model.specs.Frame.{numbers_from, kind_of, good_contact, good_row, goes_on, begins, fate, slot_after}
use Rattle.model.proofs.Bools.{holds, is_true, both_left, both_right, and_left, and_right, eq_z→eq}
use Rattle.common.specs.Seen.{natural}
use Rattle.panel.specs.declared.Slot.{Slot}
use Rattle.panel.specs.declared.Setup.{Setup}
use Rattle.panel.specs.Seen.{slot_of, table_of, setup_of, fields_of, axes_of, blank, SameFrom}
use Rattle.panel.proofs.Setups.{small}
use Rattle.panel.proofs.Tables.{slot_at, rest-is}
use Rattle.plan.specs.Row.{begun, contact_of}
use Rattle.plan.specs.Quiet.{same_numbers, quiet_row, Of32}

-- ---- a slot of a good table

good-at : (fs : List Field) (n : ℕ) (t : Table) (s : ℕ) → s < n → s < length t → T (good_records fs n t) → T (good_slot fs (get_or t s []))
good-at fs n [] s l h g = absurd (omega arith)
good-at fs zero (v ∷ t) s l h g = absurd (omega arith)
good-at fs (suc n) (v ∷ t) zero l h g = both_left (good_slot fs v) (good_records fs n t) g
good-at fs (suc n) (v ∷ t) (suc s) l h g = good-at fs n t s (omega arith) (omega arith) (both_right (good_slot fs v) (good_records fs n t) g)

pub slot-good : (u : Setup) (t : List Slot) (s : ℕ) → s < u.n → s < length t → good_records (fields_of u) u.n (table_of t) ≡ true → good_slot (fields_of u) (slot_of (get_or t s blank)) ≡ true
slot-good u t s l h g =
    let k = good-at (fields_of u) u.n (table_of t) s l (omega (arith, length-map t slot_of)) (holds _ g) in
    ap (good_slot (fields_of u)) (sym (slot_at t s h)) ∙ is_true _ k

-- A slot from which on two tables are the same.
pub same-slot : (old t : List Slot) (s : ℕ) → s < length old → s < length t → SameFrom s old t → slot_of (get_or old s blank) ≡ slot_of (get_or t s blank)
same-slot old t s h g e = ap (λ l. get_or l 0 []) (sym (rest-is old s h) ∙ e ∙ rest-is t s g)

-- ---- a number that is held is its own bits

own : (v : ℤ) (n : ℕ) → SFits w32 v → n < 2147483648 → eqb n (bits_of v) ≡ true → v ≡ pos n
unfolding bits_of
own (pos m) n f l e = ap pos (sym (eqb→eq n m (holds _ e)))
own (negsuc m) n f l e = let z : n ≡ 4294967295 - m = eqb→eq n _ (holds _ e) in absurd (omega arith)

-- What holds of all before s, and of s, holds of all up to s.
pub one_more : (P : ℕ → Type 0) (s : ℕ) → ((i : ℕ) → i < s → P i) → P s → (i : ℕ) → i < s + 1 → P i
one_more P s k e i h = ⊎_elim (λ l. k i l) (λ q. subst P (sym q) e) (split i s (omega arith))
  where
    split : (i s : ℕ) → i < suc s → (i < s) ⊎ (i ≡ s)
    split zero zero h = inr refl
    split zero (suc s) h = inl (omega arith)
    split (suc i) zero h = absurd (omega arith)
    split (suc i) (suc s) h = ⊎_elim (λ l. inl (omega arith)) (λ q. inr (ap suc q)) (split i s (omega arith))

-- ---- a quiet row

-- The row g is good for a setup, begins nothing, and leaves the slot as it was.
pub record Stays (u : Setup) (was : Slot) (g : List ℤ) : Type 0 where
  pub good : good_row (axes_of u) g ≡ true
  pub goes : begun (fate (kind_of g) was.id.0) ≡ false
  pub slot : (j : ℕ) → slot_of was ≡ slot_after (fate (kind_of g) was.id.0) j (slot_of was) (numbers_of g)

bound : (n top : ℕ) → between_z (pos 0) (pos top) (pos n) ≡ true → n ≤ top
bound n top e = leb→le n top (holds _ (and_right (leb 0 n) (leb n top) e))

-- A slot that its row's numbers leave as it is holds them.
pub same_by : (was : Slot) (g : List ℤ) → slot_of was ≡ slot_of (contact_of was.id.0 g) → same_numbers was g ≡ true
same_by was g e =
    let at : (i : ℕ) → natural (get_or (slot_of was) i (pos 0)) ≡ natural (get_or (slot_of (contact_of was.id.0 g)) i (pos 0)) = λ i. ap (λ l. natural (get_or l i (pos 0))) e in
    rw (eq-eqb _ _ (at 1), eq-eqb _ _ (at 2), eq-eqb _ _ (at 3), eq-eqb _ _ (at 4), eq-eqb _ _ (at 5))

-- The tests of a good slot's numbers but its id.
module _ (u : Setup) (was : Slot) (sl : good_slot (fields_of u) (slot_of was) ≡ true) where
  abbrev in_x : Bool
  in_x = between_z (pos 0) (pos u.x) (pos was.x)

  abbrev in_y : Bool
  in_y = between_z (pos 0) (pos u.y) (pos was.y)

  abbrev in_pressure : Bool
  in_pressure = between_z (pos 0) (pos u.pressure) (pos was.pressure)

  abbrev in_major : Bool
  in_major = between_z (pos 0) (pos u.major) (pos was.major)

  abbrev in_minor : Bool
  in_minor = between_z (pos 0) (pos u.minor) (pos was.minor)

  all : (in_x && (in_y && (in_pressure && (in_major && (in_minor && true))))) ≡ true
  all = and_right (between_z minus_one (pos 65535) was.id.0) _ sl

  x-good : in_x ≡ true
  x-good = and_left in_x _ all

  y-good : in_y ≡ true
  y-good = and_left in_y _ (and_right in_x _ all)

  pressure-good : in_pressure ≡ true
  pressure-good = and_left in_pressure _ (and_right in_y _ (and_right in_x _ all))

  major-good : in_major ≡ true
  major-good = and_left in_major _ (and_right in_pressure _ (and_right in_y _ (and_right in_x _ all)))

  minor-good : in_minor ≡ true
  minor-good = and_left in_minor _ (and_right in_major _ (and_right in_pressure _ (and_right in_y _ (and_right in_x _ all))))

  -- A frame may give them, unless the pressure is 0.
  contact-good : not (eqb was.pressure 0) ≡ true → good_contact (axes_of u) (numbers_of (slot_of was)) ≡ true
  contact-good p =
      let some : (was.pressure ≡ 0) → ⊥ = λ z. absurd (false≢true (sym (ap (λ n. not (eqb n 0)) z) ∙ p)) in
      rw (x-good, y-good, pressure-good, major-good, minor-good, le-leb 0 was.x (omega arith), le-leb 0 was.y (omega arith), le-leb 1 was.pressure (omega (arith, some)), le-leb 0 was.major (omega arith), le-leb 0 was.minor (omega arith))

  module _ (sg : setup_good base (setup_of u) ≡ true) (k x y p a i : ℤ) (fx : SFits w32 x) (fy : SFits w32 y) (fp : SFits w32 p) (fa : SFits w32 a) (fi : SFits w32 i) where
    abbrev g : List ℤ
    g = k ∷ x ∷ y ∷ p ∷ a ∷ i ∷ []

    -- Numbers with the slot's bits are the slot's.
    own-numbers : same_numbers was g ≡ true → numbers_of g ≡ numbers_of (slot_of was)
    own-numbers e =
        let b = small u sg in
        let ey = and_right (eqb was.x (bits_of x)) _ e in
        let ep = and_right (eqb was.y (bits_of y)) _ ey in
        let ea = and_right (eqb was.pressure (bits_of p)) _ ep in
        let ei = and_right (eqb was.major (bits_of a)) _ ea in
        let qx = own x was.x fx (omega (arith, bound was.x u.x x-good, b.x)) (and_left _ _ e) in
        let qy = own y was.y fy (omega (arith, bound was.y u.y y-good, b.y)) (and_left _ _ ey) in
        let qp = own p was.pressure fp (omega (arith, bound was.pressure u.pressure pressure-good, b.pressure)) (and_left _ _ ep) in
        let qa = own a was.major fa (omega (arith, bound was.major u.major major-good, b.major)) (and_left _ _ ea) in
        let qi = own i was.minor fi (omega (arith, bound was.minor u.minor minor-good, b.minor)) ei in
        λ t. qx t ∷ qy t ∷ qp t ∷ qa t ∷ qi t ∷ []

    rests : eq_z k (pos 1) ≡ true → live was.id.0 ≡ true → not (eqb was.pressure 0) ≡ true → same_numbers was g ≡ true → Stays u was g
    rests ek l ep en =
        let path : pos 1 ∷ numbers_of (slot_of was) ≡ g = ap₂ {C = List ℤ} (λ h t. h ∷ t) (sym (eq_z→eq k (pos 1) (holds _ ek))) (sym (own-numbers en)) in
        subst (Stays u was) path (record {
          good = contact-good ep;
          goes = ap (λ b. begun (cond b goes_on begins)) l;
          slot = λ j. sym (ap (λ b. slot_after (cond b goes_on begins) j (slot_of was) (numbers_of (slot_of was))) l);
        })

    empty : eq_z k (pos 0) ≡ true → live was.id.0 ≡ false → Stays u was g
    empty ek l =
        let path : pos 0 ∷ x ∷ y ∷ p ∷ a ∷ i ∷ [] ≡ g = ap {B = List ℤ} (λ h. h ∷ x ∷ y ∷ p ∷ a ∷ i ∷ []) (sym (eq_z→eq k (pos 0) (holds _ ek))) in
        let dead = eq_z→eq was.id.0 minus_one (holds _ (not-false (eq_z was.id.0 minus_one) l)) in
        subst (Stays u was) path (record { good = refl; goes = refl; slot = λ j. ap {B = List ℤ} (λ z. z ∷ numbers_of (slot_of was)) dead })

    stays_by : quiet_row was g ≡ true → Stays u was g
    stays_by q =
        let own-test = eq_z k (pos 1) && (not (eqb was.pressure 0) && same_numbers was g) in
        (elim (live was.id.0) as (λ b. live was.id.0 ≡ b → cond b own-test (eq_z k (pos 0)) ≡ true → Stays u was g) [
          | true ↦ λ l e. let r = and_right (eq_z k (pos 1)) _ e in rests (and_left _ _ e) l (and_left _ _ r) (and_right (not (eqb was.pressure 0)) _ r)
          | false ↦ λ l e. empty e l
        ]) refl q

  -- The same of a frame's row: a contact that rests, and any quiet row.
  pub resting : setup_good base (setup_of u) ≡ true → (f : List ℤ) (at : ℕ) → (let g = numbers_from per_slot f at in
      Of32 g → eq_z (kind_of g) (pos 1) ≡ true → live was.id.0 ≡ true → not (eqb was.pressure 0) ≡ true → same_numbers was g ≡ true → Stays u was g)
  resting sg f at fit =
      let v : ℕ → ℤ = λ n. get_or f n (pos 0) in
      let at1 = at + 1 in
      rests sg (v at) (v at1) (v (at1 + 1)) (v (at1 + 1 + 1)) (v (at1 + 1 + 1 + 1)) (v (at1 + 1 + 1 + 1 + 1)) fit.1.0 fit.1.1.0 fit.1.1.1.0 fit.1.1.1.1.0 fit.1.1.1.1.1.0

  pub still : setup_good base (setup_of u) ≡ true → (f : List ℤ) (at : ℕ) → Of32 (numbers_from per_slot f at) → quiet_row was (numbers_from per_slot f at) ≡ true → Stays u was (numbers_from per_slot f at)
  still sg f at fit q =
      let v : ℕ → ℤ = λ n. get_or f n (pos 0) in
      let at1 = at + 1 in
      stays_by sg (v at) (v at1) (v (at1 + 1)) (v (at1 + 1 + 1)) (v (at1 + 1 + 1 + 1)) (v (at1 + 1 + 1 + 1 + 1)) fit.1.0 fit.1.1.0 fit.1.1.1.0 fit.1.1.1.1.0 fit.1.1.1.1.1.0 q
