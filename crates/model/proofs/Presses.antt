-- A live finger presses (K8): the values that a writer accepts are those in document 01's ranges with no contact of pressure 0.
-- Cited by link and docs/PROMISES.md. Assumes nothing.
use mathlib.Core.Path.{◌≡◌, refl, sym, ap, ap₂, ◌∙◌, subst}
use mathlib.Core.Bool.{Bool, true, false, not, ◌&&◌, ◌||◌}
use mathlib.Core.List.{List, [], ◌∷◌}
use Prim.Native.Nat.{ℕ, zero, suc, ◌+◌}
use native.Mathlib.Omega.{arith}
use lib.Dec.{T, leb, eqb, leb→le}
use lib.IntN.{ℤ, pos, negsuc}
use lib.ListN.{length, get_or}
use lib.Signed.{le_z}
use borrow.Author.Tests.{le-leb, ne_eqb}
use Rattle.model.specs.Numbers.{eq_z, between_z}
use Rattle.model.specs.Panel.{Axis, Setup, base, per_slot, axis_fields, panel_of}
use Rattle.model.specs.Table.{numbers_of, good_slot}
use Rattle.model.specs.Frame.{numbers_from, rows_from, rows_of, axes_of, kind_of, good_contact, good_row, good_rows, values_good}
use Rattle.model.specs.Presses.{in_ranges, presses, all_press}
use Rattle.model.proofs.Bools.{both_left, both_right}

-- ---- one number

-- A least of 1 asks for another value than 0; a least of 0 asks nothing more than the range.
abbrev non_zero : Axis → ℤ → Bool
non_zero a v = eqb a.least 0 || not (eq_z v (pos 0))

least_zero : (least : ℕ) (m : ℕ) (v : ℤ) → T (leb least 1) → (between_z (pos 0) (pos m) v && le_z (pos least) v) ≡ (between_z (pos 0) (pos m) v && (eqb least 0 || not (eq_z v (pos 0))))
least_zero zero m (pos n) t = ap (λ b. between_z (pos 0) (pos m) (pos n) && b) (le-leb 0 n (omega arith))
least_zero (suc zero) m (pos zero) t = refl
least_zero (suc zero) m (pos (suc n)) t = rw (le-leb 1 (suc n) (omega arith), ne_eqb (suc n) 0 (λ q. omega arith))
least_zero (suc (suc k)) m (pos n) t = absurd (omega (arith, leb→le (suc (suc k)) 1 t))
least_zero least m (negsuc n) t = refl

-- ---- a contact's numbers, on any axes whose least is 0 or 1

abbrev leasts_small : List Axis → Bool
leasts_small [] = true
leasts_small (a ∷ axes) = leb a.least 1 && leasts_small axes

abbrev all_non_zero : List Axis → List ℤ → Bool
all_non_zero [] vs = true
all_non_zero (a ∷ axes) [] = true
all_non_zero (a ∷ axes) (v ∷ vs) = non_zero a v && all_non_zero axes vs

four : (a b c d : Bool) → ((a && b) && (c && d)) ≡ ((a && c) && (b && d))
four false b c d = refl
four true true c d = refl
four true false true d = refl
four true false false d = refl

contact_split : (axes : List Axis) (largest : List ℕ) (vs : List ℤ) → T (leasts_small axes)
    → good_contact (axis_fields axes largest) vs ≡ (good_slot (axis_fields axes largest) vs && all_non_zero axes vs)
contact_split [] largest [] t = refl
contact_split [] largest (v ∷ vs) t = refl
contact_split (a ∷ axes) [] [] t = refl
contact_split (a ∷ axes) [] (v ∷ vs) t = refl
contact_split (a ∷ axes) (m ∷ largest) [] t = refl
contact_split (a ∷ axes) (m ∷ largest) (v ∷ vs) t =
    let fs = axis_fields axes largest in
    ap₂ (λ b c. b && c) (least_zero a.least m v (both_left (leb a.least 1) _ t)) (contact_split axes largest vs (both_right (leb a.least 1) _ t))
    ∙ four (between_z (pos 0) (pos m) v) (non_zero a v) (good_slot fs vs) (all_non_zero axes vs)

-- ---- a row, and all rows

regroup : (known good more : Bool) → (known && (good && more)) ≡ ((known && good) && more)
regroup true good more = refl
regroup false good more = refl

row_split : (axes : List Axis) (largest : List ℕ) (g : List ℤ) → T (leasts_small axes)
    → good_row (axis_fields axes largest) g ≡ (in_ranges (axis_fields axes largest) g && (eq_z (kind_of g) (pos 0) || all_non_zero axes (numbers_of g)))
row_split axes largest g t =
    let fs = axis_fields axes largest in
    let vs = numbers_of g in
    let known = eq_z (kind_of g) (pos 1) || eq_z (kind_of g) (pos 2) in
    (elim (eq_z (kind_of g) (pos 0)) as (λ b. (b || (known && good_contact fs vs)) ≡ ((b || (known && good_slot fs vs)) && (b || all_non_zero axes vs))) [
      | true ↦ refl
      | false ↦ ap (λ b. known && b) (contact_split axes largest vs t) ∙ regroup known (good_slot fs vs) (all_non_zero axes vs)
    ])

-- A row of the product's layout: of its numbers the pressure alone has a least other than 0.
row_presses : (largest : List ℕ) (f : List ℤ) (at : ℕ) → (let g = numbers_from per_slot f at in
    good_row (axis_fields base.axes largest) g ≡ (in_ranges (axis_fields base.axes largest) g && presses g))
row_presses largest f at =
    let g = numbers_from per_slot f at in
    row_split base.axes largest g tt
    ∙ ap (λ b. in_ranges (axis_fields base.axes largest) g && (eq_z (kind_of g) (pos 0) || b)) (pressed (not (eq_z (get_or g 3 (pos 0)) (pos 0))))
  where
    pressed : (b : Bool) → (b && true) ≡ b
    pressed true = refl
    pressed false = refl

rows_press : (largest : List ℕ) (n : ℕ) (f : List ℤ) (at : ℕ)
    → good_rows (axis_fields base.axes largest) (rows_from per_slot n f at) ≡ all_press (axis_fields base.axes largest) (rows_from per_slot n f at)
unfolding rows_from
rows_press largest zero f at = refl
rows_press largest (suc n) f at = ap₂ (λ b c. b && c) (row_presses largest f at) (rows_press largest n f (at + per_slot))

-- The values of a frame, where the setup has a largest value for each axis.
pub values_press : (u : Setup) (f : List ℤ) → (let p = panel_of base u in
    length p.fields ≡ per_slot → values_good p f ≡ all_press (axes_of p.fields) (rows_of p f))
values_press u f e =
    let fs = axis_fields base.axes u.largest in
    subst (λ k. good_rows fs (rows_from k u.slots f 0) ≡ all_press fs (rows_from k u.slots f 0)) (sym e) (rows_press u.largest u.slots f 0)
