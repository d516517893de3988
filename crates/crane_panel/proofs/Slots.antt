-- The tests of a crane's slot, by the first number that fails: `slot_ok`, `slots_same` and `numbers_ok` number by number. Cited by nothing today: the check finds those proofs alone. Assumes nothing.
use mathlib.Core.Path.{◌≡◌, sym, ap, ap₂, ◌∙◌}
use mathlib.Core.Bool.{Bool, true, false, ◌&&◌}
use mathlib.Core.List.{[], ◌∷◌}
use Prim.Native.Nat.{ℕ, ◌<◌, ◌≤◌}
use native.Mathlib.Omega.{arith}
use lib.Dec.{eqb, leb}
use lib.IntN.{ℤ, pos}
use borrow.Author.Tests.{eq-eqb, ne_eqb, lt-leb, le-leb}
use mir.Syntax.{w32}
use mir.Val.{SFits, of_z, to_z}
use mir.ValLaws.{to_z-of_z}
use Rattle.model.specs.Numbers.{eq_z, between_z}
use Rattle.model.specs.Panel.{id_field}
use Rattle.model.specs.Table.{fits, good_slot, eq_slot}
use Rattle.crane_panel.specs.declared.Slot.{Slot}
use Rattle.crane_panel.specs.declared.Setup.{Setup}
use Rattle.crane_panel.specs.Seen.{slot_of, fields_of, axes_of}
use Rattle.common.proofs.Signs.{first-false, and-false, and-true}

-- ---- a number that is not negative is good up to its largest value

fits_to : (v top : ℕ) → v ≤ top → between_z (pos 0) (pos top) (pos v) ≡ true
fits_to v top l = rw (le-leb 0 v (omega arith), le-leb v top l)

fits-past : (v top : ℕ) → top < v → between_z (pos 0) (pos top) (pos v) ≡ false
fits-past v top l = rw (le-leb 0 v (omega arith), lt-leb v top l)

fits_top : (v top : ℕ) → between_z (pos 0) (pos top) (pos v) ≡ leb v top
fits_top v top = rw (le-leb 0 v (omega arith))

module _ (u : Setup) (s : Slot) where
  pub slot_1 : fits id_field s.id.0 ≡ false → good_slot (fields_of u) (slot_of s) ≡ false
  slot_1 e = rw e

  pub slot_2 : u.x < s.x → good_slot (fields_of u) (slot_of s) ≡ false
  slot_2 l = and-false (fits id_field s.id.0) _ (first-false _ _ (fits-past s.x u.x l))

  pub slot_3 : u.y < s.y → good_slot (fields_of u) (slot_of s) ≡ false
  slot_3 l = and-false (fits id_field s.id.0) _ (and-false (between_z (pos 0) (pos u.x) (pos s.x)) _ (first-false _ _ (fits-past s.y u.y l)))

  pub slot_4 : fits id_field s.id.0 ≡ true → s.x ≤ u.x → s.y ≤ u.y → good_slot (fields_of u) (slot_of s) ≡ leb s.pressure u.pressure
  slot_4 e l m = rw (e, fits_to s.x u.x l, fits_to s.y u.y m, fits_top s.pressure u.pressure) (and-true _)

module _ (a b : Slot) where
  pub same_1 : eq_z a.id.0 b.id.0 ≡ false → eq_slot (slot_of a) (slot_of b) ≡ false
  same_1 e = rw e

  pub same_2 : (a.x ≡ b.x → ⊥) → eq_slot (slot_of a) (slot_of b) ≡ false
  same_2 l = and-false (eq_z a.id.0 b.id.0) _ (first-false _ _ (ne_eqb a.x b.x l))

  pub same_3 : (a.y ≡ b.y → ⊥) → eq_slot (slot_of a) (slot_of b) ≡ false
  same_3 l = and-false (eq_z a.id.0 b.id.0) _ (and-false (eqb a.x b.x) _ (first-false _ _ (ne_eqb a.y b.y l)))

  pub same_4 : eq_z a.id.0 b.id.0 ≡ true → a.x ≡ b.x → a.y ≡ b.y → eq_slot (slot_of a) (slot_of b) ≡ eqb a.pressure b.pressure
  same_4 e l m = rw (e, eq-eqb a.x b.x l, eq-eqb a.y b.y m) (and-true _)

-- ---- three numbers as they came in, each judged by its bits

-- What a test says that was asked of a number's bits.
abbrev Told : Bool → ℕ → ℤ → Type 0
Told b top v = b ≡ between_z (pos 0) (pos top) (to_z w32 (of_z w32 v))

told : (b : Bool) (top : ℕ) (v : ℤ) → SFits w32 v → Told b top v → between_z (pos 0) (pos top) v ≡ b
told b top v f e = sym (e ∙ ap (between_z (pos 0) (pos top)) (to_z-of_z w32 v f))

module _ (u : Setup) (x y p : ℤ) (a : Bool) (fx : SFits w32 x) (ea : Told a u.x x) where
  pub numbers_1 : a ≡ false → false ≡ good_slot (axes_of u) (x ∷ y ∷ p ∷ [])
  numbers_1 n = sym (first-false (between_z (pos 0) (pos u.x) x) _ (told a u.x x fx ea ∙ n))

  module _ (t : a ≡ true) (b : Bool) (fy : SFits w32 y) (eb : Told b u.y y) where
    pub numbers_2 : b ≡ false → false ≡ good_slot (axes_of u) (x ∷ y ∷ p ∷ [])
    numbers_2 n = sym (ap₂ (λ z w. z && (w && (between_z (pos 0) (pos u.pressure) p && true))) (told a u.x x fx ea ∙ t) (told b u.y y fy eb ∙ n))

    pub numbers_3 : b ≡ true → (c : Bool) → SFits w32 p → Told c u.pressure p → c ≡ good_slot (axes_of u) (x ∷ y ∷ p ∷ [])
    numbers_3 s c fp ec =
        sym (ap₂ (λ z w. z && (w && (between_z (pos 0) (pos u.pressure) p && true))) (told a u.x x fx ea ∙ t) (told b u.y y fy eb ∙ s) ∙ and-true (between_z (pos 0) (pos u.pressure) p) ∙ told c u.pressure p fp ec)
