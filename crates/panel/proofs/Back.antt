-- What is seen of a value and held again is the value, whatever it is: so a refusal hands a state back unchanged. And what is held of good records is seen again. Cited by the reader, the writer and link. Assumes nothing.
use mathlib.Core.Path.{◌≡◌, refl, ap, ap₂, ◌∙◌}
use mathlib.Core.List.{List, [], ◌∷◌, map}
use Prim.Native.Nat.{ℕ, suc}
use lib.Dec.{T}
use lib.IntN.{ℤ, pos, negsuc}
use lib.ListN.{length}
use native.Mathlib.Omega.{arith}
use Rattle.model.specs.Numbers.{between_z}
use Rattle.model.specs.Panel.{Axis, base, id_field, axis_fields}
use Rattle.model.specs.Table as M
use Rattle.model.specs.Table.{fits, good_slot, good_records}
use Rattle.model.proofs.Bools.{both_left, both_right}
use Rattle.panel.specs.declared.Slot.{Slot}
use Rattle.panel.specs.declared.Setup.{Setup}
use Rattle.common.specs.Seen.{natural}
use Rattle.common.proofs.Tables as Any
use Rattle.panel.specs.Seen.{slot_of, table_of, slot_from, table_from, setup_of, setup_from, fields_of}

pub table_back : (t : List Slot) → table_from (table_of t) ≡ t
table_back = Any.table_back slot_of slot_from (λ s. refl)

pub setup_back : (u : Setup) → setup_from (setup_of u) ≡ u
setup_back u = refl

-- ---- held and seen again

pub own-number : (top : ℕ) (v : ℤ) → T (between_z (pos 0) (pos top) v) → pos (natural v) ≡ v
own-number top (pos n) t = refl
own-number top (negsuc n) t = absurd t

-- Numbers of any axes are their own naturals; one that is missing has none.
numbers-own : (axes : List Axis) (largest : List ℕ) (vs : List ℤ) → T (good_slot (axis_fields axes largest) vs) → map (λ v. pos (natural v)) vs ≡ vs
numbers-own axes largest [] g = refl
numbers-own [] largest (v ∷ vs) g = absurd g
numbers-own (a ∷ axes) [] (v ∷ vs) g = absurd g
numbers-own (a ∷ axes) (m ∷ largest) (v ∷ vs) g =
    let range = between_z (pos 0) (pos m) v in
    ap₂ {C = List ℤ} (λ x y. x ∷ y) (own-number m v (both_left range _ g)) (numbers-own axes largest vs (both_right range _ g))

-- There are as many numbers as axes with a largest value.
numbers-length : (axes : List Axis) (largest : List ℕ) (vs : List ℤ) → T (good_slot (axis_fields axes largest) vs) → length vs ≡ length (axis_fields axes largest)
numbers-length [] largest [] g = refl
numbers-length [] largest (v ∷ vs) g = absurd g
numbers-length (a ∷ axes) [] [] g = refl
numbers-length (a ∷ axes) [] (v ∷ vs) g = absurd g
numbers-length (a ∷ axes) (m ∷ largest) [] g = absurd g
numbers-length (a ∷ axes) (m ∷ largest) (v ∷ vs) g = ap suc (numbers-length axes largest vs (both_right (between_z (pos 0) (pos m) v) _ g))

-- Five numbers, each its own natural, are held and seen as they are.
five_seen : (i : ℤ) (vs : List ℤ) → length vs ≡ 5 → slot_of (slot_from (i ∷ vs)) ≡ i ∷ map (λ v. pos (natural v)) vs
five_seen i [] e = absurd (omega (arith, e))
five_seen i (a ∷ []) e = absurd (omega (arith, e))
five_seen i (a ∷ b ∷ []) e = absurd (omega (arith, e))
five_seen i (a ∷ b ∷ c ∷ []) e = absurd (omega (arith, e))
five_seen i (a ∷ b ∷ c ∷ d ∷ []) e = absurd (omega (arith, e))
five_seen i (a ∷ b ∷ c ∷ d ∷ f ∷ []) e = refl
five_seen i (a ∷ b ∷ c ∷ d ∷ f ∷ g ∷ vs) e = absurd (omega (arith, e))

slot_seen : (u : Setup) (s : M.Slot) → T (good_slot (fields_of u) s) → slot_of (slot_from s) ≡ s
slot_seen u [] g = absurd g
slot_seen u (i ∷ vs) g =
    let h = both_right (fits id_field i) _ g in
    five_seen i vs (numbers-length base.axes (setup_of u).largest vs h) ∙ ap {B = M.Slot} (λ l. i ∷ l) (numbers-own base.axes (setup_of u).largest vs h)

-- Good records of a setup are seen as they are, once they are held.
pub table-seen : (u : Setup) (n : ℕ) (t : M.Table) → T (good_records (fields_of u) n t) → table_of (table_from t) ≡ t
table-seen u = Any.table-seen slot_of slot_from (fields_of u) (slot_seen u) refl
