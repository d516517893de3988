-- A good setup of a good layout makes a panel whose events can be told apart and carried. Cited by Calls and the code's crates. Assumes nothing.
use mathlib.Core.Path.{◌≡◌, refl, sym, ap, subst}
use mathlib.Core.Bool.{◌&&◌}
use mathlib.Core.List.{List, [], ◌∷◌}
use Prim.Native.Nat.{ℕ, suc, ◌+◌, ◌<◌}
use native.Mathlib.Omega.{arith}
use lib.Dec.{T, ltb, leb, ltb→lt, lt→ltb, leb→le, le→leb}
use lib.IntN.{pos, negsuc}
use lib.ListN.{length}
use Rattle.model.proofs.Bools.{both, both_left, both_right}
use Rattle.model.proofs.FreshSteady.{setup-slots}
use Rattle.model.specs.Numbers.{between, between_z}
use Rattle.model.specs.Panel.{Axis, Layout, Setup, largest_good, setup_good, id_field, axis_fields, panel_of, slot_code, codes_differ, carried, all_carried, field_codes, tellable, axes_carried, axis_codes, good_layout, id_count}

-- The axes' fields have the axes' codes.
pub codes_same : (axes : List Axis) (largest : List ℕ) → T (largest_good axes largest) → field_codes (axis_fields axes largest) ≡ axis_codes axes
codes_same [] [] g = refl
codes_same [] (v ∷ vs) g = absurd g
codes_same (a ∷ axes) [] g = absurd g
codes_same (a ∷ axes) (v ∷ vs) g = ap {B = List ℕ} (λ l. a.code ∷ l) (codes_same axes vs (both_right (between 1 a.most v) _ g))

axes-carried : (axes : List Axis) (largest : List ℕ) → T (axes_carried axes) → T (largest_good axes largest) → T (all_carried (axis_fields axes largest))
axes-carried [] vs c g = tt
axes-carried (a ∷ axes) [] c g = tt
axes-carried (a ∷ axes) (v ∷ vs) c g =
    let x = both_left (ltb a.code 65_536 && ltb a.most 2_147_483_648) _ c in
    let m = ltb→lt a.most 2_147_483_648 (both_right (ltb a.code 65_536) _ x) in
    let top = leb→le v a.most (both_right (leb 1 v) _ (both_left (between 1 a.most v) _ g)) in
    both (carried (record { code = a.code; low = pos 0; high = pos v; least = pos a.least })) _
    (both (ltb a.code 65_536 && between_z (negsuc 2_147_483_647) (pos 2_147_483_647) (pos 0)) _
    (both (ltb a.code 65_536) _ (both_left (ltb a.code 65_536) _ x) tt)
    (le→leb v 2_147_483_647 (omega arith)))
    (axes-carried axes vs (both_right (ltb a.code 65_536 && ltb a.most 2_147_483_648) _ c) (both_right (between 1 a.most v) _ g))

-- The parts of `good_layout`.
pub few-records : (l : Layout) → T (good_layout l) → l.records + l.records < id_count
few-records l g =
    let few = ltb (l.records + l.records) id_count in
    let differ = codes_differ (slot_code ∷ id_field.code ∷ axis_codes l.axes) in
    ltb→lt (l.records + l.records) id_count (both_left few differ (both_left (few && differ) _ g))

-- The panel of a good setup can be told apart and carried.
pub panel-tellable : (l : Layout) (u : Setup) → T (good_layout l) → T (setup_good l u) → T (tellable (panel_of l u))
panel-tellable l u g s =
    let few = ltb (l.records + l.records) id_count in
    let differ = codes_differ (slot_code ∷ id_field.code ∷ axis_codes l.axes) in
    let largest = both_right (between 1 l.records u.slots) _ s in
    let below : u.slots < 2_147_483_648 = omega (arith, few-records l g, (setup-slots l u s).1) in
    let differs = both_right few differ (both_left (few && differ) _ g) in
    let p = panel_of l u in
    both (ltb u.slots 2_147_483_648 && codes_differ (slot_code ∷ field_codes p.fields)) _
    (both (ltb u.slots 2_147_483_648) _ (lt→ltb u.slots 2_147_483_648 below)
    (subst (λ codes. T (codes_differ (slot_code ∷ id_field.code ∷ codes))) (sym (codes_same l.axes u.largest largest)) differs))
    (axes-carried l.axes u.largest (both_right (few && differ) _ g) largest)

-- A good setup gives every axis a field.
pub fields-length : (axes : List Axis) (largest : List ℕ) → T (largest_good axes largest) → length (axis_fields axes largest) ≡ length axes
fields-length [] [] g = refl
fields-length [] (v ∷ vs) g = absurd g
fields-length (a ∷ axes) [] g = absurd g
fields-length (a ∷ axes) (v ∷ vs) g = ap suc (fields-length axes vs (both_right (between 1 a.most v) _ g))
