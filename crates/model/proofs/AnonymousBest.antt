-- The pairing of an accepted anonymous frame is the best (K12): the old and the new contacts are within the numbers that PairingBest asks for. Cited by the crates anonymous and link. Assumes nothing.
use mathlib.Core.Path.{◌≡◌, refl, ap, ap₂, ◌∙◌}
use mathlib.Core.Bool.{Bool, true, false, ◌&&◌}
use mathlib.Core.List.{List, [], ◌∷◌, ◌++◌, map}
use Prim.Native.Nat.{ℕ, zero, suc, ◌≤◌}
use native.Mathlib.Omega.{arith}
use lib.Dec.{T, leb, leb→le, le→leb}
use lib.IntN.{ℤ, pos, negsuc}
use lib.Signed.{le_z}
use lib.ListN.{length, length-map}
use Rattle.model.specs.Numbers.{between}
use Rattle.model.specs.Panel.{Field, Setup, base, x_axis, y_axis, id_field, axis_fields, largest_good, setup_good, panel_of}
use Rattle.model.specs.Table.{Slot, Table, id_of, live, fits, good_slot, unused_slot, eq_slot, good_records, good_table}
use Rattle.model.specs.Frame.{good_contact}
use Rattle.model.specs.Pairing.{Point, largest, in_range, alone, Best, best_pairing, at_live}
use Rattle.model.specs.Packets.{Contact, contact_good, contacts_good}
use Rattle.model.specs.Anonymous.{slot_point, contact_point, point_at, live_in, old_points, few_enough}
use Rattle.model.proofs.Bools.{is_true, both_left, both_right, and_left, and_right}
use Rattle.model.proofs.Tables.{eq_slot→eq, good_length, good-records}
use Rattle.model.proofs.PairingBest.{and_both, best-reached}

-- ---- a number in its range

abbrev near : Point → Bool
near q = leb q.x largest && leb q.y largest

small : (most v : ℕ) (a : ℤ) → v ≤ most → T (le_z (pos 0) a && le_z a (pos v)) → (n : ℕ) × ((a ≡ pos n) × (n ≤ most))
small most v (pos n) h t = (n, (refl, omega (arith, h, leb→le n v (both_right (leb 0 n) _ t))))
small most v (negsuc n) h t = absurd (both_left false true t)

near_at : (x y : ℕ) (a b : ℤ) → x ≤ largest → y ≤ largest → T (le_z (pos 0) a && le_z a (pos x)) → T (le_z (pos 0) b && le_z b (pos y)) → near (point_at a b) ≡ true
near_at x y a b h k s t =
    let m = small largest x a h s in
    let n = small largest y b k t in
    ap₂ (λ c d. near (point_at c d)) m.1.0 n.1.0
    ∙ and_both (leb m.0 largest) (leb n.0 largest) (is_true _ (le→leb m.0 largest m.1.1)) (is_true _ (le→leb n.0 largest n.1.1))

-- ---- the old contacts

-- A slot of a good setup's panel is within the largest numbers.
near_slot : (vs : List ℕ) → T (largest_good base.axes vs) → (s : Slot) → T (good_slot (id_field ∷ axis_fields base.axes vs) s) → near (slot_point s) ≡ true
near_slot [] g s w = absurd g
near_slot (x ∷ []) g s w = absurd (both_right (between 1 x_axis.most x) false g)
near_slot (x ∷ y ∷ vs) g [] w = absurd w
near_slot (x ∷ y ∷ vs) g (i ∷ []) w = absurd (both_right (fits id_field i) false w)
near_slot (x ∷ y ∷ vs) g (i ∷ a ∷ []) w = absurd (both_right (le_z (pos 0) a && le_z a (pos x)) false (both_right (fits id_field i) _ w))
near_slot (x ∷ y ∷ vs) g (i ∷ a ∷ b ∷ s) w =
    let wide = both_left (between 1 x_axis.most x) _ g in
    let rest = both_right (between 1 x_axis.most x) _ g in
    let high = both_left (between 1 y_axis.most y) _ rest in
    let axes = both_right (fits id_field i) _ w in
    let across = both_left (le_z (pos 0) a && le_z a (pos x)) _ axes in
    let down = both_left (le_z (pos 0) b && le_z b (pos y)) _ (both_right (le_z (pos 0) a && le_z a (pos x)) _ axes) in
    near_at x y a b (leb→le x largest (both_right (leb 1 x) _ wide)) (leb→le y largest (both_right (leb 1 y) _ high)) across down

in-range : (q : Point) (l : List Point) → near q ≡ true → in_range l ≡ true → in_range (q ∷ l) ≡ true
in-range q l n r =
    and_both (leb q.x largest) _ (and_left (leb q.x largest) (leb q.y largest) n)
    (and_both (leb q.y largest) (in_range l) (and_right (leb q.x largest) (leb q.y largest) n) r)

-- Those of live slots are; a record past the panel's slots is none.
olds_near : (f : Field) (fs : List Field) → ((s : Slot) → T (good_slot (f ∷ fs) s) → near (slot_point s) ≡ true) → (n : ℕ) (t : Table) → T (good_records (f ∷ fs) n t)
    → in_range (old_points t) ≡ true
olds_near f fs each n [] g = refl
olds_near f fs each zero (s ∷ t) g =
    let unused = eq_slot→eq s (unused_slot (f ∷ fs)) (both_left (eq_slot s (unused_slot (f ∷ fs))) _ g) in
    let dead : live (id_of s) ≡ false = ap (λ z. live (id_of z)) unused in
    ap (λ b. in_range (at_live (b ∷ live_in t) (map slot_point (s ∷ t)))) dead ∙ olds_near f fs each zero t (both_right (eq_slot s (unused_slot (f ∷ fs))) _ g)
olds_near f fs each (suc n) (s ∷ t) g =
    by (live (id_of s)) (each s (both_left (good_slot (f ∷ fs) s) _ g)) (olds_near f fs each n t (both_right (good_slot (f ∷ fs) s) _ g))
  where
    by : (b : Bool) → near (slot_point s) ≡ true → in_range (old_points t) ≡ true → in_range (at_live (b ∷ live_in t) (map slot_point (s ∷ t))) ≡ true
    by true h r = in-range (slot_point s) (old_points t) h r
    by false h r = r

live-few : (bs : List Bool) (l : List Point) → length (at_live bs l) ≤ length l
live-few [] l = omega arith
live-few (b ∷ bs) [] = omega arith
live-few (true ∷ bs) (a ∷ l) = omega (arith, live-few bs l)
live-few (false ∷ bs) (a ∷ l) = omega (arith, live-few bs l)

-- ---- the new ones

near_numbers : (x y : ℕ) (vs : List ℕ) → T (largest_good base.axes (x ∷ y ∷ vs)) → (a b : ℤ) (l : List ℤ)
    → T (good_contact (axis_fields base.axes (x ∷ y ∷ vs)) (a ∷ b ∷ l)) → near (point_at a b) ≡ true
near_numbers x y vs g a b l w =
    let wide = both_left (between 1 x_axis.most x) _ g in
    let rest = both_right (between 1 x_axis.most x) _ g in
    let high = both_left (between 1 y_axis.most y) _ rest in
    let first = le_z (pos 0) a && le_z a (pos x) in
    let second = le_z (pos 0) b && le_z b (pos y) in
    let across = both_left first (le_z (pos 0) a) (both_left (first && le_z (pos 0) a) _ w) in
    let down = both_left second (le_z (pos 0) b) (both_left (second && le_z (pos 0) b) _ (both_right (first && le_z (pos 0) a) _ w)) in
    near_at x y a b (leb→le x largest (both_right (leb 1 x) _ wide)) (leb→le y largest (both_right (leb 1 y) _ high)) across down

near_contact : (vs : List ℕ) → T (largest_good base.axes vs) → (c : Contact) → T (good_contact (axis_fields base.axes vs) (c ++ (pos 0 ∷ pos 0 ∷ [])))
    → near (contact_point c) ≡ true
near_contact [] g c w = absurd g
near_contact (x ∷ []) g c w = absurd (both_right (between 1 x_axis.most x) false g)
near_contact (x ∷ y ∷ vs) g [] w = refl
near_contact (x ∷ y ∷ vs) g (a ∷ []) w = near_numbers x y vs g a (pos 0) (pos 0 ∷ []) w
near_contact (x ∷ y ∷ vs) g (a ∷ b ∷ c) w = near_numbers x y vs g a b (c ++ (pos 0 ∷ pos 0 ∷ [])) w

news_near : (u : Setup) → T (setup_good base u) → (cs : List Contact) → T (contacts_good (panel_of base u) cs) → in_range (map contact_point cs) ≡ true
news_near u g [] w = refl
news_near u g (c ∷ cs) w =
    let good = both_right (between 1 base.records u.slots) _ g in
    in-range (contact_point c) (map contact_point cs) (near_contact u.largest good c (both_left (contact_good (panel_of base u) c) _ w))
    (news_near u g cs (both_right (contact_good (panel_of base u) c) _ w))

-- ---- the pairing

-- Of a good table and good contacts, no more than five: as many pairs as possible, of all such the least total, of all such the first in dictionary order.
pub pairing-best : (u : Setup) (t : Table) (cs : List Contact) → T (setup_good base u) → T (good_table (panel_of base u) t) → T (few_enough (panel_of base u) cs)
    → T (contacts_good (panel_of base u) cs) → Best (map contact_point cs) (old_points t) (best_pairing (map contact_point cs) (old_points t))
pairing-best u t cs setup good few values =
    let p = panel_of base u in
    let largests = both_right (between 1 base.records u.slots) _ setup in
    let olds = olds_near id_field (axis_fields base.axes u.largest) (near_slot u.largest largests) u.slots t (good-records p t good) in
    let five : length (map contact_point cs) ≤ alone = omega (arith, length-map cs contact_point, leb→le (length cs) alone (both_left (leb (length cs) alone) _ few)) in
    let all : length (old_points t) ≤ 32 = omega (arith, live-few (live_in t) (map slot_point t), length-map t slot_point, good_length p t good) in
    best-reached (map contact_point cs) (old_points t) five all (news_near u setup cs values) olds
