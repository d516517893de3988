-- No x or y of a good table or of judged contacts is above 32,767, and none is negative. Cited by the proof of `write`. Assumes nothing.
use mathlib.Core.Path.{◌≡◌, refl, sym, ap, ap₂, ◌∙◌}
use mathlib.Core.Bool.{true}
use mathlib.Core.List.{List, [], ◌∷◌, map}
use Prim.Native.Nat.{ℕ, zero, suc, ◌+◌, ◌≤◌}
use native.Mathlib.Omega.{arith}
use native.Mathlib.Numerals.{add-one}
use lib.Dec.{T, leb→le, eqb→eq}
use lib.IntN.{ℤ, pos, negsuc}
use lib.ListN.{length, get_or, get_or-map}
use lib.Signed.{le_z}
use Rattle.model.specs.Numbers.{between_z, eq_z, minus_one}
use Rattle.model.specs.Table.{fits, good_slot, good_place, good_records}
use Rattle.model.specs.Frame.{given}
use Rattle.model.specs.Panel.{Field, id_field}
use Rattle.model.specs.Events.{Event}
use Rattle.model.specs.Pairing.{Point, point, points, largest}
use Rattle.model.specs.Packets.{Contact, contact_good, contacts_good, packets_of}
use Rattle.model.specs.Anonymous.{point_at, contact_point}
use Rattle.model.proofs.Bools.{holds, both_left, both_right}
use Rattle.common.specs.Seen.{natural}
use Rattle.panel.specs.declared.Slot.{Slot}
use Rattle.panel.specs.declared.Setup.{Setup}
use Rattle.panel.specs.Seen.{slot_of, table_of, fields_of, panel_seen}
use Rattle.panel.proofs.Back.{own-number}
use Rattle.panel.proofs.Setups.{Small}
use Rattle.packets.specs.Seen.{most, padded, column, packets_from, contacts_from}
use Rattle.packets.proofs.Held.{contacts_back}
use Rattle.pairing.specs.Cells.{Near}
use Rattle.anonymous.specs.Held.{Within, contacts_in, Judged}

at_most : (top : ℕ) (v : ℤ) → T (between_z (pos 0) (pos top) v) → natural v ≤ top
at_most top (pos n) t = leb→le n top (both_right (le_z (pos 0) (pos n)) (le_z (pos n) (pos top)) t)
at_most top (negsuc n) t = absurd t

module _ (u : Setup) (small : Small u) where
  -- ---- a table

  abbrev x_field : Field
  x_field = record { code = 0x35; low = pos 0; high = pos u.x; least = pos 0 }

  abbrev y_field : Field
  y_field = record { code = 0x36; low = pos 0; high = pos u.y; least = pos 0 }

  -- A good slot,
  slot_within : (r : Slot) → T (good_slot (fields_of u) (slot_of r)) → (r.x ≤ largest) × (r.y ≤ largest)
  slot_within r g =
      let gx = both_right (fits id_field r.id.0) _ g in
      let gy = both_right (fits x_field (pos r.x)) _ gx in
      let x = at_most u.x (pos r.x) (both_left (fits x_field (pos r.x)) _ gx) in
      let y = at_most u.y (pos r.y) (both_left (fits y_field (pos r.y)) _ gy) in
      (omega (arith, x, small.x), omega (arith, y, small.y))

  -- and a record that was never used.
  unused_within : (r : Slot) → T (good_place (fields_of u) zero (slot_of r)) → (r.x ≤ largest) × (r.y ≤ largest)
  unused_within r g =
      let gx = both_right (eq_z r.id.0 minus_one) _ g in
      let gy = both_right (eq_z (pos r.x) (pos 0)) _ gx in
      let x = eqb→eq r.x 0 (both_left (eq_z (pos r.x) (pos 0)) _ gx) in
      let y = eqb→eq r.y 0 (both_left (eq_z (pos r.y) (pos 0)) _ gy) in
      (omega (arith, x), omega (arith, y))

  pub table_within : (n : ℕ) (t : List Slot) → T (good_records (fields_of u) n (table_of t)) → Within t
  table_within n [] g j = (omega arith, omega arith)
  table_within zero (r ∷ t) g zero = unused_within r (both_left (good_place (fields_of u) zero (slot_of r)) _ g)
  table_within zero (r ∷ t) g (suc j) = table_within zero t (both_right (good_place (fields_of u) zero (slot_of r)) _ g) j
  table_within (suc n) (r ∷ t) g zero = slot_within r (both_left (good_slot (fields_of u) (slot_of r)) _ g)
  table_within (suc n) (r ∷ t) g (suc j) = table_within n t (both_right (good_slot (fields_of u) (slot_of r)) _ g) j

  -- ---- contacts

  -- Where a contact is, in the numbers that are held.
  record Lies (c : Contact) : Type 0 where
    pub x : natural (get_or c 0 (pos 0)) ≤ largest
    pub y : natural (get_or c 1 (pos 0)) ≤ largest
    pub so : contact_point c ≡ point (natural (get_or c 0 (pos 0))) (natural (get_or c 1 (pos 0)))

  contact_lies : (c : Contact) → T (contact_good (panel_seen u) c) → Lies c
  contact_lies [] g = record { x = omega arith; y = omega arith; so = refl }
  contact_lies (v ∷ []) g =
      let gx = both_left (fits x_field v) _ (both_left (given x_field v) _ g) in
      record { x = omega (arith, at_most u.x v gx, small.x); y = omega arith; so = ap (λ a. point_at a (pos 0)) (sym (own-number u.x v gx)) }
  contact_lies (v ∷ w ∷ c) g =
      let gx = both_left (fits x_field v) _ (both_left (given x_field v) _ g) in
      let gy = both_left (fits y_field w) _ (both_left (given y_field w) _ (both_right (given x_field v) _ g)) in
      record {
        x = omega (arith, at_most u.x v gx, small.x);
        y = omega (arith, at_most u.y w gy, small.y);
        so = ap₂ point_at (sym (own-number u.x v gx)) (sym (own-number u.y w gy));
      }

  abbrev AllLie : List Contact → Type 0
  AllLie [] = Unit {0}
  AllLie (c ∷ cs) = Lies c × AllLie cs

  all_lie : (cs : List Contact) → T (contacts_good (panel_seen u) cs) → AllLie cs
  all_lie [] g = tt
  all_lie (c ∷ cs) g = (
    contact_lies c (both_left (contact_good (panel_seen u) c) _ g),
    all_lie cs (both_right (contact_good (panel_seen u) c) _ g),
  )

  -- A column of them; f says which.
  near_column : (i : ℕ) → ((c : Contact) → Lies c → natural (get_or c i (pos 0)) ≤ largest) → (k : ℕ) (cs : List Contact) → AllLie cs → Near (map natural (padded k (column i cs)))
  near_column i f zero cs a j = omega arith
  near_column i f (suc k) [] a zero = omega arith
  near_column i f (suc k) [] a (suc j) = near_column i f k [] a j
  near_column i f (suc k) (c ∷ cs) a zero = f c a.0
  near_column i f (suc k) (c ∷ cs) a (suc j) = near_column i f k cs a.1 j

  points_are : (n i : ℕ) (xs ys ps : List ℤ) → AllLie (contacts_from n i xs ys ps) → points n i (map natural xs) (map natural ys) ≡ map contact_point (contacts_from n i xs ys ps)
  points_are zero i xs ys ps a = refl
  points_are (suc n) i xs ys ps a =
      ap₂ (λ (q : Point) (l : List Point). q ∷ l)
      (ap₂ point (get_or-map natural xs i (pos 0)) (get_or-map natural ys i (pos 0)) ∙ sym a.0.so)
      (ap (λ j. points n j (map natural xs) (map natural ys)) (sym (add-one i)) ∙ points_are n (i + 1) xs ys ps a.1)

  -- What was read and judged may be paired.
  pub judged-read : (es : List Event) → length (packets_of es).contacts ≤ most → contacts_good (panel_seen u) (packets_of es).contacts ≡ true → Judged (packets_from (packets_of es))
  judged-read es few e =
      let q = packets_from (packets_of es) in
      let cs = (packets_of es).contacts in
      let back : contacts_in q ≡ cs = contacts_back es few in
      let good : contacts_good (panel_seen u) (contacts_in q) ≡ true = ap (contacts_good (panel_seen u)) back ∙ e in
      let a = all_lie cs (holds (contacts_good (panel_seen u) cs) e) in
      record {
        few = few;
        near_x = near_column 0 (λ c p. p.x) most cs a;
        near_y = near_column 1 (λ c p. p.y) most cs a;
        points = points_are q.count 0 q.x q.y q.pressure (all_lie (contacts_in q) (holds (contacts_good (panel_seen u) (contacts_in q)) good));
      }
