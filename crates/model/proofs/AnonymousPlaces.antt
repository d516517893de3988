-- Where the contacts of an accepted anonymous frame are (K12): in the slots that the best pairing gives, and the left-over ones in the lowest unused slots of the panel, each once. Cited by the crate link. Assumes nothing.
use mathlib.Core.Path.{◌≡◌, refl, sym, ap, ap₂, subst, ◌∙◌}
use mathlib.Core.Bool.{Bool, true, false}
use mathlib.Core.List.{List, [], ◌∷◌, ◌++◌, map}
use Prim.Native.Nat.{ℕ, zero, suc, ◌-◌, ◌<◌, ◌≤◌}
use native.Mathlib.Omega.{arith}
use lib.Dec.{T, leb, leb→le}
use lib.ListN.{length, take, replicate, length-map}
use lib.Seq.{length-take-le, take-append_seam}
use Rattle.model.specs.Numbers.{between}
use Rattle.model.specs.Panel.{Panel, Setup, base, setup_good, panel_of}
use Rattle.model.specs.Table.{Slot, Table, id_of, live, unused_slot, good_table}
use Rattle.model.specs.Pairing.{Point, alone, Best, best_pairing, at_live, left_over, placed, times, live_slots, unused_slots}
use Rattle.model.specs.Packets.{Contact, contacts_good}
use Rattle.model.specs.Anonymous.{slot_point, contact_point, live_in, old_points, contact_numbers, few_enough, Placed}
use Rattle.model.proofs.Bools.{both_left, both_right}
use Rattle.model.proofs.Tables.{good_length, good-records}
use Rattle.model.proofs.Images.{unused-past}
use Rattle.model.proofs.PairingPlaced.{live-length, left-fits, pairing-length, placed-live, placed-unused, placed-length, best-placed-once, placed_past}
use Rattle.model.proofs.AnonymousBest.{pairing-best}

-- ---- records past the slots

live-past : (t : Table) (m : ℕ) (s : Slot) → live (id_of s) ≡ false → live_in (t ++ replicate m s) ≡ live_in t ++ replicate m false
live-past [] zero s d = refl
live-past [] (suc m) s d = ap₂ {C = List Bool} (λ b l. b ∷ l) d (live-past [] m s d)
live-past (x ∷ t) m s d = ap (λ l. live (id_of x) ∷ l) (live-past t m s d)

none-past : (m : ℕ) (l : List Point) → at_live (replicate m false) l ≡ []
none-past zero l = refl
none-past (suc m) [] = refl
none-past (suc m) (a ∷ l) = none-past m l

olds_past : (bs : List Bool) (m : ℕ) (l more : List Point) → length l ≡ length bs → at_live (bs ++ replicate m false) (l ++ more) ≡ at_live bs l
olds_past [] m [] more e = none-past m more
olds_past [] m (a ∷ l) more e = absurd (omega arith)
olds_past (b ∷ bs) m [] more e = absurd (omega arith)
olds_past (true ∷ bs) m (a ∷ l) more e = ap (λ r. a ∷ r) (olds_past bs m l more (omega arith))
olds_past (false ∷ bs) m (a ∷ l) more e = olds_past bs m l more (omega arith)

points_append : (a b : Table) → map slot_point (a ++ b) ≡ map slot_point a ++ map slot_point b
points_append [] b = refl
points_append (s ∷ a) b = ap (λ l. slot_point s ∷ l) (points_append a b)

-- More unused records are more room.
more_room : (bs : List Bool) (m : ℕ) → unused_slots bs ≤ unused_slots (bs ++ replicate m false)
more_room [] m = omega arith
more_room (true ∷ bs) m = more_room bs m
more_room (false ∷ bs) m = omega (arith, more_room bs m)

module _ (u : Setup) (t : Table) (cs : List Contact) (setup : T (setup_good base u)) (good : T (good_table (panel_of base u) t)) (few : T (few_enough (panel_of base u) cs))
    (values : T (contacts_good (panel_of base u) cs)) where
  abbrev p : Panel
  p = panel_of base u

  abbrev n : ℕ
  n = u.slots

  abbrev m : ℕ
  m = length t - n

  abbrev front : Table
  front = take n t

  abbrev news : List Point
  news = map contact_point cs

  abbrev best : List ℕ
  best = best_pairing news (old_points t)

  there : n ≤ length t
  there =
      let slots = both_left (between 1 base.records n) _ setup in
      omega (arith, good_length p t good, leb→le n base.records (both_right (leb 1 n) _ slots))

  whole : front ++ replicate m (unused_slot p.fields) ≡ t
  whole = unused-past p.fields n t (good-records p t good)

  live-is : live_in t ≡ live_in front ++ replicate m false
  unfolding whole
  live-is = ap live_in (sym whole) ∙ live-past front m (unused_slot p.fields) refl

  olds_are : old_points t ≡ old_points front
  unfolding whole
  olds_are =
      let rest = replicate m (unused_slot p.fields) in
      ap old_points (sym whole)
      ∙ ap₂ at_live (live-past front m (unused_slot p.fields) refl) (points_append front rest)
      ∙ olds_past (live_in front) m (map slot_point front) (map slot_point rest) (length-map front slot_point ∙ sym (length-map front (λ s. live (id_of s))))

  is-best : Best news (old_points t) best
  is-best = pairing-best u t cs setup good few values

  paired : length best ≡ live_slots (live_in t)
  unfolding is-best
  paired =
      pairing-length (length news) [] (old_points t) best is-best.reached
      ∙ live-length (live_in t) (map slot_point t) (length-map t slot_point ∙ sym (length-map t (λ s. live (id_of s))))

  five : length cs ≤ alone
  five = leb→le (length cs) alone (both_left (leb (length cs) alone) _ few)

  counted : length news ≡ length cs
  counted = length-map cs contact_point

  front_best : Best news (at_live (live_in front) (map slot_point front)) best
  unfolding is-best olds_are
  front_best = subst (λ os. Best news os best) olds_are is-best

  slotted : length (map slot_point front) ≡ length (live_in front)
  slotted = length-map front slot_point ∙ sym (length-map front (λ s. live (id_of s)))

  few_five : length news ≤ alone
  unfolding five counted
  few_five = omega (arith, counted, five)

  few-slots : length news ≤ length (live_in front)
  unfolding counted there
  few-slots =
      let slots : length cs ≤ n = leb→le (length cs) n (both_right (leb (length cs) alone) _ few) in
      let lives : length (live_in front) ≡ n = length-map front (λ s. live (id_of s)) ∙ length-take-le n t there in
      omega (arith, counted, slots, lives)

  -- Those left over find room below the panel's slots.
  room : length (left_over (length cs) best) ≤ unused_slots (live_in front)
  unfolding front_best slotted few_five few-slots counted
  room =
      subst (λ k. length (left_over k best) ≤ unused_slots (live_in front)) counted
      (left-fits (live_in front) (map slot_point front) news best slotted few_five few-slots front_best)

  each_once : (c : ℕ) → c < length cs → times c (placed (live_in front) best (length cs)) ≡ 1
  unfolding front_best slotted few_five few-slots counted
  each_once =
      subst (λ k. (c : ℕ) → c < k → times c (placed (live_in front) best k) ≡ 1) counted
      (best-placed-once (live_in front) (map slot_point front) news best slotted few_five few-slots front_best)

  numbers_are : contact_numbers t cs ≡ placed (live_in front) best (length cs) ++ replicate m alone
  unfolding live-is room
  numbers_are = ap (λ bs. placed bs best (length cs)) live-is ∙ placed_past (live_in front) m best (length cs) room

  front_numbers : take n (contact_numbers t cs) ≡ placed (live_in front) best (length cs)
  unfolding numbers_are there
  front_numbers =
      let size : length (placed (live_in front) best (length cs)) ≡ n =
      placed-length (live_in front) best (length cs) ∙ length-map front (λ s. live (id_of s)) ∙ length-take-le n t there in
      ap₂ take (sym size) numbers_are ∙ take-append_seam (placed (live_in front) best (length cs)) (replicate m alone)

  pub contacts-placed : Placed n t cs
  unfolding is-best paired live-is room front_numbers each_once
  contacts-placed =
      let all : length (left_over (length cs) best) ≤ unused_slots (live_in t) =
      subst (λ bs. length (left_over (length cs) best) ≤ unused_slots bs) (sym live-is) (omega (arith, room, more_room (live_in front) m)) in
      record {
        best = is-best;
        kept = placed-live (live_in t) best (length cs) paired;
        begun = placed-unused (live_in t) best (length cs) all;
        once = λ c h. ap (times c) front_numbers ∙ each_once c h;
      }
