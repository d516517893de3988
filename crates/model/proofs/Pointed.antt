-- What a display should see of a table and its ranks (K6): X and Y keep still or follow the oldest contact, and stay in their ranges. Cited by Pointing. Assumes nothing.
use mathlib.Core.Path.{◌≡◌, refl, sym, subst}
use mathlib.Core.Bool.{◌&&◌}
use mathlib.Core.List.{List, [], ◌∷◌}
use Prim.Native.Nat.{ℕ, zero, suc, ◌-◌, ◌<◌}
use native.Mathlib.Omega.{arith}
use lib.Dec.{T, eqb, eqb→eq, eqb_refl}
use lib.IntN.{ℤ, pos}
use lib.ListN.{length, get_or, length-map}
use Rattle.model.proofs.Bools.{both, both_left, both_right, eq_z→eq, eq_z-refl}
use Rattle.model.proofs.Tables.{eq_slot→eq, place, places}
use Rattle.model.proofs.FreshSteady.{unused-fits}
use Rattle.model.proofs.Ranks.{length-ranks}
use Rattle.model.proofs.RanksOldest.{oldest_there, oldest_is, oldest_first}
use Rattle.model.specs.Numbers.{eq_z, minus_one}
use Rattle.model.specs.Panel.{Layout, Setup, Field, panel_of}
use Rattle.model.specs.Table.{Slot, Table, id_of, live, ids, fits, good_slot, unused_slot, good_records}
use Rattle.model.specs.Ranks.{zero_unused, good_ranks, live_count}
use Rattle.model.specs.Pointer.{Pointer, oldest_slot, oldest_number, still, touch_of, tool_of, pointed, eq_pointer}
use Rattle.model.specs.Pointing.{in_range}

-- ---- pointer numbers

pub pointer_eq : (q z : Pointer) → T (eq_pointer q z) → q ≡ z
pointer_eq q z t =
    let a = eqb q.touch z.touch in
    let b = eqb q.tool z.tool in
    let c = eq_z q.x z.x in
    let u = both_left (a && b && c) _ t in
    let v = both_left (a && b) _ u in
    let e = eqb→eq q.touch z.touch (both_left a _ v) in
    let f = eqb→eq q.tool z.tool (both_right a _ v) in
    let g = eq_z→eq q.x z.x (both_right (a && b) _ u) in
    let h = eq_z→eq q.y z.y (both_right (a && b && c) _ t) in
    λ i. record { touch = e i; tool = f i; x = g i; y = h i }

pub pointer_self : (q : Pointer) → T (eq_pointer q q)
pointer_self q =
    let a = eqb q.touch q.touch in
    let b = eqb q.tool q.tool in
    let c = eq_z q.x q.x in
    both (a && b && c) _ (both (a && b) _ (both a _ (eqb_refl q.touch) (eqb_refl q.tool)) (eq_z-refl q.x)) (eq_z-refl q.y)

still_twice : (m : ℕ) (o v : ℤ) → still m (still m o v) v ≡ still m o v
still_twice zero o v = refl
still_twice (suc m) o v = refl

pub pointed_twice : (t : Table) (rs : List ℕ) (q : Pointer) → pointed t rs (pointed t rs q) ≡ pointed t rs q
pointed_twice t rs q =
    let m = live_count (ids t) in
    let a = still_twice m q.x (oldest_number 1 t rs) in
    let b = still_twice m q.y (oldest_number 2 t rs) in
    λ i. record { touch = touch_of m; tool = tool_of m; x = a i; y = b i }

-- ---- what X and Y follow

-- While no contact is live X and Y keep still, and touch and tool are 0.
pub none-still : (t : Table) (rs : List ℕ) (q : Pointer) → live_count (ids t) ≡ 0 → pointed t rs q ≡ record { touch = 0; tool = 0; x = q.x; y = q.y }
none-still t rs q e = rw e

pub still-live : (m : ℕ) (o v : ℤ) → 0 < m → still m o v ≡ v
still-live zero o v l = absurd (omega arith)
still-live (suc m) o v l = refl

get_d_ids : (t : Table) (i : ℕ) → get_or (ids t) i minus_one ≡ id_of (get_or t i [])
get_d_ids [] i = refl
get_d_ids (s ∷ t) zero = refl
get_d_ids (s ∷ t) (suc i) = get_d_ids t i

-- A slot of a table that is the oldest contact's: live, of rank 0, and every live contact in a lower slot has a higher rank.
pub record Oldest (t : Table) (rs : List ℕ) (k : ℕ) : Type 0 where
  pub there : k < length t
  pub lives : T (live (id_of (get_or t k [])))
  pub first : get_or rs k 0 ≡ 0
  pub lowest : (j : ℕ) → j < k → T (live (id_of (get_or t j []))) → 0 < get_or rs j 0

-- While one is live X and Y are numbers 1 and 2 of the oldest contact's slot.
pub some_follows : (t : Table) (rs : List ℕ) (q : Pointer) → T (good_ranks (ids t) rs) → 0 < live_count (ids t)
    → (let k = oldest_slot (ids t) rs in Oldest t rs k × ((pointed t rs q).x ≡ get_or (get_or t k []) 1 (pos 0)) × ((pointed t rs q).y ≡ get_or (get_or t k []) 2 (pos 0)))
some_follows t rs q g l =
    let k = oldest_slot (ids t) rs in
    let n = length-ranks (ids t) rs (both_left (zero_unused (ids t) rs) _ g) in
    let there = oldest_there (ids t) rs g l in
    let is = oldest_is (ids t) rs there n in (
      record {
        there = omega (arith, there, length-map t id_of);
        lives = subst (λ v. T (live v)) (get_d_ids t k) is.0;
        first = is.1;
        lowest = λ j b h. oldest_first (ids t) rs j n b (subst (λ v. T (live v)) (sym (get_d_ids t j)) h);
      },
      still-live (live_count (ids t)) q.x (oldest_number 1 t rs) l,
      still-live (live_count (ids t)) q.y (oldest_number 2 t rs) l,
    )

-- ---- in range

-- Every record of a good table is a good slot.
record_good : (fs : List Field) (n : ℕ) (t : Table) (i : ℕ) → T (good_slot fs (unused_slot fs)) → T (good_records fs n t) → i < length t → T (good_slot fs (get_or t i []))
record_good fs n [] i u g l = absurd (omega arith)
record_good fs zero (s ∷ t) zero u g l = subst (λ v. T (good_slot fs v)) (sym (eq_slot→eq s (unused_slot fs) (place fs zero s t g))) u
record_good fs (suc n) (s ∷ t) zero u g l = place fs (suc n) s t g
record_good fs n (s ∷ t) (suc i) u g l = record_good fs (n - 1) t i u (places fs n s t g) (omega arith)

slot_range : (fs : List Field) (s : Slot) (x y : ℤ) → T (in_range fs x y) → T (good_slot fs s) → T (in_range fs (get_or s 1 (pos 0)) (get_or s 2 (pos 0)))
slot_range [] s x y r g = absurd r
slot_range (i ∷ []) s x y r g = absurd r
slot_range (i ∷ fx ∷ []) s x y r g = absurd r
slot_range (i ∷ fx ∷ fy ∷ fs) [] x y r g = absurd g
slot_range (i ∷ fx ∷ fy ∷ fs) (a ∷ []) x y r g = absurd (both_right (fits i a) _ g)
slot_range (i ∷ fx ∷ fy ∷ fs) (a ∷ b ∷ []) x y r g = absurd (both_right (fits fx b) _ (both_right (fits i a) _ g))
slot_range (i ∷ fx ∷ fy ∷ fs) (a ∷ b ∷ c ∷ s) x y r g =
    let h = both_right (fits i a) (good_slot (fx ∷ fy ∷ fs) (b ∷ c ∷ s)) g in
    both (fits fx b) _ (both_left (fits fx b) _ h) (both_left (fits fy c) _ (both_right (fits fx b) (good_slot (fy ∷ fs) (c ∷ s)) h))

still_range : (fs : List Field) (m : ℕ) (x y u v : ℤ) → T (in_range fs x y) → (0 < m → T (in_range fs u v)) → T (in_range fs (still m x u) (still m y v))
still_range fs zero x y u v r h = r
still_range fs (suc m) x y u v r h = h (omega arith)

module _ (l : Layout) (u : Setup) where
  pub oldest_range : (t : Table) (rs : List ℕ) (x y : ℤ) → T (in_range (panel_of l u).fields x y) → T (good_records (panel_of l u).fields u.slots t)
      → T (good_ranks (ids t) rs)
      → 0 < live_count (ids t) → T (in_range (panel_of l u).fields (oldest_number 1 t rs) (oldest_number 2 t rs))
  oldest_range t rs x y r g k b =
      let fs = (panel_of l u).fields in
      slot_range fs (get_or t (oldest_slot (ids t) rs) []) x y r
      (record_good fs u.slots t (oldest_slot (ids t) rs) (unused-fits l u) g (omega (arith, oldest_there (ids t) rs k b, length-map t id_of)))

  pub pointed_range : (t : Table) (rs : List ℕ) (q : Pointer) → T (in_range (panel_of l u).fields q.x q.y) → T (good_records (panel_of l u).fields u.slots t)
      → T (good_ranks (ids t) rs)
      → T (in_range (panel_of l u).fields (pointed t rs q).x (pointed t rs q).y)
  pointed_range t rs q r g k =
      still_range (panel_of l u).fields (live_count (ids t)) q.x q.y (oldest_number 1 t rs) (oldest_number 2 t rs) r (oldest_range t rs q.x q.y r g k)
