-- What the loop of `olds_of` knows after s records: its start, a turn, its end. Cited by the proof of `olds_of`. Assumes nothing.
use mathlib.Core.Path.{◌≡◌, refl, sym, ap, ap₂, ◌∙◌}
use mathlib.Core.Bool.{Bool, true, false}
use mathlib.Core.List.{List, [], ◌∷◌, ◌++◌, map, append_assoc, append-nil}
use Prim.Native.Nat.{ℕ, zero, suc, ◌+◌, ◌<◌, ◌≤◌}
use native.Mathlib.Omega.{arith}
use native.Mathlib.Numerals.{add-one}
use lib.ListN.{length, get_or, take, drop, set, replicate, length-set}
use lib.Seq.{get_or-set_same, get_or-set_other, take-suc-set, take_all}
use Rattle.model.specs.Panel.{records}
use Rattle.model.specs.Table.{live}
use Rattle.model.specs.Pairing.{Point, point, points, largest, at_live}
use Rattle.model.specs.Anonymous.{slot_point, live_in, old_points}
use Rattle.panel.specs.declared.Slot.{Slot}
use Rattle.panel.specs.Seen.{slot_of, table_of, blank}
use Rattle.panel.proofs.Tables.{rest-is, rest-none}
use Rattle.pairing.specs.Cells.{Near}
use Rattle.anonymous.specs.Held.{OldsOf}

-- ---- the points of two arrays

points_kept : (k i : ℕ) (xs ys : List ℕ) (c a b : ℕ) → i + k ≤ c → points k i (set xs c a) (set ys c b) ≡ points k i xs ys
points_kept zero i xs ys c a b h = refl
points_kept (suc k) i xs ys c a b h =
    ap₂ (λ (p : Point) (l : List Point). p ∷ l)
    (ap₂ point (get_or-set_other xs c i a 0 (λ e. omega arith)) (get_or-set_other ys c i b 0 (λ e. omega arith)))
    (points_kept k (suc i) xs ys c a b (omega arith))

points-last : (k i : ℕ) (xs ys : List ℕ) → points (suc k) i xs ys ≡ points k i xs ys ++ (point (get_or xs (i + k) 0) (get_or ys (i + k) 0) ∷ [])
points-last zero i xs ys = let z : i + 0 ≡ i = omega arith in rw z
points-last (suc k) i xs ys =
    let z : i + suc k ≡ suc i + k = omega arith in
    rw z (ap (λ l. point (get_or xs i 0) (get_or ys i 0) ∷ l) (points-last k (suc i) xs ys))

-- One contact more, stored behind the others.
points-more : (k : ℕ) (xs ys : List ℕ) (a b : ℕ) → k < length xs → k < length ys
    → points (k + 1) 0 (set xs k a) (set ys k b) ≡ points k 0 xs ys ++ (point a b ∷ [])
points-more k xs ys a b h g =
    let z : 0 + k ≡ k = omega arith in
    ap (λ n. points n 0 (set xs k a) (set ys k b)) (add-one k)
    ∙ points-last k 0 (set xs k a) (set ys k b)
    ∙ ap (λ n. points k 0 (set xs k a) (set ys k b) ++ (point (get_or (set xs k a) n 0) (get_or (set ys k b) n 0) ∷ [])) z
    ∙ ap₂ (λ l p. l ++ (p ∷ [])) (points_kept k 0 xs ys k a b (omega arith)) (ap₂ point (get_or-set_same xs k a 0 h) (get_or-set_same ys k b 0 g))

-- ---- numbers that are near

near_none : (n : ℕ) → Near (replicate n 0)
near_none zero j = omega arith
near_none (suc n) zero = omega arith
near_none (suc n) (suc j) = near_none n j

near_set : (l : List ℕ) (c a : ℕ) → Near l → a ≤ largest → Near (set l c a)
near_set [] c a n h j = n j
near_set (v ∷ l) zero a n h zero = h
near_set (v ∷ l) zero a n h (suc j) = n (suc j)
near_set (v ∷ l) (suc c) a n h zero = n zero
near_set (v ∷ l) (suc c) a n h (suc j) = near_set l c a (λ k. n (suc k)) h j

-- ---- after s records

pub record Gathered (t : List Slot) (x y : List ℕ) (lives : List Bool) (count s : ℕ) : Type 0 where
  pub inside : s ≤ records
  pub few : count ≤ s
  pub x-full : length x ≡ records
  pub y-full : length y ≡ records
  pub live-full : length lives ≡ records
  pub near_x : Near x
  pub near_y : Near y
  pub marks : take s lives ++ live_in (table_of (drop s t)) ≡ live_in (table_of t)
  pub olds : points count 0 x y ++ old_points (table_of (drop s t)) ≡ old_points (table_of t)

pub gathers : (t : List Slot) → Gathered t (replicate records 0) (replicate records 0) (replicate records false) 0 0
gathers t = record {
  inside = omega arith;
  few = omega arith;
  x-full = refl;
  y-full = refl;
  live-full = refl;
  near_x = near_none records;
  near_y = near_none records;
  marks = refl;
  olds = refl;
}

-- ---- a turn

module _ {t : List Slot} {x y : List ℕ} {lives : List Bool} {count s : ℕ} (g : Gathered t x y lives count s) (full : length t ≡ records) (h : s < records)
    (b : Bool) (is : b ≡ live (get_or t s blank).id.0) where
  abbrev here : Slot
  here = get_or t s blank

  abbrev rest : List Slot
  rest = drop (s + 1) t

  table_is : table_of (drop s t) ≡ slot_of here ∷ table_of rest
  table_is = rest-is t s (omega arith)

  marks-on : take (s + 1) (set lives s b) ++ live_in (table_of rest) ≡ live_in (table_of t)
  marks-on =
      ap (λ n. take n (set lives s b) ++ live_in (table_of rest)) (add-one s)
      ∙ ap (λ l. l ++ live_in (table_of rest)) (take-suc-set lives s b (omega (arith, g.live-full)))
      ∙ append_assoc (take s lives) (b ∷ []) (live_in (table_of rest))
      ∙ ap (λ a. take s lives ++ (a ∷ live_in (table_of rest))) is
      ∙ ap (λ l. take s lives ++ live_in l) (sym table_is)
      ∙ g.marks

  -- The record's point counts just where it is live.
  abbrev points_if : Bool → List Point
  points_if a = at_live (a ∷ live_in (table_of rest)) (point here.x here.y ∷ map slot_point (table_of rest))

  points_on : (l : List Point) (a : Bool) → b ≡ a → l ≡ points count 0 x y ++ points_if a → l ≡ old_points (table_of t)
  points_on l a e q = q ∙ ap (λ p. points count 0 x y ++ p) (sym (ap old_points table_is ∙ ap points_if (sym is ∙ e))) ∙ g.olds

  pub gathers_none : b ≡ false → Gathered t x y (set lives s b) count (s + 1)
  gathers_none e = record {
    inside = omega arith;
    few = omega (arith, g.few);
    x-full = g.x-full;
    y-full = g.y-full;
    live-full = length-set lives s b ∙ g.live-full;
    near_x = g.near_x;
    near_y = g.near_y;
    marks = marks-on;
    olds = points_on _ false e refl;
  }

  pub gathers_one : b ≡ true → here.x ≤ largest → here.y ≤ largest
      → Gathered t (set x count here.x) (set y count here.y) (set lives s b) (count + 1) (s + 1)
  gathers_one e nx ny = record {
    inside = omega arith;
    few = omega (arith, g.few);
    x-full = length-set x count here.x ∙ g.x-full;
    y-full = length-set y count here.y ∙ g.y-full;
    live-full = length-set lives s b ∙ g.live-full;
    near_x = near_set x count here.x g.near_x nx;
    near_y = near_set y count here.y g.near_y ny;
    marks = marks-on;
    olds =
        points_on _ true e
        (ap (λ l. l ++ old_points (table_of rest)) (points-more count x y here.x here.y (omega (arith, g.few, g.x-full)) (omega (arith, g.few, g.y-full)))
        ∙ append_assoc (points count 0 x y) (point here.x here.y ∷ []) (old_points (table_of rest)));
  }

-- ---- the end

pub gathered_all : {t : List Slot} {x y : List ℕ} {lives : List Bool} {count s : ℕ} → Gathered t x y lives count s → length t ≡ records → records ≤ s
    → OldsOf t (record { x = x; y = y; live = lives; count = count })
gathered_all {t} {x} {y} {lives} {count} {s} g full h =
    let none : table_of (drop s t) ≡ [] = rest-none t s (omega arith) in
    record {
      live =
          sym (take_all s lives (omega (arith, g.live-full)))
          ∙ sym (append-nil (take s lives))
          ∙ ap (λ l. take s lives ++ live_in l) (sym none)
          ∙ g.marks;
      points = sym (append-nil (points count 0 x y)) ∙ ap (λ l. points count 0 x y ++ old_points l) (sym none) ∙ g.olds;
      few = omega (arith, g.few, g.inside);
      near_x = g.near_x;
      near_y = g.near_y;
    }
