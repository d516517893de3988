-- The tables hold the model's costs and choices, row by row from the last old contact. Cited by `fill` and by Walked. Assumes nothing.
use mathlib.Core.Path.{◌≡◌, refl, sym, ap, ap₂, ◌∙◌}
use mathlib.Core.Bool.{Bool, true, false, cond}
use mathlib.Core.List.{List, ◌∷◌}
use Prim.Native.Nat.{ℕ, zero, suc, ◌+◌, ◌-◌, ◌*◌, ◌/◌, ◌^◌, ◌<◌, ◌≤◌}
use native.Mathlib.Omega.{arith}
use lib.Dec.{eqb}
use lib.ListN.{get_or, length, replicate, get_or-replicate}
use borrow.Author.Tests.{eqb-true, eqb-false}
use Rattle.model.specs.Pairing.{Point, point, origin, points, distance, alone, allowed, alone_cost, choice_cost, best_choice, least_cost, choice}
use Rattle.model.proofs.PairingChoice.{choice-good, choice_old, choice_alike}
use Rattle.model.proofs.PairingBest.{Choice, none, one, chosen}
use Rattle.pairing.specs.Cells.{choosable, without, Agree, Offers, Low, value, Turned, first_choice, Chosen}
use Rattle.pairing.proofs.Sets.{allowed-choosable, agree_next, without_le}

-- ---- points of two arrays

pub points-length : (n i : ℕ) (xs ys : List ℕ) → length (points n i xs ys) ≡ n
points-length zero i xs ys = refl
points-length (suc n) i xs ys = ap suc (points-length n (suc i) xs ys)

points_from : (n i : ℕ) (xs ys : List ℕ) (c : ℕ) → c < n → get_or (points n i xs ys) c origin ≡ point (get_or xs (i + c) 0) (get_or ys (i + c) 0)
points_from zero i xs ys c h = absurd (omega arith)
points_from (suc n) i xs ys zero h = let z : i + 0 ≡ i = omega arith in rw z
points_from (suc n) i xs ys (suc c) h = let z : i + suc c ≡ suc i + c = omega arith in rw z (points_from n (suc i) xs ys c (omega arith))

points-at : (n : ℕ) (xs ys : List ℕ) (c : ℕ) → c < n → get_or (points n 0 xs ys) c origin ≡ point (get_or xs c 0) (get_or ys c 0)
points-at n xs ys c h = let z : 0 + c ≡ c = omega arith in points_from n 0 xs ys c h ∙ ap (λ j. point (get_or xs j 0) (get_or ys j 0)) z

-- ---- the tables

-- The contacts from i on are done: the row has their costs, for every set and every list that it stands for.
pub record Filled (ns : List Point) (xs ys : List ℕ) (k n i : ℕ) (row made : List ℕ) : Type 0 where
  pub far : i ≤ k
  pub costs : (used : List ℕ) (f : ℕ) → f ≤ 2 ^ n - 1 → Agree n used f → get_or row f 0 ≡ 8 * least_cost ns used (points (k - i) i xs ys)
  pub choices : Chosen ns xs ys k n i made
  pub low : Low row (2 ^ n - 1) (k - i)
  pub row_size : length row ≡ 32
  pub made-size : length made ≡ 1024

-- Behind the last contact nothing costs.
pub filled_start : (ns : List Point) (xs ys : List ℕ) (k n : ℕ) → 2 ^ n - 1 < 32 → Filled ns xs ys k n k (replicate 32 0) (replicate 1024 alone)
filled_start ns xs ys k n l =
    let z : k - k ≡ 0 = omega arith in
    record {
      far = omega arith;
      costs = λ used f h a. rw z (nothing f h);
      choices = λ used f r h a g e. absurd (omega arith);
      low = record { eights = λ j h. rw (nothing j h); small = λ j h. omega (arith, nothing j h) };
      row_size = refl;
      made-size = refl;
    }
  where
    nothing : (f : ℕ) → f ≤ 2 ^ n - 1 → ◌≡◌ {A = ℕ} (get_or (replicate 32 0) f 0) 0
    nothing f h = get_or-replicate 32 f 0 0 (omega arith)

-- Room for one row more.
pub filled_low : (ns : List Point) (xs ys : List ℕ) (k n i j : ℕ) (row made : List ℕ) → k ≤ 32 → i ≡ suc j → Filled ns xs ys k n i row made → Low row (2 ^ n - 1) 31
filled_low ns xs ys k n i j row made lk z p =
    record { eights = p.low.eights; small = λ f h. omega (arith, p.low.small f h, p.far) }

-- ---- one row more

module _ (nx ny xs ys : List ℕ) (n k j : ℕ) (ln : n ≤ 5) (lj : j < k) (row made : List ℕ) (p : Filled (points n 0 nx ny) xs ys k n (suc j) row made) where
  abbrev ns : List Point
  ns = points n 0 nx ny

  abbrev later : List Point
  later = points (k - suc j) (suc j) xs ys

  abbrev o : Point
  o = point (get_or xs j 0) (get_or ys j 0)

  module _ (d row₁ made₁ : List ℕ) (offers : Offers d nx ny (get_or xs j 0) (get_or ys j 0)) (t : Turned d row row₁ made made₁ j (2 ^ n - 1)) where
    module _ (used : List ℕ) (f : ℕ) (lf : f ≤ 2 ^ n - 1) (a : Agree n used f) where
      abbrev worth : ℕ → ℕ
      worth c = choice_cost ns o c + least_cost ns (c ∷ used) later

      own : (c : ℕ) → Choice n used c → choice_cost ns o c ≡ cond (eqb c alone) alone_cost (get_or d c 0 / 8)
      own c (none e) = rw e
      own c (one q l u) =
          let h : c < 5 = omega arith in
          rw q (ap (distance o) (points-at n nx ny c l) ∙ eighth (distance o (point (get_or nx c 0) (get_or ny c 0))) (get_or d c 0) h (offers c h))
        where
          eighth : (w v : ℕ) → c < 5 → v ≡ 8 * w + c → w ≡ v / 8
          eighth w v h e = omega arith

      behind : (c : ℕ) → Choice n used c → least_cost ns (c ∷ used) later ≡ get_or row (without f c) 0 / 8
      behind c h =
          let e = p.costs (c ∷ used) (without f c) (omega (arith, without_le f c)) (agree_next n ln used f a c h) in
          eighth (least_cost ns (c ∷ used) later) (get_or row (without f c) 0) e
        where
          eighth : (w v : ℕ) → v ≡ 8 * w → w ≡ v / 8
          eighth w v e = omega arith

      same_worth : (c : ℕ) → allowed n used c ≡ true → worth c ≡ value d row f c
      same_worth c e = ap₂ (λ x y. x + y) (own c (chosen n used c e)) (behind c (chosen n used c e))

      same-choice : best_choice (allowed n used) worth ≡ best_choice (choosable f) (value d row f)
      same-choice = choice_alike (allowed n used) (choosable f) worth (value d row f) (allowed-choosable n ln used f a) same_worth refl

      by_length : best_choice (allowed (length ns) used) worth ≡ best_choice (allowed n used) worth
      by_length = ap (λ m. best_choice (allowed m used) worth) (points-length n 0 nx ny)

      new_choice : get_or made₁ (32 * j + f) 0 ≡ choice ns used o later
      new_choice = t.choices f lf ∙ sym (by_length ∙ same-choice)

      new_cost : get_or row₁ f 0 ≡ 8 * least_cost ns used (o ∷ later)
      new_cost =
          t.costs f lf
          ∙ ap (λ c. 8 * value d row f c) (sym same-choice)
          ∙ ap (λ x. 8 * x) (sym (same_worth (best_choice (allowed n used) worth) (choice-good (allowed n used) worth refl)))
          ∙ ap (λ c. 8 * worth c) (sym by_length)

    cut : k - j ≡ suc (k - suc j)
    cut = omega arith

    new_choices : Chosen ns xs ys k n j made₁
    new_choices used f r lf a lr lk = by (eqb r j) refl
      where
        by : (e : Bool) → eqb r j ≡ e → get_or made₁ (32 * r + f) 0 ≡ first_choice ns used (points (k - r) r xs ys)
        by true e = let z : r ≡ j = eqb-true r j e in rw (z, cut) (new_choice used f lf a)
        by false e =
            let l : suc j ≤ r = omega (arith, eqb-false r j e) in
            t.rest (32 * r + f) (omega arith) ∙ p.choices used f r lf a l lk

    new_low : Low row₁ (2 ^ n - 1) (k - j)
    new_low =
        record {
          eights = λ f h. eighth (get_or row₁ f 0) (value d row f (best_choice (choosable f) (value d row f))) (t.costs f h);
          small = λ f h. omega (arith, t.costs f h, (choice_old (choosable f) (value d row f)).low, p.low.small f h, cut);
        }
      where
        eighth : (v w : ℕ) → v ≡ 8 * w → v ≡ 8 * (v / 8)
        eighth v w e = omega arith

    pub filled_next : Filled ns xs ys k n j row₁ made₁
    filled_next =
        record {
          far = omega arith;
          costs = λ used f h a. rw cut (new_cost used f h a);
          choices = new_choices;
          low = new_low;
          row_size = t.row_size;
          made-size = t.made-size;
        }

-- The same, where the code says which contact it is in another way.
pub filled_move : (ns : List Point) (xs ys : List ℕ) (k n i j : ℕ) (row made : List ℕ) → i ≡ j → Filled ns xs ys k n i row made → Filled ns xs ys k n j row made
filled_move ns xs ys k n i j row made z p = rw z at p
