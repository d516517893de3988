-- The loop over the choices of one cell. Cited by `cell`. Assumes nothing.
use mathlib.Core.Path.{◌≡◌, refl, ap, ◌∙◌}
use mathlib.Core.Bool.{Bool, true, false, cond, ◌&&◌}
use mathlib.Core.List.{List}
use Prim.Native.Nat.{ℕ, suc, ◌+◌, ◌-◌, ◌*◌, ◌/◌, ◌%◌, ◌^◌, ◌<◌, ◌≤◌}
use native.Mathlib.Omega.{arith}
use lib.Dec.{leb, eqb}
use lib.ListN.{get_or}
use borrow.Author.Tests.{eq-eqb, ne_eqb, le-leb, lt-leb}
use Rattle.model.specs.Pairing.{alone, least_below, best_choice}
use Rattle.pairing.specs.Cells.{choosable, value, packed, Short, Low}
use Rattle.pairing.proofs.Sets.{power}

-- With the choices from k on seen, the best is that of choice b.
pub record Reach (good : ℕ → Bool) (f : ℕ → ℕ) (best k : ℕ) : Type 0 where
  pub b : ℕ
  pub low : k ≤ b
  pub high : b ≤ 5
  pub is : best ≡ 8 * f b + b
  pub same : best_choice good f ≡ least_below good f k b

module _ (good : ℕ → Bool) (f : ℕ → ℕ) where
  start : (best : ℕ) → best ≡ 8 * f 5 + 5 → Reach good f best 5
  unfolding best_choice
  start best e = record { b = 5; low = omega arith; high = omega arith; is = e; same = refl }

  pub finish : (best k : ℕ) → k ≡ 0 → Reach good f best k → best ≡ packed good f
  finish best k z r = let e : best_choice good f ≡ r.b = rw z at r.same in rw e r.is

  module _ (best j : ℕ) (r : Reach good f best (suc j)) where
    skipped : good j ≡ false → Reach good f best j
    skipped e =
        record {
          b = r.b;
          low = omega (arith, r.low);
          high = r.high;
          is = r.is;
          same = r.same ∙ ap (λ t. least_below good f j (cond (t && leb (f j) (f r.b)) j r.b)) e;
        }

    kept : (v : ℕ) → v ≡ 8 * f j + j → best ≤ v → Reach good f best j
    kept v e h =
        let l : f r.b < f j = omega (arith, r.low, r.high, r.is) in
        record {
          b = r.b;
          low = omega (arith, r.low);
          high = r.high;
          is = r.is;
          same = r.same
              ∙ ap (λ t. least_below good f j (cond (good j && t) j r.b)) (lt-leb (f j) (f r.b) l)
              ∙ ap (λ i. least_below good f j i) (never (good j) j r.b);
        }
      where
        never : (t : Bool) (x y : ℕ) → cond (t && false) x y ≡ y
        never true x y = refl
        never false x y = refl

    replaced : (v : ℕ) → good j ≡ true → v ≡ 8 * f j + j → v < best → Reach good f v j
    replaced v o e h =
        let l : f j ≤ f r.b = omega (arith, r.low, r.high, r.is) in
        record {
          b = j;
          low = omega arith;
          high = omega (arith, r.low, r.high);
          is = e;
          same = r.same
              ∙ ap (λ t. least_below good f j (cond (good j && t) j r.b)) (le-leb (f j) (f r.b) l)
              ∙ ap (λ t. least_below good f j (cond (t && true) j r.b)) o;
        }

not-alone : (k : ℕ) → k < 5 → eqb k alone ≡ false
not-alone k h = ne_eqb k alone (λ e. omega arith)

-- Bit c in the code's words.
abbrev pub shifted : ℕ → ℕ
shifted c = 1 * 2 ^ c % 18446744073709551616

-- One turn, by the code's tests. An offer holds its own number, and a cost is eight times one, so that their sum holds the choice.
module _ (d row : List ℕ) (free : ℕ) (short : Short d) (low : Low row free 31) where
  pub reach_start : (best : ℕ) → best ≡ 0x100_0000_0005 + get_or row free 0 → Reach (choosable free) (value d row free) best 5
  reach_start best e = start (choosable free) (value d row free) best (omega (arith, e, low.eights free (omega arith)))

  value-at : (k : ℕ) → k < 5 → value d row free k ≡ get_or d k 0 / 8 + get_or row (free - 2 ^ k) 0 / 8
  value-at k h = rw (not-alone k h)

  summed : (k v : ℕ) → k < 5 → v ≡ get_or d k 0 + get_or row (free - shifted k) 0 → v ≡ 8 * value d row free k + k
  summed k v h e =
      let g : v ≡ get_or d k 0 + get_or row (free - 2 ^ k) 0 = rw (power k (omega arith)) at e in
      omega (arith, g, value-at k h, short.own k h, low.eights (free - 2 ^ k) (omega arith))

  module _ (best k j : ℕ) (z : k ≡ suc j) (h : j < 5) (r : Reach (choosable free) (value d row free) best k) where
    back : Reach (choosable free) (value d row free) best (suc j)
    back = rw z at r

    pub reach_used : (free / 2 ^ j % 2 ≡ 1 → ⊥) → Reach (choosable free) (value d row free) best j
    reach_used u = skipped (choosable free) (value d row free) best j back (rw (not-alone j h, ne_eqb (free / 2 ^ j % 2) 1 u))

    module _ (v : ℕ) (e : v ≡ get_or d j 0 + get_or row (free - shifted j) 0) where
      pub reach_kept : best ≤ v → Reach (choosable free) (value d row free) best j
      reach_kept l = kept (choosable free) (value d row free) best j back v (summed j v h e) l

      pub reach_taken : free / 2 ^ j % 2 ≡ 1 → v < best → Reach (choosable free) (value d row free) v j
      reach_taken u l =
          replaced (choosable free) (value d row free) best j back v (rw (not-alone j h, eq-eqb (free / 2 ^ j % 2) 1 u)) (summed j v h e) l
