-- The choice of the least (K12): it is allowed, no other is less, and of equals none is lower. Cited by PairingBest and by the crate pairing. Assumes nothing.
use mathlib.Core.Path.{◌≡◌, refl, ap, ap₂, ◌∙◌}
use mathlib.Core.Bool.{Bool, true, false, cond, ◌&&◌, false≢true}
use Prim.Native.Nat.{ℕ, zero, suc, ◌<◌, ◌≤◌}
use native.Mathlib.Omega.{arith}
use lib.Dec.{leb, eqb}
use borrow.Author.Tests.{eqb-true, eqb-false, leb-true, leb-false}
use Rattle.model.specs.Pairing.{alone, least_below, best_choice}

-- a has no more of f than b, and where it has as much it is no higher.
pub record Beats (f : ℕ → ℕ) (a b : ℕ) : Type 0 where
  pub low : f a ≤ f b
  pub early : f a ≡ f b → a ≤ b

module _ (good : ℕ → Bool) (f : ℕ → ℕ) where
  beats_trans : (a b c : ℕ) → Beats f a b → Beats f b c → Beats f a c
  beats_trans a b c p q =
      record {
        low = omega (arith, p.low, q.low);
        early = λ e.
            let g : f a ≡ f b = omega (arith, p.low, q.low) in
            let h : f b ≡ f c = omega (arith, p.low, q.low) in
            omega (arith, p.early g, q.early h);
      }

  beats_self : (a : ℕ) → Beats f a a
  beats_self a = record { low = omega arith; early = λ e. omega arith }

  -- One number of the walk: whether it is good, and whether it is no dearer.
  abbrev turned : Bool → Bool → ℕ → ℕ → ℕ
  turned g l k b = cond (g && l) k b

  turned_old : (g l : Bool) (k b : ℕ) → leb (f k) (f b) ≡ l → k ≤ b → Beats f (turned g l k b) b
  turned_old true true k b e h = record { low = leb-true (f k) (f b) e; early = λ z. h }
  turned_old true false k b e h = beats_self b
  turned_old false l k b e h = beats_self b

  turned_new : (g l : Bool) (k b : ℕ) → g ≡ true → leb (f k) (f b) ≡ l → Beats f (turned g l k b) k
  turned_new true true k b t e = beats_self k
  turned_new true false k b t e = record { low = omega (arith, leb-false (f k) (f b) e); early = λ z. omega (arith, leb-false (f k) (f b) e) }
  turned_new false l k b t e = absurd (false≢true t)

  pub turned-good : (g l : Bool) (k b : ℕ) → good k ≡ g → good b ≡ true → good (turned g l k b) ≡ true
  turned-good true true k b e h = e
  turned-good true false k b e h = h
  turned-good false l k b e h = h

  turned_le : (g l : Bool) (k b : ℕ) → k ≤ b → k ≤ turned g l k b
  turned_le true true k b h = omega arith
  turned_le true false k b h = h
  turned_le false l k b h = h

  below-good : (k b : ℕ) → good b ≡ true → good (least_below good f k b) ≡ true
  below-good zero b h = h
  below-good (suc k) b h = below-good k (turned (good k) (leb (f k) (f b)) k b) (turned-good (good k) (leb (f k) (f b)) k b refl h)

  below_le : (k b : ℕ) → k ≤ b → least_below good f k b ≤ b
  below_le zero b h = omega arith
  below_le (suc k) b h =
      let n = turned (good k) (leb (f k) (f b)) k b in
      let kn : k ≤ n = turned_le (good k) (leb (f k) (f b)) k b (omega arith) in
      omega (arith, below_le k n kn, at_most (good k) (leb (f k) (f b)))
    where
      at_most : (g l : Bool) → turned g l k b ≤ b
      at_most true true = omega arith
      at_most true false = omega arith
      at_most false l = omega arith

  below_old : (k b : ℕ) → k ≤ b → Beats f (least_below good f k b) b
  below_old zero b h = beats_self b
  below_old (suc k) b h =
      let n = turned (good k) (leb (f k) (f b)) k b in
      beats_trans (least_below good f k n) n b (below_old k n (turned_le (good k) (leb (f k) (f b)) k b (omega arith)))
      (turned_old (good k) (leb (f k) (f b)) k b refl (omega arith))

  below_new : (k b d : ℕ) → k ≤ b → d < k → good d ≡ true → Beats f (least_below good f k b) d
  below_new zero b d h l o = absurd (omega arith)
  below_new (suc k) b d h l o =
      let n = turned (good k) (leb (f k) (f b)) k b in
      let kn : k ≤ n = turned_le (good k) (leb (f k) (f b)) k b (omega arith) in
      by n kn (turned_new (good k) (leb (f k) (f b)) k b) (λ dk. below_new k n d kn dk o) (eqb d k) refl
    where
      by : (n : ℕ) → k ≤ n → (good k ≡ true → leb (f k) (f b) ≡ leb (f k) (f b) → Beats f n k) → (d < k → Beats f (least_below good f k n) d) → (t : Bool) → eqb d k ≡ t
          → Beats f (least_below good f k n) d
      by n kn nw go true e =
          let dk : d ≡ k = eqb-true d k e in
          rw dk (beats_trans (least_below good f k n) n k (below_old k n kn) (nw (rw dk at o) refl))
      by n kn nw go false e = go (omega (arith, eqb-false d k e))

  pub choice-good : good alone ≡ true → good (best_choice good f) ≡ true
  unfolding best_choice
  choice-good h = below-good alone alone h

  pub choice_le : best_choice good f ≤ alone
  unfolding best_choice
  choice_le = below_le alone alone (omega arith)

  pub choice_old : Beats f (best_choice good f) alone
  unfolding best_choice
  choice_old = below_old alone alone (omega arith)

  pub choice_new : (d : ℕ) → d < alone → good d ≡ true → Beats f (best_choice good f) d
  unfolding best_choice
  choice_new d h o = below_new alone alone d (omega arith) h o

-- Other tests and another f choose alike, where they say the same of the numbers up to alone and of the good ones.
module _ (good fine : ℕ → Bool) (f g : ℕ → ℕ) (as-good : (c : ℕ) → c < alone → good c ≡ fine c) (as-much : (c : ℕ) → good c ≡ true → f c ≡ g c) where
  turned_alike : (t : Bool) (k b : ℕ) → good k ≡ t → good b ≡ true → cond (t && leb (f k) (f b)) k b ≡ cond (t && leb (g k) (g b)) k b
  turned_alike true k b e h = ap₂ (λ x y. cond (leb x y) k b) (as-much k e) (as-much b h)
  turned_alike false k b e h = refl

  below_alike : (k b : ℕ) → k ≤ alone → good b ≡ true → least_below good f k b ≡ least_below fine g k b
  below_alike zero b l h = refl
  below_alike (suc k) b l h =
      below_alike k (cond (good k && leb (f k) (f b)) k b) (omega arith) (turned-good good f (good k) (leb (f k) (f b)) k b refl h)
      ∙ ap (λ x. least_below fine g k x) (turned_alike (good k) k b refl h)
      ∙ ap (λ t. least_below fine g k (cond (t && leb (g k) (g b)) k b)) (as-good k (omega arith))

  pub choice_alike : good alone ≡ true → best_choice good f ≡ best_choice fine g
  unfolding best_choice
  choice_alike h = below_alike alone alone (omega arith) h
