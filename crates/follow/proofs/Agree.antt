-- Which slots may differ between the shown and the pending table of a run that follows. Cited by the proof of `follow`. Assumes nothing.
use mathlib.Core.Path.{◌≡◌, refl, sym, ◌∙◌}
use mathlib.Core.Bool.{Bool, true, false}
use mathlib.Core.List.{List}
use Prim.Native.Nat.{ℕ, ◌+◌, ◌≤◌, ◌<◌}
use native.Mathlib.Omega.{arith}
use borrow.Author.Tests.{eqb-true, eqb-false}
use lib.Dec.{eqb}
use lib.ListN.{length, get_or, set, length-set}
use lib.Seq.{get_or-set_same, get_or-set_other, ext_get_or}

-- Where fewer than two slots were selected since the last report, only the slot that was current then and the current one may differ; with none selected
-- they are one slot.
pub record Agree {A : Type 0} (d : A) (shown pending : List A) (from current opened : ℕ) : Type 0 where
  pub sizes : length shown ≡ length pending
  pub still : opened ≡ 0 → from ≡ current
  pub others : opened < 2 → (i : ℕ) → (i ≡ from → ⊥) → (i ≡ current → ⊥) → get_or shown i d ≡ get_or pending i d

module _ {A : Type 0} {d : A} where
  -- A run may begin with anything pending.
  pub begins : (s p : List A) (c o : ℕ) → length s ≡ length p → 2 ≤ o → Agree d s p c c o
  begins s p c o e many = record { sizes = e; still = λ _. refl; others = λ h. absurd (omega arith) }

  -- Nothing is pending.
  pub settles : (t : List A) (c : ℕ) → Agree d t t c c 0
  settles t c = record { sizes = refl; still = λ _. refl; others = λ h i f g. refl }

  module _ {s p : List A} {f c o : ℕ} (a : Agree d s p f c o) where
    pub opens : (q : ℕ) → Agree d s p f q (o + 1)
    opens q = record {
      sizes = a.sizes;
      still = λ e. absurd (omega arith);
      others = λ h i nf nq. a.others (omega arith) i nf (λ e. nf (e ∙ sym (a.still (omega arith))));
    }

    pub stores : (x : A) → Agree d s (set p c x) f c o
    stores x = record {
      sizes = a.sizes ∙ sym (length-set p c x);
      still = a.still;
      others = λ h i nf nc. a.others h i nf nc ∙ sym (get_or-set_other p c i x d nc);
    }

    module _ (few : o < 2) (hf : f < length s) (hc : c < length s) where
      -- The slot that was current at the last report is copied.
      one : List A
      one = set s f (get_or p f d)

      one_at : (i : ℕ) (b : Bool) → eqb i f ≡ b → (i ≡ c → ⊥) → get_or one i d ≡ get_or p i d
      unfolding one
      one_at i true e nc =
          let q : i ≡ f = eqb-true i f e in
          rw q (get_or-set_same s f (get_or p f d) d hf)
      one_at i false e nc = get_or-set_other s f i (get_or p f d) d (eqb-false i f e) ∙ a.others few i (eqb-false i f e) nc

      both_at : (i : ℕ) (b : Bool) → eqb i c ≡ b → get_or (set one c (get_or p c d)) i d ≡ get_or p i d
      unfolding one
      both_at i true e =
          let q : i ≡ c = eqb-true i c e in
          rw q (get_or-set_same one c (get_or p c d) d (omega (arith, length-set s f (get_or p f d))))
      both_at i false e =
          let n = eqb-false i c e in
          get_or-set_other one c i (get_or p c d) d n ∙ one_at i (eqb i f) refl n

      -- Two slots copied make the shown table the pending one.
      pub two-copied : set (set s f (get_or p f d)) c (get_or p c d) ≡ p
      unfolding one
      two-copied =
          ext_get_or d (set one c (get_or p c d)) p (length-set one c (get_or p c d) ∙ length-set s f (get_or p f d) ∙ a.sizes) (λ i h. both_at i (eqb i c) refl)
