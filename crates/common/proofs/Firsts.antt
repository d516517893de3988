-- The first record skipped, by its number. Cited by the proofs of `first_skipped` and of `follow`, the product's and the cranes'. Assumes nothing.
use mathlib.Core.Path.{◌≡◌, refl, sym, ap₂, ◌∙◌, subst}
use mathlib.Core.List.{List}
use Prim.Native.Nat.{ℕ, zero, suc, ◌+◌, ◌*◌, ◌≤◌}
use native.Mathlib.Omega.{arith}
use Rattle.model.specs.Records.{event_at}
use Rattle.model.specs.Reader.{event, earlier}
use Rattle.common.specs.Runs.{first_at, first_after, FirstWithin}

-- ---- where one was skipped

pub after_some : (n i k : ℕ) → (n ≡ 0 → ⊥) → first_after n i k ≡ i
after_some zero i k h = absurd (h refl)
after_some (suc n) i k h = refl

pub after_none : (n i k : ℕ) → n ≤ 0 → first_after n i k ≡ k
after_none zero i k h = refl
after_none (suc n) i k h = absurd (omega arith)

pub within_some : (n i len : ℕ) → (n ≡ 0 → ⊥) → FirstWithin n i len → 8 * i + 8 ≤ len
within_some zero i len h w = absurd (h refl)
within_some (suc n) i len h w = w

pub at_some : (bs : List ℕ) (n i : ℕ) → (n ≡ 0 → ⊥) → first_at bs n i ≡ event (event_at bs (8 * i)).type (event_at bs (8 * i)).code
at_some bs zero i h = absurd (h refl)
at_some bs (suc n) i h = refl

-- ---- after record k, which is skipped

first_next : (bs : List ℕ) (n i k t c : ℕ) → (event_at bs (8 * k)).type ≡ t → (event_at bs (8 * k)).code ≡ c
    → earlier (first_at bs n i) (event t c) ≡ first_at bs (suc n) (first_after n i k)
first_next bs zero i k t c a b = ap₂ event (sym a) (sym b)
first_next bs (suc n) i k t c a b = refl

within_next : (n i k len : ℕ) → FirstWithin n i len → 8 * k + 8 ≤ len → FirstWithin (suc n) (first_after n i k) len
within_next zero i k len w h = h
within_next (suc n) i k len w h = w

module _ (bs : List ℕ) (n m i j k : ℕ) (more : suc n ≡ m) (at : j ≡ first_after n i k) where
  pub names : (t c : ℕ) → (event_at bs (8 * k)).type ≡ t → (event_at bs (8 * k)).code ≡ c → earlier (first_at bs n i) (event t c) ≡ first_at bs m j
  names t c a b = first_next bs n i k t c a b ∙ ap₂ (first_at bs) more (sym at)

  pub stays_within : (len : ℕ) → FirstWithin n i len → 8 * k + 8 ≤ len → FirstWithin m j len
  stays_within len w h = subst (λ x. FirstWithin x j len) more (subst (λ x. FirstWithin (suc n) x len) (sym at) (within_next n i k len w h))
