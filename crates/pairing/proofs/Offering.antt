-- The five offers of one old contact. Cited by `offers`. Assumes nothing.
use mathlib.Core.Path.{◌≡◌}
use mathlib.Core.List.{List, [], ◌∷◌}
use Prim.Native.Nat.{ℕ, ◌+◌, ◌*◌, ◌/◌, ◌<◌, ◌≤◌}
use native.Mathlib.Omega.{arith}
use lib.ListN.{get_or}
use Rattle.model.specs.Pairing.{point, distance}
use Rattle.pairing.specs.Cells.{Offers, Short}
use Rattle.pairing.proofs.Sets.{below5}

-- One of them.
abbrev Offer : List ℕ → List ℕ → ℕ → ℕ → ℕ → ℕ → Type 0
Offer nx ny x y c r = (r ≡ 8 * distance (point x y) (point (get_or nx c 0) (get_or ny c 0)) + c) × (r ≤ 0x8_0000_0000)

module _ (nx ny : List ℕ) (x y a b c d e : ℕ) (p : Offer nx ny x y 0 a) (q : Offer nx ny x y 1 b) (r : Offer nx ny x y 2 c) (s : Offer nx ny x y 3 d) (t : Offer nx ny x y 4 e) where
  abbrev five : List ℕ
  five = a ∷ b ∷ c ∷ d ∷ e ∷ []

  each : Offers five nx ny x y
  each = below5 (λ i. get_or five i 0 ≡ 8 * distance (point x y) (point (get_or nx i 0) (get_or ny i 0)) + i) p.0 q.0 r.0 s.0 t.0

  held : (w v k : ℕ) → k < 5 → v ≡ 8 * w + k → v ≡ 8 * (v / 8) + k
  held w v k h z = omega arith

  pub offered : Offers five nx ny x y × Short five
  offered = (
    each,
    record {
      own = λ i h. held (distance (point x y) (point (get_or nx i 0) (get_or ny i 0))) (get_or five i 0) i h (each i h);
      small = below5 (λ i. get_or five i 0 ≤ 0x8_0000_0000) p.1 q.1 r.1 s.1 t.1;
    },
  )
