-- There is only one best pairing (K12), so that to be Best leaves no choice. Cited by the crate pairing. Assumes nothing.
use mathlib.Core.Path.{◌≡◌, refl, sym, ap₂}
use mathlib.Core.Bool.{Bool, true, false, ◌&&◌, ◌||◌, false≢true}
use mathlib.Core.List.{List, [], ◌∷◌}
use Prim.Native.Nat.{ℕ, ◌<◌}
use native.Mathlib.Omega.{arith}
use lib.Dec.{ltb, eqb}
use borrow.Author.Tests.{eqb-true, ltb-true}
use Rattle.model.proofs.Bools.{and_left, and_right}
use Rattle.model.specs.Pairing.{Point, pairs, cost, up_to, Best}

-- Two lists by their first numbers: before, or equal and the rest so.
data Head (c d : ℕ) (r : Bool) : Type 0 where
  less : c < d → Head c d r
  same : c ≡ d → r ≡ true → Head c d r

head : (c d : ℕ) (r : Bool) → (ltb c d || (eqb c d && r)) ≡ true → Head c d r
head c d r w = by (ltb c d) refl w
  where
    by : (t : Bool) → ltb c d ≡ t → (t || (eqb c d && r)) ≡ true → Head c d r
    by true e v = less (ltb-true c d e)
    by false e v = same (eqb-true c d (and_left (eqb c d) r v)) (and_right (eqb c d) r v)

both : (c d : ℕ) (cs ds : List ℕ) → (up_to cs ds ≡ true → up_to ds cs ≡ true → cs ≡ ds) → Head c d (up_to cs ds) → Head d c (up_to ds cs) → c ∷ cs ≡ d ∷ ds
both c d cs ds ih (less l) (less g) = absurd (omega arith)
both c d cs ds ih (less l) (same e r) = absurd (omega arith)
both c d cs ds ih (same e r) (less g) = absurd (omega arith)
both c d cs ds ih (same e r) (same f s) = ap₂ (λ x l. x ∷ l) e (ih r s)

-- Dictionary order has no two lists each before the other.
pub up_to_both : (cs ds : List ℕ) → up_to cs ds ≡ true → up_to ds cs ≡ true → cs ≡ ds
up_to_both [] [] a b = refl
up_to_both [] (d ∷ ds) a b = absurd (false≢true b)
up_to_both (c ∷ cs) [] a b = absurd (false≢true a)
up_to_both (c ∷ cs) (d ∷ ds) a b = both c d cs ds (λ x y. up_to_both cs ds x y) (head c d (up_to cs ds) a) (head d c (up_to ds cs) b)

pub best_unique : (ns os : List Point) (cs ds : List ℕ) → Best ns os cs → Best ns os ds → cs ≡ ds
best_unique ns os cs ds a b =
    let p : pairs ds ≡ pairs cs = omega (arith, a.most ds b.reached, b.most cs a.reached) in
    let q : cost ns os ds ≡ cost ns os cs = omega (arith, a.cheapest ds b.reached p, b.cheapest cs a.reached (sym p)) in
    up_to_both cs ds (a.first ds b.reached p q) (b.first cs a.reached (sym p) (sym q))
