-- The marks of live ranks, and the least number above them, as a walk finds both: whether the ranks have no gaps. Cited by the proof of `ranks_good`. Assumes nothing.
use mathlib.Core.Path.{◌≡◌, refl, sym, ap, ap₂, ◌∙◌, subst}
use mathlib.Core.Bool.{Bool, true, false, not, cond, ◌&&◌, ◌||◌}
use mathlib.Core.List.{List, [], ◌∷◌}
use Prim.Native.Nat.{ℕ, zero, suc, ◌≤◌, ◌<◌}
use native.Mathlib.Omega.{arith}
use lib.Dec.{T, T_not, ltb, eqb, eqb→eq, ltb→lt, nltb→le}
use lib.ListN.{length, get_or}
use Rattle.model.specs.Ranks.{full, no_gaps, above}
use Rattle.model.proofs.Bools.{holds}
use Rattle.model.proofs.Ranks.{eqb_self}
use Rattle.model.proofs.RanksMarks.{Marked, no_gaps_full}
use Rattle.common.proofs.Signs.{and-false}
use Rattle.pointer.specs.Marks.{Marks, marked}

-- The larger of two numbers.
abbrev larger : ℕ → ℕ → ℕ
larger a b = cond (ltb a b) b a

larger_left : (a b : ℕ) → b ≤ a → larger a b ≡ a
larger_left a b h =
    (elim (ltb a b) as (λ e. (T e → a < b) → cond e b a ≡ a) [
      | true ↦ λ y. absurd (omega (arith, y tt))
      | false ↦ λ y. refl
    ]) (ltb→lt a b)

larger_right : (a b : ℕ) → a ≤ b → larger a b ≡ b
larger_right a b h =
    (elim (ltb a b) as (λ e. (T (not e) → b ≤ a) → cond e b a ≡ b) [
      | true ↦ λ n. refl
      | false ↦ λ n. let z : a ≡ b = omega (arith, n tt) in z
    ]) (nltb→le a b)

-- `top` is above the numbers that were met, and those of `rest` are still to come: the least number above all of k.
abbrev pub Above : ℕ → List ℕ → List ℕ → Type 0
Above top rest k = above k ≡ larger top (above rest)

pub above-start : (k : List ℕ) → Above 0 k k
above-start k = sym (larger_right 0 (above k) (omega arith))

-- One number is met.
pub above-met : (top r : ℕ) (rest k : List ℕ) → Above top (r ∷ rest) k → Above (cond (ltb r top) top (suc r)) rest k
above-met top r rest k h =
    h ∙ (elim (ltb r (above rest)) as (λ e. (T e → r < above rest) → (T (not e) → above rest ≤ r)
    → larger top (cond e (above rest) (suc r)) ≡ larger (cond (ltb r top) top (suc r)) (above rest)) [
      | true ↦ λ y n. (elim (ltb r top) as (λ d. (T (not d) → top ≤ r) → larger top (above rest) ≡ larger (cond d top (suc r)) (above rest)) [
        | true ↦ λ m. refl
        | false ↦ λ m. larger_right top (above rest) (omega (arith, y tt, m tt)) ∙ sym (larger_right (suc r) (above rest) (omega (arith, y tt)))
      ]) (nltb→le r top)
      | false ↦ λ y n. (elim (ltb r top) as (λ d. (T d → r < top) → (T (not d) → top ≤ r) → larger top (suc r) ≡ larger (cond d top (suc r)) (above rest)) [
        | true ↦ λ x m. larger_left top (suc r) (omega (arith, x tt)) ∙ sym (larger_left top (above rest) (omega (arith, x tt, n tt)))
        | false ↦ λ x m. larger_right top (suc r) (omega (arith, m tt)) ∙ sym (larger_left (suc r) (above rest) (omega (arith, n tt)))
      ]) (ltb→lt r top) (nltb→le r top)
    ]) (ltb→lt r (above rest)) (nltb→le r (above rest))

-- All are met.
pub above_end : (top : ℕ) (k : List ℕ) → Above top [] k → above k ≡ top
above_end top k h = h ∙ larger_left top 0 (omega arith)

-- ---- the test for gaps

or_false : (b : Bool) → (b || false) ≡ b
or_false true = refl
or_false false = refl

-- When nothing is left to mark, the flags tell what is held.
pub marks_end : (m k : List ℕ) → Marked m [] k → Marks m k
marks_end m k h = record { tells = λ c l. sym (or_false (eqb (get_or m c 0) 1)) ∙ h.tells c l }

-- The first flags are all set where all lower numbers are held.
marked-full : (b : ℕ) (m k : List ℕ) → b ≤ length m → Marks m k → marked b m ≡ full b k
marked-full zero m k l h = refl
marked-full (suc b) m k l h = ap₂ (λ x y. x && y) (h.tells b (omega arith)) (marked-full b m k (omega arith) h)

-- So the flags below the least number above all tell whether there is no gap.
pub gaps_told : (m k : List ℕ) (top : ℕ) → top ≤ length m → Marked m [] k → Above top [] k → no_gaps k k ≡ marked top m
gaps_told m k top l h a = no_gaps_full k ∙ ap (λ b. full b k) (above_end top k a) ∙ sym (marked-full top m k l (marks_end m k h))

-- One flag that is not set among them is enough.
pub unset_below : (j top : ℕ) (m : List ℕ) → j < top → eqb (get_or m j 0) 1 ≡ false → marked top m ≡ false
unset_below j zero m h e = absurd (omega arith)
unset_below j (suc b) m h e =
    (elim (eqb j b) as (λ d. (T d → j ≡ b) → (T (not d) → j ≡ b → ⊥) → (eqb (get_or m b 0) 1 && marked b m) ≡ false) [
      | true ↦ λ y n. ap (λ x. x && marked b m) (sym (ap (λ k. eqb (get_or m k 0) 1) (y tt)) ∙ e)
      | false ↦ λ y n. and-false (eqb (get_or m b 0) 1) (marked b m) (unset_below j b m (apart_below (n tt)) e)
    ]) (eqb→eq j b) (λ t q. T_not (eqb j b) t (subst (λ k. T (eqb j k)) q (holds (eqb j j) (eqb_self j))))
  where
    apart_below : (j ≡ b → ⊥) → j < b
    apart_below n = below_or (ltb j b) refl
      where
        below_or : (d : Bool) → ltb j b ≡ d → j < b
        below_or true q = ltb→lt j b (subst T (sym q) tt)
        below_or false q = absurd (n (omega (arith, nltb→le j b (subst (λ x. T (not x)) (sym q) tt))))
