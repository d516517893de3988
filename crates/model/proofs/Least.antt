-- Demand 3, second half: no shorter list of events, of any kind, takes a following reader to the new table and leaves it following. Assumes nothing.
use mathlib.Core.Path.{◌≡◌, refl}
use mathlib.Core.Bool.{true, false, not, cond}
use mathlib.Core.List.{List, [], ◌∷◌, map}
use Prim.Native.Nat.{ℕ, zero, suc, ◌+◌, ◌≤◌, ◌<◌}
use native.Mathlib.Omega.{arith}
use lib.Dec.{T, leb, leb→le, nleb→lt, eqb}
use lib.IntN.{ℤ}
use lib.ListN.{length, get_or, set, length-map}
use borrow.Author.Tests.{eqb-false}
use Rattle.model.proofs.Lost.{never_follows}
use Rattle.model.proofs.Count.{one_unless_le, slots_split, slots_have_numbers, changed_numbers_self, event-count}
use Rattle.model.specs.Numbers.{eq_z}
use Rattle.model.specs.Panel.{Panel}
use Rattle.model.specs.Table.{Slot, Table, ids_differ}
use Rattle.model.specs.Events.{Event, Act, skip, bad, report, loss, slot, number, classify}
use Rattle.model.specs.Reader.{following, follow, reported, on_slot, steps, read}
use Rattle.model.specs.Sending.{events_sent, same_slot, changed_in, changed_numbers, changed_others, fewest}

-- ---- what one act can do

in_set : (s : Slot) (i : ℕ) (x : ℤ) (new : Slot) → changed_in s new ≤ suc (changed_in (set s i x) new)
in_set [] i x new = omega arith
in_set (y ∷ s) zero x [] = omega arith
in_set (y ∷ s) (suc i) x [] = omega arith
in_set (y ∷ s) zero x (v ∷ new) = omega (arith, one_unless_le (eq_z y v))
in_set (y ∷ s) (suc i) x (v ∷ new) = omega (arith, in_set s i x new)

-- A number set takes one changed number away at most.
numbers-set : (p : Table) (c i : ℕ) (x : ℤ) (new : Table) → changed_numbers p new ≤ suc (changed_numbers (on_slot p c (λ s. set s i x)) new)
numbers-set [] c i x new = omega arith
numbers-set (s ∷ p) zero i x [] = omega arith
numbers-set (s ∷ p) (suc c) i x [] = omega arith
numbers-set (s ∷ p) zero i x (v ∷ new) = omega (arith, in_set s i x v)
numbers-set (s ∷ p) (suc c) i x (v ∷ new) = omega (arith, numbers-set p c i x new)

-- It changes no other slot.
others-set : (p : Table) (c : ℕ) (f : Slot → Slot) (new : Table) → changed_others c (on_slot p c f) new ≡ changed_others c p new
others-set [] c f new = refl
others-set (s ∷ p) zero f [] = refl
others-set (s ∷ p) (suc c) f [] = refl
others-set (s ∷ p) zero f (v ∷ new) = refl
others-set (s ∷ p) (suc c) f (v ∷ new) = omega (arith, others-set p c f new)

-- ---- any list of acts

abbrev need : ℕ → Table → Table → ℕ
need c p new = 1 + changed_numbers p new + changed_others c p new

need_self : (c : ℕ) (p new : Table) → p ≡ new → need c p new ≡ 1
need_self c p new e = rw e (omega (arith, changed_numbers_self new, slots_split c new new, slots_have_numbers new new))

least_acts : (new : Table) (xs : List Act) (s p : Table) (c : ℕ) → (s ≡ new → ⊥) → (steps (follow s p c) xs).mode ≡ following → (steps (follow s p c) xs).shown ≡ new → need c p new ≤ length xs
least_acts new [] s p c ne m e = absurd (ne e)
least_acts new (skip w t k ∷ xs) s p c ne m e = omega (arith, least_acts new xs s p c ne m e)
least_acts new (bad ∷ xs) s p c ne m e = absurd (never_follows _ xs tt m)
least_acts new (loss ∷ xs) s p c ne m e = absurd (never_follows _ xs tt m)
least_acts new (slot k ∷ xs) s p c ne m e =
    omega (arith, least_acts new xs s p k ne m e, slots_split c p new, slots_split k p new, one_unless_le (same_slot (get_or p k []) (get_or new k [])))
least_acts new (number i v ∷ xs) s p c ne m e =
    omega (arith, least_acts new xs s (on_slot p c (λ x. set x i v)) c ne m e, numbers-set p c i v new, others-set p c (λ x. set x i v) new)
least_acts new (report ∷ xs) s p c ne m e =
    (elim (ids_differ p) as (λ b. (steps (reported b (follow s p c)) xs).mode ≡ following → (steps (reported b (follow s p c)) xs).shown ≡ new → need c p new ≤ suc (length xs)) [
      | true ↦ λ m' e'.
          (elim (leb (need c p new) 1) as (λ b. (T b → need c p new ≤ 1) → (T (not b) → 1 < need c p new) → need c p new ≤ suc (length xs)) [
            | true ↦ λ y n. omega (arith, y tt)
            | false ↦ λ y n. omega (arith, least_acts new xs p p c (λ q. omega (arith, need_self c p new q, n tt)) m' e')
          ]) (leb→le (need c p new) 1) (nleb→lt (need c p new) 1)
      | false ↦ λ m' e'. absurd (never_follows _ xs tt m')
    ]) m e

-- ---- the theorem

-- Any list of events that takes a following reader with nothing pending from the old table to the new one and leaves it following has `fewest` events at least.
pub least : (p : Panel) (c : ℕ) (old new : Table) (es : List Event)
    → (read p (follow old old c) es).mode ≡ following → (read p (follow old old c) es).shown ≡ new
    → fewest c old new ≤ length es
least p c old new es m e =
    (elim (eqb (changed_numbers old new) 0) as (λ b. eqb (changed_numbers old new) 0 ≡ b → cond b 0 (need c old new) ≤ length es) [
      | true ↦ λ q. omega arith
      | false ↦ λ q. omega (arith, least_acts new (map (classify p) es) old old c (λ s. eqb-false (changed_numbers old new) 0 q (rw s (changed_numbers_self new))) m e, length-map es (classify p))
    ]) refl

-- The writer's list is a shortest one.
pub shortest : (p : Panel) (c : ℕ) (old new : Table) (es : List Event)
    → (read p (follow old old c) es).mode ≡ following → (read p (follow old old c) es).shown ≡ new
    → length (events_sent p c old new) ≤ length es
shortest p c old new es m e = omega (arith, event-count p c old new, least p c old new es m e)
