-- The contact that X and Y follow (K6), by ids and ranks: it is live and of rank 0, and every live one in a lower slot began later. Cited by Pointing. Assumes nothing.
use mathlib.Core.Path.{◌≡◌, refl, sym, ap, subst}
use mathlib.Core.Bool.{Bool, true, false, not, cond, ◌&&◌, ◌||◌}
use mathlib.Core.List.{List, [], ◌∷◌}
use Prim.Native.Nat.{ℕ, zero, suc, ◌≤◌, ◌<◌}
use native.Mathlib.Omega.{arith}
use lib.Dec.{T, eqb, eqb→eq, eqb-zero-suc}
use lib.IntN.{ℤ}
use lib.ListN.{length, get_or}
use Rattle.model.proofs.Bools.{both_left, both_right}
use Rattle.model.proofs.Ranks.{length-ranks}
use Rattle.model.proofs.RanksOrder.{held-step}
use Rattle.model.proofs.RanksKept.{full_all}
use Rattle.model.specs.Numbers.{minus_one}
use Rattle.model.specs.Table.{live}
use Rattle.model.specs.Ranks.{among, one_more_if, held_below, full, no_gaps, live_ranks, zero_unused, good_ranks, live_count}
use Rattle.model.specs.Pointer.{oldest_slot}

-- ---- a live contact's rank is below the number of live contacts

held_cons : (x : ℕ) (k : List ℕ) (b : ℕ) → (held_below b (x ∷ k) ≤ suc (held_below b k)) × (b ≤ x → held_below b (x ∷ k) ≡ held_below b k)
held_cons x k zero = (omega arith, λ l. refl)
held_cons x k (suc b) =
    let h = held_cons x k b in
    (elim (eqb b x) as (λ e. (T e → b ≡ x)
    → (one_more_if (e || among b k) (held_below b (x ∷ k)) ≤ suc (one_more_if (among b k) (held_below b k))) × (suc b ≤ x → one_more_if (e || among b k) (held_below b (x ∷ k)) ≡ one_more_if (among b k) (held_below b k))) [
      | true ↦ λ y. (omega (arith, h.1 (omega (arith, y tt)), one_more_if_le (among b k) (held_below b k)), λ l. absurd (omega (arith, y tt)))
      | false ↦ λ y. (one_more_if_mono (among b k) (held_below b (x ∷ k)) (held_below b k) h.0, λ l. ap (one_more_if (among b k)) (h.1 (omega arith)))
    ]) (eqb→eq b x)
  where
    one_more_if_le : (e : Bool) (n : ℕ) → n ≤ one_more_if e n
    one_more_if_le true n = omega arith
    one_more_if_le false n = omega arith

    one_more_if_mono : (e : Bool) (m n : ℕ) → m ≤ suc n → one_more_if e m ≤ suc (one_more_if e n)
    one_more_if_mono true m n l = omega arith
    one_more_if_mono false m n l = l

held-length : (k : List ℕ) (b : ℕ) → held_below b k ≤ length k
held-length [] zero = omega arith
held-length [] (suc b) = held-length [] b
held-length (x ∷ k) b = omega (arith, (held_cons x k b).0, held-length k b)

pub no_gaps_at : (j k : List ℕ) (r : ℕ) → T (no_gaps j k) → T (among r j) → T (full r k)
no_gaps_at [] k r g t = absurd t
no_gaps_at (s ∷ j) k r g t =
    (elim (eqb r s) as (λ e. (T e → r ≡ s) → T (e || among r j) → T (full r k)) [
      | true ↦ λ e u. subst (λ z. T (full z k)) (sym (e tt)) (both_left (full s k) (no_gaps j k) g)
      | false ↦ λ e u. no_gaps_at j k r (both_right (full s k) (no_gaps j k) g) u
    ]) (eqb→eq r s) t

pub rank_below : (l : List ℤ) (rs : List ℕ) (r : ℕ) → T (good_ranks l rs) → T (among r (live_ranks l rs)) → r < length (live_ranks l rs)
rank_below l rs r g t =
    let k = live_ranks l rs in
    omega (arith, held-length k (suc r), held-step k r t, full_all r k (no_gaps_at k k r (both_right (zero_unused l rs) (no_gaps k k) g) t))

pub length-live : (l : List ℤ) (rs : List ℕ) → length rs ≡ length l → length (live_ranks l rs) ≡ live_count l
length-live [] rs e = refl
length-live (v ∷ l) [] e = absurd (omega arith)
length-live (v ∷ l) (r ∷ rs) e =
    elim (live v) as (λ b. length (cond b (r ∷ live_ranks l rs) (live_ranks l rs)) ≡ one_more_if b (live_count l)) [
      | true ↦ ap suc (length-live l rs (omega arith))
      | false ↦ length-live l rs (omega arith)
    ]

-- ---- the oldest contact

full-zero : (b : ℕ) (k : List ℕ) → T (full (suc b) k) → T (among 0 k)
full-zero zero k t = both_left (among 0 k) true t
full-zero (suc b) k t = full-zero b k (both_right (among (suc b) k) (full (suc b) k) t)

zero-among : (j k : List ℕ) → T (no_gaps j k) → 0 < length j → ((r : ℕ) → T (among r j) → T (among r k)) → T (among 0 k)
zero-among [] k g l H = absurd (omega arith)
zero-among (zero ∷ j) k g l H = H 0 tt
zero-among (suc b ∷ j) k g l H = full-zero b k (both_left (full (suc b) k) (no_gaps j k) g)

oldest_below : (l : List ℤ) (rs : List ℕ) → T (among 0 (live_ranks l rs)) → oldest_slot l rs < length l
oldest_below [] rs t = absurd t
oldest_below (v ∷ l) [] t = absurd t
oldest_below (v ∷ l) (r ∷ rs) t =
    (elim (live v) as (λ b. T (among 0 (cond b (r ∷ live_ranks l rs) (live_ranks l rs))) → cond (b && eqb r 0) 0 (suc (oldest_slot l rs)) < suc (length l)) [
      | true ↦ λ u. (elim (eqb r 0) as (λ e. (T (not e) → T (not (eqb r 0))) → cond e 0 (suc (oldest_slot l rs)) < suc (length l)) [
        | true ↦ λ n. omega arith
        | false ↦ λ n. omega (arith, oldest_below l rs (tail_zero r (live_ranks l rs) (n tt) u))
      ]) (λ t. t)
      | false ↦ λ u. omega (arith, oldest_below l rs u)
    ]) t
  where
    tail_zero : (r : ℕ) (k : List ℕ) → T (not (eqb r 0)) → T (among 0 (r ∷ k)) → T (among 0 k)
    tail_zero zero k n t = absurd n
    tail_zero (suc r) k n t = rw (eqb-zero-suc r) at t

-- If a contact is live, the oldest one is there.
pub oldest_there : (l : List ℤ) (rs : List ℕ) → T (good_ranks l rs) → 0 < live_count l → oldest_slot l rs < length l
oldest_there l rs g p =
    let k = live_ranks l rs in
    oldest_below l rs (zero-among k k (both_right (zero_unused l rs) (no_gaps k k) g) (omega (arith, length-live l rs (length-ranks l rs (both_left (zero_unused l rs) (no_gaps k k) g)))) (λ r t. t))

-- It is live and of rank 0.
pub oldest_is : (l : List ℤ) (rs : List ℕ) → oldest_slot l rs < length l → length rs ≡ length l
    → T (live (get_or l (oldest_slot l rs) minus_one)) × (get_or rs (oldest_slot l rs) 0 ≡ 0)
oldest_is [] rs p e = absurd (omega arith)
oldest_is (v ∷ l) [] p e = absurd (omega arith)
oldest_is (v ∷ l) (r ∷ rs) p e =
    (elim (live v && eqb r 0) as (λ b. (T b → T (live v && eqb r 0)) → cond b 0 (suc (oldest_slot l rs)) < suc (length l)
    → T (live (get_or (v ∷ l) (cond b 0 (suc (oldest_slot l rs))) minus_one)) × (get_or (r ∷ rs) (cond b 0 (suc (oldest_slot l rs))) 0 ≡ 0)) [
      | true ↦ λ y q. (both_left (live v) (eqb r 0) (y tt), eqb→eq r 0 (both_right (live v) (eqb r 0) (y tt)))
      | false ↦ λ y q. oldest_is l rs (omega arith) (omega arith)
    ]) (λ t. t) p

-- Every live contact in a lower slot began later.
pub oldest_first : (l : List ℤ) (rs : List ℕ) (j : ℕ) → length rs ≡ length l → j < oldest_slot l rs → T (live (get_or l j minus_one)) → 0 < get_or rs j 0
oldest_first [] rs j e p t = absurd (omega arith)
oldest_first (v ∷ l) [] j e p t = absurd (omega arith)
oldest_first (v ∷ l) (r ∷ rs) zero e p t =
    (elim (live v) as (λ b. T b → 0 < cond (b && eqb r 0) 0 (suc (oldest_slot l rs)) → 0 < r) [
      | true ↦ λ u q. pos_rank r (oldest_slot l rs) q
      | false ↦ λ u q. absurd u
    ]) t p
  where
    pos_rank : (r m : ℕ) → 0 < cond (eqb r 0) 0 (suc m) → 0 < r
    pos_rank zero m q = absurd (omega arith)
    pos_rank (suc r) m q = omega arith
oldest_first (v ∷ l) (r ∷ rs) (suc j) e p t =
    (elim (live v && eqb r 0) as (λ b. suc j < cond b 0 (suc (oldest_slot l rs)) → 0 < get_or rs j 0) [
      | true ↦ λ q. absurd (omega arith)
      | false ↦ λ q. oldest_first l rs j (omega arith) (omega arith) t
    ]) p
