-- A frame in which nothing begins or ends leaves the ranks (K6) as they were. Cited by Pointing. Assumes nothing.
use mathlib.Core.Path.{◌≡◌, refl, sym, ap, ap₂, ◌∙◌, subst}
use mathlib.Core.Bool.{Bool, true, false, not, cond, ◌&&◌, ◌||◌}
use mathlib.Core.List.{List, [], ◌∷◌}
use Prim.Native.Nat.{ℕ, zero, suc, ◌<◌}
use native.Mathlib.Omega.{arith}
use lib.Dec.{T, eqb, eqb→eq, T_not}
use lib.IntN.{ℤ, pos}
use lib.ListN.{length, get_or, length-map}
use Rattle.model.proofs.Bools.{is_true, both_left, both_right, eq_z→eq, eq_z-refl}
use Rattle.model.proofs.Ids.{fated, free_id_free}
use Rattle.model.proofs.Ranks.{Goes, goes, length-fates}
use Rattle.model.specs.Numbers.{eq_z, minus_one}
use Rattle.model.specs.Panel.{id_count}
use Rattle.model.specs.Table.{Table, id_of, live, unheld, ids}
use Rattle.model.specs.Frame.{kind_of, Fate, none, goes_on, begins, fate, free_id, planned}
use Rattle.model.specs.Ranks.{among, held_below, full, no_gaps, live_ranks, zero_unused, good_ranks, above, fates, ages, rerank, ranks_after}

-- No contact began, and none ended.
abbrev pub Kept : List Fate → List ℤ → Type 0
Kept [] l = Unit {0}
Kept (a ∷ fs) [] = Unit {0}
Kept (none ∷ fs) (v ∷ l) = (v ≡ minus_one) × Kept fs l
Kept (goes_on ∷ fs) (v ∷ l) = T (live v) × Kept fs l
Kept (begins ∷ fs) (v ∷ l) = ⊥

pub full_all : (r : ℕ) (k : List ℕ) → T (full r k) → held_below r k ≡ r
full_all zero k t = refl
full_all (suc b) k t = rw (is_true (among b k) (both_left (among b k) (full b k) t)) (ap suc (full_all b k (both_right (among b k) (full b k) t)))

ages-kept : (top : ℕ) (fs : List Fate) (l : List ℤ) (rs : List ℕ) → length fs ≡ length l → Kept fs l → ages top fs rs ≡ live_ranks l rs
ages-kept top [] [] rs e s = refl
ages-kept top [] (v ∷ l) rs e s = absurd (omega arith)
ages-kept top (a ∷ fs) [] rs e s = absurd (omega arith)
ages-kept top (a ∷ fs) (v ∷ l) [] e s = refl
ages-kept top (none ∷ fs) (v ∷ l) (r ∷ rs) e s = rw s.0 (ages-kept top fs l rs (omega arith) s.1)
ages-kept top (goes_on ∷ fs) (v ∷ l) (r ∷ rs) e s = rw (is_true (live v) s.0) (ap {B = List ℕ} (λ m. r ∷ m) (ages-kept top fs l rs (omega arith) s.1))
ages-kept top (begins ∷ fs) (v ∷ l) (r ∷ rs) e s = absurd s

rerank-kept : (k : List ℕ) (top : ℕ) (fs : List Fate) (l : List ℤ) (rs : List ℕ) → length fs ≡ length l → Kept fs l → T (zero_unused l rs) → T (no_gaps (live_ranks l rs) k)
    → rerank (λ b. held_below b k) top fs rs ≡ rs
rerank-kept k top [] [] [] e s z g = refl
rerank-kept k top [] [] (r ∷ rs) e s z g = absurd z
rerank-kept k top [] (v ∷ l) rs e s z g = absurd (omega arith)
rerank-kept k top (a ∷ fs) [] rs e s z g = absurd (omega arith)
rerank-kept k top (a ∷ fs) (v ∷ l) [] e s z g = absurd z
rerank-kept k top (none ∷ fs) (v ∷ l) (r ∷ rs) e s z g =
    let u : T (eqb r 0 && zero_unused l rs) = rw s.0 at z in
    let h : T (no_gaps (live_ranks l rs) k) = rw s.0 at g in
    ap₂ {C = List ℕ} (λ x y. x ∷ y) (sym (eqb→eq r 0 (both_left (eqb r 0) (zero_unused l rs) u)))
    (rerank-kept k top fs l rs (omega arith) s.1 (both_right (eqb r 0) (zero_unused l rs) u) h)
rerank-kept k top (goes_on ∷ fs) (v ∷ l) (r ∷ rs) e s z g =
    let h : T (full r k && no_gaps (live_ranks l rs) k) = rw (is_true (live v) s.0) at g in
    ap₂ {C = List ℕ} (λ x y. x ∷ y) (full_all r k (both_left (full r k) (no_gaps (live_ranks l rs) k) h))
    (rerank-kept k top fs l rs (omega arith) s.1 (both_right (live v || eqb r 0) (zero_unused l rs) z) (both_right (full r k) (no_gaps (live_ranks l rs) k) h))
rerank-kept k top (begins ∷ fs) (v ∷ l) (r ∷ rs) e s z g = absurd s

pub ranks_stay : (fr : List (List ℤ)) (t : Table) (rs : List ℕ) → Kept (fates fr t) (ids t) → T (good_ranks (ids t) rs) → ranks_after (fates fr t) rs ≡ rs
ranks_stay fr t rs s g =
    let l = ids t in
    let n : length (fates fr t) ≡ length l = length-fates fr t ∙ sym (length-map t id_of) in
    rw (ages-kept (above rs) (fates fr t) l rs n s)
    (rerank-kept (live_ranks l rs) (above rs) (fates fr t) l rs n s (both_left (zero_unused l rs) _ g) (both_right (zero_unused l rs) _ g))

tail : List ℤ → List ℤ
tail [] = []
tail (v ∷ l) = l

-- A beginning contact's id is not the slot's old one.
pub new_id : (taken : List ℤ) (c : ℕ) (v : ℤ) (l : List ℤ) → c < id_count → length taken < id_count → ((w : ℤ) → T (unheld w taken) → T (unheld w (v ∷ l)))
    → pos (free_id taken c) ≡ v → ⊥
new_id taken c v l q z H e =
    T_not (eq_z (pos (free_id taken c)) v)
    (both_left (not (eq_z (pos (free_id taken c)) v)) (unheld (pos (free_id taken c)) l) (H (pos (free_id taken c)) (free_id_free taken c q z)))
    (subst (λ w. T (eq_z (pos (free_id taken c)) w)) e (eq_z-refl (pos (free_id taken c))))

-- The same ids after a frame: nothing began or ended.
pub ids-kept : (taken : List ℤ) (c : ℕ) (fr : List (List ℤ)) (t : Table) → c < id_count → length taken < id_count
    → ((v : ℤ) → T (unheld v taken) → T (unheld v (ids t))) → ids (planned taken c fr t).table ≡ ids t → Kept (fates fr t) (ids t)
unfolding tail
ids-kept taken c [] [] q z H e = tt
ids-kept taken c [] (s ∷ t) q z H e =
    let more = ids-kept taken c [] t q z (λ w u. both_right (not (eq_z w (id_of s))) (unheld w (ids t)) (H w u)) refl in
    (elim (live (id_of s)) as (λ b. (T b → T (live (id_of s))) → (T (not b) → id_of s ≡ minus_one) → Kept (cond b goes_on none ∷ fates [] t) (id_of s ∷ ids t)) [
      | true ↦ λ y n. (y tt, more)
      | false ↦ λ y n. (n tt, more)
    ]) (λ x. x) (dead (id_of s))
  where
    dead : (v : ℤ) → T (not (live v)) → v ≡ minus_one
    dead v n = eq_z→eq v minus_one (twice (eq_z v minus_one) n)
      where
        twice : (b : Bool) → T (not (not b)) → T b
        twice true n = tt
        twice false n = n
ids-kept taken c (g ∷ fr) [] q z H e = tt
ids-kept taken c (g ∷ fr) (s ∷ t) q z H e =
    let H' : (w : ℤ) → T (unheld w taken) → T (unheld w (ids t)) = λ w u. both_right (not (eq_z w (id_of s))) (unheld w (ids t)) (H w u) in
    (elim (fate (kind_of g) (id_of s)) as (λ a. Goes a (id_of s) → ids (fated a taken c g fr s t) ≡ id_of s ∷ ids t → Kept (a ∷ fates fr t) (id_of s ∷ ids t)) [
      | none ↦ λ y d. (sym (ap (λ m. get_or m 0 minus_one) d), ids-kept taken c fr t q z H' (ap tail d))
      | goes_on ↦ λ y d. (y, ids-kept taken c fr t q z H' (ap tail d))
      | begins ↦ λ y d. new_id taken c (id_of s) (ids t) q z H (ap (λ m. get_or m 0 minus_one) d)
    ]) (goes (kind_of g) (id_of s)) e
