-- For code that makes ranks (K6): each is below the number of records, so it may index an array, and that number may stand for those that begin. Assumes nothing.
use mathlib.Core.Path.{◌≡◌, refl, sym, ap, ap₂, ◌∙◌, subst}
use mathlib.Core.Bool.{Bool, true, false, cond, ◌||◌}
use mathlib.Core.List.{List, [], ◌∷◌}
use Prim.Native.Nat.{ℕ, zero, suc, ◌+◌, ◌-◌, ◌≤◌, ◌<◌}
use native.Mathlib.Omega.{arith}
use lib.Dec.{T, ltb, eqb, eqb→eq}
use lib.IntN.{ℤ}
use lib.ListN.{length}
use borrow.Author.Tests.{ne_eqb}
use Rattle.model.proofs.Bools.{both_left, both_right}
use Rattle.model.proofs.Ranks.{eqb_self, or_right, length-ranks}
use Rattle.model.proofs.RanksOrder.{above_all}
use Rattle.model.proofs.RanksOldest.{rank_below, length-live}
use Rattle.model.specs.Table.{live}
use Rattle.model.specs.Frame.{Fate, none, goes_on, begins}
use Rattle.model.specs.Ranks.{among, one_more_if, held_below, live_ranks, zero_unused, good_ranks, above, ages, ranked, rerank, ranks_after, live_count}

live_or_zero : (l : List ℤ) (rs : List ℕ) (r : ℕ) → T (zero_unused l rs) → T (among r rs) → T (eqb r 0 || among r (live_ranks l rs))
live_or_zero [] [] r z t = absurd t
live_or_zero [] (x ∷ rs) r z t = absurd z
live_or_zero (v ∷ l) [] r z t = absurd z
live_or_zero (v ∷ l) (x ∷ rs) r z t =
    let k = live_ranks l rs in
    let more = both_right (live v || eqb x 0) (zero_unused l rs) z in
    (elim (live v) as (λ b. T (b || eqb x 0) → T (eqb r 0 || among r (cond b (x ∷ k) k))) [
      | true ↦ λ u. (elim (eqb r x) as (λ e. T (e || among r rs) → T (eqb r 0 || (e || among r k))) [
        | true ↦ λ s. or_one (eqb r 0)
        | false ↦ λ s. live_or_zero l rs r more s
      ]) t
      | false ↦ λ u. (elim (eqb r x) as (λ e. (T e → r ≡ x) → T (e || among r rs) → T (eqb r 0 || among r k)) [
        | true ↦ λ e s. or_left (eqb r 0) (among r k) (subst (λ y. T (eqb y 0)) (sym (e tt)) u)
        | false ↦ λ e s. live_or_zero l rs r more s
      ]) (eqb→eq r x) t
    ]) (both_left (live v || eqb x 0) (zero_unused l rs) z)
  where
    or_one : (b : Bool) → T (b || true)
    or_one true = tt
    or_one false = tt

    or_left : (a b : Bool) → T a → T (a || b)
    or_left true b t = tt
    or_left false b t = absurd t

live_le : (l : List ℤ) → live_count l ≤ length l
live_le [] = omega arith
live_le (v ∷ l) =
    elim (live v) as (λ b. one_more_if b (live_count l) ≤ suc (length l)) [
      | true ↦ omega (arith, live_le l)
      | false ↦ omega (arith, live_le l)
    ]

-- Every well-formed rank, an unused record's too, is below the number of records.
pub rank_small : (l : List ℤ) (rs : List ℕ) (r : ℕ) → T (good_ranks l rs) → T (among r rs) → r < length rs
rank_small l [] r g t = absurd t
rank_small l (x ∷ rs) r g t =
    let zs = both_left (zero_unused l (x ∷ rs)) _ g in
    let n = length-ranks l (x ∷ rs) zs in
    (elim (eqb r 0) as (λ e. (T e → r ≡ 0) → T (e || among r (live_ranks l (x ∷ rs))) → r < suc (length rs)) [
      | true ↦ λ e s. omega (arith, e tt)
      | false ↦ λ e s. omega (arith, rank_below l (x ∷ rs) r g s, length-live l (x ∷ rs) n, live_le l)
    ]) (eqb→eq r 0) (live_or_zero l (x ∷ rs) r zs t)

above_le : (k : List ℕ) (n : ℕ) → ((r : ℕ) → T (among r k) → r < n) → above k ≤ n
above_le [] n H = omega arith
above_le (x ∷ k) n H =
    let here = H x (rw (eqb_self x) tt) in
    elim (ltb x (above k)) as (λ b. cond b (above k) (suc x) ≤ n) [
      | true ↦ above_le k n (λ r t. H r (or_right (eqb r x) (among r k) t))
      | false ↦ here
    ]

-- Below both numbers the ages are the same.
same-among : (a b c : ℕ) (fs : List Fate) (rs : List ℕ) → c < a → c < b → among c (ages a fs rs) ≡ among c (ages b fs rs)
same-among a b c [] rs p q = refl
same-among a b c (f ∷ fs) [] p q = refl
same-among a b c (none ∷ fs) (r ∷ rs) p q = same-among a b c fs rs p q
same-among a b c (goes_on ∷ fs) (r ∷ rs) p q = ap (λ t. eqb c r || t) (same-among a b c fs rs p q)
same-among a b c (begins ∷ fs) (r ∷ rs) p q = rw (ne_eqb c a (λ e. omega arith), ne_eqb c b (λ e. omega arith)) (same-among a b c fs rs p q)

same-below : (a b c : ℕ) (fs : List Fate) (rs : List ℕ) → c ≤ a → c ≤ b → held_below c (ages a fs rs) ≡ held_below c (ages b fs rs)
same-below a b zero fs rs p q = refl
same-below a b (suc c) fs rs p q = ap₂ one_more_if (same-among a b c fs rs (omega arith) (omega arith)) (same-below a b c fs rs (omega arith) (omega arith))

-- No age lies between those that go on and those that begin.
none-among : (a b c : ℕ) (fs : List Fate) (rs : List ℕ) → ((r : ℕ) → T (among r rs) → r < a) → a ≤ c → c < b → among c (ages b fs rs) ≡ false
none-among a b c [] rs H p q = refl
none-among a b c (f ∷ fs) [] H p q = refl
none-among a b c (none ∷ fs) (r ∷ rs) H p q = none-among a b c fs rs (λ x t. H x (or_right (eqb x r) (among x rs) t)) p q
none-among a b c (goes_on ∷ fs) (r ∷ rs) H p q =
    let here = H r (rw (eqb_self r) tt) in
    rw (ne_eqb c r (λ e. omega arith)) (none-among a b c fs rs (λ x t. H x (or_right (eqb x r) (among x rs) t)) p q)
none-among a b c (begins ∷ fs) (r ∷ rs) H p q = rw (ne_eqb c b (λ e. omega arith)) (none-among a b c fs rs (λ x t. H x (or_right (eqb x r) (among x rs) t)) p q)

held-flat : (a b : ℕ) (fs : List Fate) (rs : List ℕ) (d : ℕ) → ((r : ℕ) → T (among r rs) → r < a) → a + d ≤ b
    → held_below (a + d) (ages b fs rs) ≡ held_below a (ages b fs rs)
held-flat a b fs rs zero H p = let z : a + 0 ≡ a = omega arith in rw z
held-flat a b fs rs (suc d) H p =
    let z : a + suc d ≡ suc (a + d) = omega arith in
    rw (z, none-among a b (a + d) fs rs H (omega arith) (omega arith)) (held-flat a b fs rs d H (omega arith))

ranked-same : (f g : ℕ → ℕ) (a b : ℕ) (x : Fate) (r : ℕ) → f r ≡ g r → f a ≡ g b → ranked f a x r ≡ ranked g b x r
ranked-same f g a b none r h e = refl
ranked-same f g a b goes_on r h e = h
ranked-same f g a b begins r h e = e

rerank-same : (f g : ℕ → ℕ) (a b : ℕ) (fs : List Fate) (rs : List ℕ) → ((r : ℕ) → T (among r rs) → f r ≡ g r) → f a ≡ g b → rerank f a fs rs ≡ rerank g b fs rs
rerank-same f g a b [] rs H e = refl
rerank-same f g a b (x ∷ fs) [] H e = refl
rerank-same f g a b (x ∷ fs) (r ∷ rs) H e =
    ap₂ {C = List ℕ} (λ y m. y ∷ m) (ranked-same f g a b x r (H r (rw (eqb_self r) tt)) e) (rerank-same f g a b fs rs (λ y t. H y (or_right (eqb y r) (among y rs) t)) e)

-- Any number that is not below the ranks may stand for those that begin.
pub any_top : (top : ℕ) (fs : List Fate) (rs : List ℕ) → above rs ≤ top → rerank (λ b. held_below b (ages top fs rs)) top fs rs ≡ ranks_after fs rs
any_top top fs rs p =
    let a = above rs in
    let H : (r : ℕ) → T (among r rs) → r < a = λ r t. above_all rs r t in
    let d = top - a in
    let z : a + d ≡ top = omega arith in
    rerank-same (λ b. held_below b (ages top fs rs)) (λ b. held_below b (ages a fs rs)) top a fs rs
    (λ r t. same-below top a r fs rs (omega (arith, H r t)) (omega (arith, H r t)))
    (ap (λ n. held_below n (ages top fs rs)) (sym z) ∙ held-flat a top fs rs d H (omega arith) ∙ same-below top a a fs rs p (omega arith))

-- So the number of records may, where the ranks are well formed.
pub records_top : (l : List ℤ) (fs : List Fate) (rs : List ℕ) → T (good_ranks l rs)
    → rerank (λ b. held_below b (ages (length rs) fs rs)) (length rs) fs rs ≡ ranks_after fs rs
records_top l fs rs g = any_top (length rs) fs rs (above_le rs (length rs) (λ r t. rank_small l rs r g t))
