-- Ranks by beginning (K6): a frame leaves them well formed. Cited by the other files on ranks and by Pointing. Assumes nothing.
use mathlib.Core.Path.{◌≡◌, refl, sym, ap, subst}
use mathlib.Core.Bool.{Bool, true, false, cond, ◌||◌}
use mathlib.Core.List.{List, [], ◌∷◌, map}
use Prim.Native.Nat.{ℕ, zero, suc}
use native.Mathlib.Omega.{arith}
use lib.Dec.{T, eqb, eqb→eq, eqb_refl}
use lib.IntN.{ℤ, pos}
use lib.ListN.{length}
use Rattle.model.proofs.Bools.{is_true, both, both_right}
use Rattle.model.proofs.Ids.{fated}
use Rattle.model.specs.Numbers.{eq_z}
use Rattle.model.specs.Table.{Table, id_of, live, ids}
use Rattle.model.specs.Frame.{kind_of, Fate, none, goes_on, begins, fate, free_id, next, planned}
use Rattle.model.specs.Ranks.{among, one_more_if, held_below, full, no_gaps, live_ranks, zero_unused, good_ranks, above, fates, ages, rerank, ranks_after}

-- Brought in so that the sheet is checked before any law: a wrong definition then fails at a row of it, by computing.

pub eqb_self : (n : ℕ) → eqb n n ≡ true
eqb_self n = is_true (eqb n n) (eqb_refl n)

pub or_right : (a b : Bool) → T b → T (a || b)
or_right true b t = tt
or_right false b t = t

-- ---- fates

-- Only a live contact goes on.
abbrev pub Goes : Fate → ℤ → Type 0
Goes none v = Unit {0}
Goes goes_on v = T (live v)
Goes begins v = Unit {0}

pub goes : (kind v : ℤ) → Goes (fate kind v) v
goes kind v =
    elim (eq_z kind (pos 0)) as (λ a. Goes (cond a none (cond (eq_z kind (pos 2)) begins (cond (live v) goes_on begins))) v) [
      | true ↦ tt
      | false ↦ elim (eq_z kind (pos 2)) as (λ b. Goes (cond b begins (cond (live v) goes_on begins)) v) [
        | true ↦ tt
        | false ↦ (elim (live v) as (λ c. (T c → T (live v)) → Goes (cond c goes_on begins) v) [
          | true ↦ λ y. y tt
          | false ↦ λ y. tt
        ]) (λ t. t)
      ]
    ]

pub length-fates : (fr : List (List ℤ)) (t : Table) → length (fates fr t) ≡ length t
length-fates [] [] = refl
length-fates [] (s ∷ t) = ap suc (length-fates [] t)
length-fates (g ∷ fr) [] = refl
length-fates (g ∷ fr) (s ∷ t) = ap suc (length-fates fr t)

-- ---- closing the gaps

among-map : (f : ℕ → ℕ) (b : ℕ) (k : List ℕ) → T (among b k) → T (among (f b) (map f k))
among-map f b [] t = t
among-map f b (r ∷ k) t =
    (elim (eqb b r) as (λ e. (T e → b ≡ r) → T (e || among b k) → T (eqb (f b) (f r) || among (f b) (map f k))) [
      | true ↦ λ e u. subst (λ z. T (eqb (f b) (f z) || among (f b) (map f k))) (e tt) (rw (eqb_self (f b)) tt)
      | false ↦ λ e u. or_right (eqb (f b) (f r)) (among (f b) (map f k)) (among-map f b k u)
    ]) (eqb→eq b r) t

full-held : (k : List ℕ) (b : ℕ) → T (full (held_below b k) (map (λ a. held_below a k) k))
full-held k zero = tt
full-held k (suc b) =
    (elim (among b k) as (λ e. (T e → T (among b k)) → T (full (one_more_if e (held_below b k)) (map (λ a. held_below a k) k))) [
      | true ↦ λ y. both (among (held_below b k) (map (λ a. held_below a k) k)) _ (among-map (λ a. held_below a k) b k (y tt)) (full-held k b)
      | false ↦ λ y. full-held k b
    ]) (λ t. t)

no_gaps_held : (k j : List ℕ) → T (no_gaps (map (λ a. held_below a k) j) (map (λ a. held_below a k) k))
no_gaps_held k [] = tt
no_gaps_held k (r ∷ j) = both (full (held_below r k) (map (λ a. held_below a k) k)) _ (full-held k r) (no_gaps_held k j)

-- The contacts that are live after a frame are those that go on or begin, and no other.
live-after : (f : ℕ → ℕ) (top : ℕ) (taken : List ℤ) (c : ℕ) (fr : List (List ℤ)) (t : Table) (rs : List ℕ)
    → live_ranks (ids (planned taken c fr t).table) (rerank f top (fates fr t) rs) ≡ map f (ages top (fates fr t) rs)
live-after f top taken c [] [] rs = refl
live-after f top taken c [] (s ∷ t) [] = refl
live-after f top taken c [] (s ∷ t) (r ∷ rs) =
    (elim (live (id_of s)) as (λ b. (live (id_of s) ≡ b) → live_ranks (id_of s ∷ ids t) (rerank f top (cond b goes_on none ∷ fates [] t) (r ∷ rs)) ≡ map f (ages top (cond b goes_on none ∷ fates [] t) (r ∷ rs))) [
      | true ↦ λ e. rw e (ap {B = List ℕ} (λ m. f r ∷ m) (live-after f top taken c [] t rs))
      | false ↦ λ e. rw e (live-after f top taken c [] t rs)
    ]) refl
live-after f top taken c (g ∷ fr) [] rs = refl
live-after f top taken c (g ∷ fr) (s ∷ t) [] = refl
live-after f top taken c (g ∷ fr) (s ∷ t) (r ∷ rs) =
    let j = free_id taken c in
    (elim (fate (kind_of g) (id_of s)) as (λ a. Goes a (id_of s) → live_ranks (ids (fated a taken c g fr s t)) (rerank f top (a ∷ fates fr t) (r ∷ rs)) ≡ map f (ages top (a ∷ fates fr t) (r ∷ rs))) [
      | none ↦ λ y. live-after f top taken c fr t rs
      | goes_on ↦ λ y. rw (is_true (live (id_of s)) y) (ap {B = List ℕ} (λ m. f r ∷ m) (live-after f top taken c fr t rs))
      | begins ↦ λ y. ap {B = List ℕ} (λ m. f top ∷ m) (live-after f top (pos j ∷ taken) (next j) fr t rs)
    ]) (goes (kind_of g) (id_of s))

zero-after : (f : ℕ → ℕ) (top : ℕ) (taken : List ℤ) (c : ℕ) (fr : List (List ℤ)) (t : Table) (rs : List ℕ) → length rs ≡ length t
    → T (zero_unused (ids (planned taken c fr t).table) (rerank f top (fates fr t) rs))
zero-after f top taken c [] [] rs e = tt
zero-after f top taken c [] (s ∷ t) [] e = absurd (omega arith)
zero-after f top taken c [] (s ∷ t) (r ∷ rs) e =
    (elim (live (id_of s)) as (λ b. (live (id_of s) ≡ b) → T (zero_unused (id_of s ∷ ids t) (rerank f top (cond b goes_on none ∷ fates [] t) (r ∷ rs)))) [
      | true ↦ λ y. rw y (zero-after f top taken c [] t rs (omega arith))
      | false ↦ λ y. rw y (zero-after f top taken c [] t rs (omega arith))
    ]) refl
zero-after f top taken c (g ∷ fr) [] rs e = tt
zero-after f top taken c (g ∷ fr) (s ∷ t) [] e = absurd (omega arith)
zero-after f top taken c (g ∷ fr) (s ∷ t) (r ∷ rs) e =
    let j = free_id taken c in
    (elim (fate (kind_of g) (id_of s)) as (λ a. Goes a (id_of s) → T (zero_unused (ids (fated a taken c g fr s t)) (rerank f top (a ∷ fates fr t) (r ∷ rs)))) [
      | none ↦ λ y. zero-after f top taken c fr t rs (omega arith)
      | goes_on ↦ λ y. rw (is_true (live (id_of s)) y) (zero-after f top taken c fr t rs (omega arith))
      | begins ↦ λ y. zero-after f top (pos j ∷ taken) (next j) fr t rs (omega arith)
    ]) (goes (kind_of g) (id_of s))

pub length-ranks : (l : List ℤ) (rs : List ℕ) → T (zero_unused l rs) → length rs ≡ length l
length-ranks [] [] t = refl
length-ranks [] (r ∷ rs) t = absurd t
length-ranks (v ∷ l) [] t = absurd t
length-ranks (v ∷ l) (r ∷ rs) t = ap suc (length-ranks l rs (both_right (live v || eqb r 0) (zero_unused l rs) t))

-- Ranks are well formed after any frame, whatever they were before, where there is one for each record.
pub ranks-good : (taken : List ℤ) (c : ℕ) (fr : List (List ℤ)) (t : Table) (rs : List ℕ) → length rs ≡ length t
    → T (good_ranks (ids (planned taken c fr t).table) (ranks_after (fates fr t) rs))
ranks-good taken c fr t rs e =
    let k = ages (above rs) (fates fr t) rs in
    both (zero_unused (ids (planned taken c fr t).table) (ranks_after (fates fr t) rs)) _
    (zero-after (λ b. held_below b k) (above rs) taken c fr t rs e)
    (subst (λ m. T (no_gaps m m)) (sym (live-after (λ b. held_below b k) (above rs) taken c fr t rs)) (no_gaps_held k k))
