-- For code that marks ranks (K6) in an array of flags: which are held, how many below a number, all gaps tested at once, and ranks told slot by slot.
-- Assumes nothing.
use mathlib.Core.Path.{◌≡◌, refl, sym, ap, ap₂, ◌∙◌, subst}
use mathlib.Core.Bool.{Bool, true, false, not, cond, ◌&&◌, ◌||◌, or-true}
use mathlib.Core.List.{List, [], ◌∷◌}
use Prim.Native.Nat.{ℕ, zero, suc, ◌≤◌, ◌<◌}
use native.Mathlib.Omega.{arith}
use lib.Dec.{T, ltb, eqb, eqb→eq, ltb→lt, nltb→le}
use lib.IntN.{ℤ}
use lib.ListN.{length, get_or, set, replicate, length-set}
use lib.Seq.{get_or-set_same, get_or-set_other}
use borrow.Author.Tests.{ne_eqb, eqb-false}
use Rattle.model.proofs.Bools.{is_false, both, both_right}
use Rattle.model.proofs.Ranks.{eqb_self, or_right}
use Rattle.model.proofs.RanksOrder.{above_all, rank_at}
use Rattle.model.proofs.RanksOldest.{no_gaps_at}
use Rattle.model.proofs.RanksCode.{records_top}
use Rattle.model.specs.Table.{Table, id_of}
use Rattle.model.specs.Frame.{Fate, none}
use Rattle.model.specs.Ranks.{among, one_more_if, held_below, full, no_gaps, good_ranks, above, stays, fates, ages, ranked, rerank, ranks_after}

-- ---- marks

-- Flags m that, with the numbers that are still to be marked, tell which of the numbers below their length are in k.
pub record Marked (m rest k : List ℕ) : Type 0 where
  pub tells : (c : ℕ) → c < length m → (eqb (get_or m c 0) 1 || among c rest) ≡ among c k

zero-at : (n c : ℕ) → ◌≡◌ {A = ℕ} (get_or (replicate n 0) c 0) 0
zero-at zero c = refl
zero-at (suc n) zero = refl
zero-at (suc n) (suc c) = zero-at n c

-- At first none is.
pub marked_start : (n : ℕ) (k : List ℕ) → Marked (replicate n 0) k k
marked_start n k = record { tells = λ c l. ap (λ v. eqb v 1 || among c k) (zero-at n c) }

-- A contact that goes on: its old rank is marked.
pub marked_going : (m rest k : List ℕ) (r : ℕ) → r < length m → Marked m (r ∷ rest) k → Marked (set m r 1) rest k
marked_going m rest k r b h =
    record {
      tells = λ c l.
          let was = h.tells c (omega (arith, length-set m r 1)) in
          (elim (eqb c r) as (λ e. (T e → c ≡ r) → (T (not e) → eqb c r ≡ false) → (eqb (get_or m c 0) 1 || (e || among c rest)) ≡ among c k → (eqb (get_or (set m r 1) c 0) 1 || among c rest) ≡ among c k) [
            | true ↦ λ y n w.
                let one : get_or (set m r 1) c 0 ≡ 1 = ap (λ i. get_or (set m r 1) i 0) (y tt) ∙ get_or-set_same m r 1 0 b in
                ap (λ v. eqb v 1 || among c rest) one ∙ sym (or-true (eqb (get_or m c 0) 1)) ∙ w
            | false ↦ λ y n w. ap (λ v. eqb v 1 || among c rest) (get_or-set_other m r c 1 0 (eqb-false c r (n tt))) ∙ w
          ]) (eqb→eq c r) (is_false (eqb c r)) was;
    }

-- One that begins: its age is past the flags.
pub marked-begun : (m rest k : List ℕ) (top : ℕ) → length m ≤ top → Marked m (top ∷ rest) k → Marked m rest k
marked-begun m rest k top b h =
    record { tells = λ c l. sym (ap (λ e. eqb (get_or m c 0) 1 || (e || among c rest)) (ne_eqb c top (λ e. omega arith))) ∙ h.tells c l }

-- How many of the first b flags are 1.
abbrev pub marks_below : ℕ → List ℕ → ℕ
marks_below zero m = 0
marks_below (suc b) m = one_more_if (eqb (get_or m b 0) 1) (marks_below b m)

or_false : (b : Bool) → (b || false) ≡ b
or_false true = refl
or_false false = refl

-- When all are marked, that is how many different numbers below b are held.
pub marked_sum : (m k : List ℕ) (b : ℕ) → b ≤ length m → Marked m [] k → marks_below b m ≡ held_below b k
marked_sum m k zero l h = refl
marked_sum m k (suc b) l h =
    ap₂ one_more_if (sym (or_false (eqb (get_or m b 0) 1)) ∙ h.tells b (omega arith)) (marked_sum m k b (omega arith) h)

-- ---- all gaps at once

same_test : (a b : Bool) → (T a → T b) → (T b → T a) → a ≡ b
same_test true true f g = refl
same_test true false f g = absurd (f tt)
same_test false true f g = absurd (g tt)
same_test false false f g = refl

full-below : (a b : ℕ) (k : List ℕ) → a ≤ b → T (full b k) → T (full a k)
full-below a zero k l t = let z : a ≡ 0 = omega arith in subst (λ n. T (full n k)) (sym z) tt
full-below a (suc b) k l t =
    (elim (ltb b a) as (λ e. (T e → b < a) → (T (not e) → a ≤ b) → T (full a k)) [
      | true ↦ λ y n. let z : a ≡ suc b = omega (arith, y tt) in subst (λ n. T (full n k)) (sym z) t
      | false ↦ λ y n. full-below a b k (n tt) (both_right (among b k) (full b k) t)
    ]) (ltb→lt b a) (nltb→le b a)

all_full : (j k : List ℕ) → ((r : ℕ) → T (among r j) → T (full r k)) → T (no_gaps j k)
all_full [] k H = tt
all_full (r ∷ j) k H = both (full r k) (no_gaps j k) (H r (rw (eqb_self r) tt)) (all_full j k (λ s t. H s (or_right (eqb s r) (among s j) t)))

-- Where all numbers of j are in k, those below the least number above j are too.
above-full : (j k : List ℕ) → ((r : ℕ) → T (among r j) → T (among r k && full r k)) → T (full (above j) k)
above-full [] k H = tt
above-full (r ∷ j) k H =
    elim (ltb r (above j)) as (λ b. T (full (cond b (above j) (suc r)) k)) [
      | true ↦ above-full j k (λ s t. H s (or_right (eqb s r) (among s j) t))
      | false ↦ H r (rw (eqb_self r) tt)
    ]

-- Numbers have no gaps exactly where all below the least number above them are held: the marks are ones, and then zeros.
pub no_gaps_full : (k : List ℕ) → no_gaps k k ≡ full (above k) k
no_gaps_full k =
    same_test (no_gaps k k) (full (above k) k)
    (λ g. above-full k k (λ r t. both (among r k) (full r k) t (no_gaps_at k k r g t)))
    (λ t. all_full k k (λ r h. full-below r (above k) k (omega (arith, above_all k r h)) t))

-- ---- slot by slot

-- A record without a row.
pub fates-past : (fr : List (List ℤ)) (t : Table) (i : ℕ) → length fr ≤ i → i < length t → get_or (fates fr t) i none ≡ stays (id_of (get_or t i []))
fates-past [] [] i a b = absurd (omega arith)
fates-past [] (s ∷ t) zero a b = refl
fates-past [] (s ∷ t) (suc i) a b = fates-past [] t i (omega arith) (omega arith)
fates-past (g ∷ fr) [] i a b = absurd (omega arith)
fates-past (g ∷ fr) (s ∷ t) zero a b = absurd (omega arith)
fates-past (g ∷ fr) (s ∷ t) (suc i) a b = fates-past fr t i (omega arith) (omega arith)

list_is : (a b : List ℕ) → length a ≡ length b → ((i : ℕ) → i < length a → get_or a i 0 ≡ get_or b i 0) → a ≡ b
list_is [] [] e H = refl
list_is [] (v ∷ b) e H = absurd (omega arith)
list_is (u ∷ a) [] e H = absurd (omega arith)
list_is (u ∷ a) (v ∷ b) e H = ap₂ {C = List ℕ} (λ x l. x ∷ l) (H 0 (omega arith)) (list_is a b (omega arith) (λ i l. H (suc i) (omega arith)))

pub length-rerank : (f : ℕ → ℕ) (top : ℕ) (fs : List Fate) (rs : List ℕ) → length fs ≡ length rs → length (rerank f top fs rs) ≡ length rs
length-rerank f top [] rs e = e
length-rerank f top (x ∷ fs) [] e = refl
length-rerank f top (x ∷ fs) (r ∷ rs) e = ap suc (length-rerank f top fs rs (omega arith))

-- Ranks that are told slot by slot, by the number of records for those that begin, are those after the frame.
pub ranks_are : (l : List ℤ) (fs : List Fate) (rs new : List ℕ) → T (good_ranks l rs) → length fs ≡ length rs → length new ≡ length rs
    → (let n = length rs in (i : ℕ) → i < n → get_or new i 0 ≡ ranked (λ b. held_below b (ages n fs rs)) n (get_or fs i none) (get_or rs i 0))
    → new ≡ ranks_after fs rs
ranks_are l fs rs new g e d H =
    let n = length rs in
    let f : ℕ → ℕ = λ b. held_below b (ages n fs rs) in
    list_is new (rerank f n fs rs) (d ∙ sym (length-rerank f n fs rs e)) (λ i b. H i (omega arith) ∙ sym (rank_at f n fs rs i (omega arith) (omega arith)))
    ∙ records_top l fs rs g
