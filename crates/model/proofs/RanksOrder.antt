-- Ranks (K6) are in the order of beginning: what a frame makes of two contacts, by their slots. Cited by Births. Assumes nothing.
use mathlib.Core.Path.{◌≡◌, refl, sym, ap, ◌∙◌}
use mathlib.Core.Bool.{true, false, not, cond, ◌||◌}
use mathlib.Core.List.{List, [], ◌∷◌}
use Prim.Native.Nat.{ℕ, zero, suc, ◌≤◌, ◌<◌}
use native.Mathlib.Omega.{arith}
use lib.Dec.{T, ltb, eqb, eqb→eq, ltb→lt, nltb→le}
use lib.IntN.{ℤ}
use lib.ListN.{length, get_or}
use Rattle.model.proofs.Bools.{is_true}
use Rattle.model.proofs.Ranks.{eqb_self, or_right}
use Rattle.model.specs.Table.{Table, id_of}
use Rattle.model.specs.Frame.{kind_of, Fate, none, goes_on, begins, fate}
use Rattle.model.specs.Ranks.{among, one_more_if, held_below, above, fates, ages, ranked, rerank, ranks_after}

held_mono : (k : List ℕ) (a b : ℕ) → a ≤ b → held_below a k ≤ held_below b k
held_mono k a zero l = let z : a ≡ 0 = omega arith in rw z (omega arith)
held_mono k a (suc b) l =
    (elim (ltb b a) as (λ e. (T e → b < a) → (T (not e) → a ≤ b) → held_below a k ≤ held_below (suc b) k) [
      | true ↦ λ y n. let z : a ≡ suc b = omega (arith, y tt) in rw z (omega arith)
      | false ↦ λ y n.
          let h = held_mono k a b (n tt) in
          elim (among b k) as (λ e. held_below a k ≤ one_more_if e (held_below b k)) [
            | true ↦ omega (arith, h)
            | false ↦ h
          ]
    ]) (ltb→lt b a) (nltb→le b a)

pub held-step : (k : List ℕ) (a : ℕ) → T (among a k) → held_below (suc a) k ≡ suc (held_below a k)
held-step k a t = rw (is_true (among a k) t)

-- An earlier beginning has the lower rank. Equal ages have equal ranks, since a rank is a function of the age.
pub held_order : (k : List ℕ) (a b : ℕ) → T (among a k) → a < b → held_below a k < held_below b k
held_order k a b t l = omega (arith, held-step k a t, held_mono k (suc a) b l)

-- All that begin now come after all that go on.
pub above_all : (l : List ℕ) (r : ℕ) → T (among r l) → r < above l
above_all [] r t = absurd t
above_all (s ∷ l) r t =
    (elim (eqb r s) as (λ e. (T e → r ≡ s) → T (e || among r l) → r < above (s ∷ l)) [
      | true ↦ λ e u. omega (arith, e tt, top_head s (above l))
      | false ↦ λ e u. omega (arith, above_all l r u, top_tail s (above l))
    ]) (eqb→eq r s) t
  where
    top_head : (s m : ℕ) → s < cond (ltb s m) m (suc s)
    top_head s m =
        (elim (ltb s m) as (λ e. (T e → s < m) → s < cond e m (suc s)) [
          | true ↦ λ y. y tt
          | false ↦ λ y. omega arith
        ]) (ltb→lt s m)

    top_tail : (s m : ℕ) → m ≤ cond (ltb s m) m (suc s)
    top_tail s m =
        (elim (ltb s m) as (λ e. (T (not e) → m ≤ s) → m ≤ cond e m (suc s)) [
          | true ↦ λ y. omega arith
          | false ↦ λ y. omega (arith, y tt)
        ]) (nltb→le s m)

-- One record's rank after a frame, by its fate and its old rank.
pub rank_at : (f : ℕ → ℕ) (top : ℕ) (fs : List Fate) (rs : List ℕ) (i : ℕ) → i < length fs → i < length rs
    → get_or (rerank f top fs rs) i 0 ≡ ranked f top (get_or fs i none) (get_or rs i 0)
rank_at f top [] rs i l m = absurd (omega arith)
rank_at f top (a ∷ fs) [] i l m = absurd (omega arith)
rank_at f top (a ∷ fs) (r ∷ rs) zero l m = refl
rank_at f top (a ∷ fs) (r ∷ rs) (suc i) l m = rank_at f top fs rs i (omega arith) (omega arith)

-- Slot i's fate in a frame.
pub fates-at : (fr : List (List ℤ)) (t : Table) (i : ℕ) → i < length fr → i < length t → get_or (fates fr t) i none ≡ fate (kind_of (get_or fr i [])) (id_of (get_or t i []))
fates-at [] t i a b = absurd (omega arith)
fates-at (g ∷ fr) [] i a b = absurd (omega arith)
fates-at (g ∷ fr) (s ∷ t) zero a b = refl
fates-at (g ∷ fr) (s ∷ t) (suc i) a b = fates-at fr t i (omega arith) (omega arith)

-- The contact goes on.
abbrev pub Going : Fate → Type 0
Going none = ⊥
Going goes_on = Unit {0}
Going begins = ⊥

-- The contact begins.
abbrev pub Begun : Fate → Type 0
Begun none = ⊥
Begun goes_on = ⊥
Begun begins = Unit {0}

going_rank : (f : ℕ → ℕ) (top : ℕ) (a : Fate) (r : ℕ) → Going a → ranked f top a r ≡ f r
going_rank f top none r h = absurd h
going_rank f top goes_on r h = refl
going_rank f top begins r h = absurd h

begun_rank : (f : ℕ → ℕ) (top : ℕ) (a : Fate) (r : ℕ) → Begun a → ranked f top a r ≡ f top
begun_rank f top none r h = absurd h
begun_rank f top goes_on r h = absurd h
begun_rank f top begins r h = refl

age_at : (top : ℕ) (fs : List Fate) (rs : List ℕ) (i : ℕ) → i < length fs → i < length rs → Going (get_or fs i none) → T (among (get_or rs i 0) (ages top fs rs))
age_at top [] rs i a b h = absurd (omega arith)
age_at top (x ∷ fs) [] i a b h = absurd (omega arith)
age_at top (none ∷ fs) (r ∷ rs) zero a b h = absurd h
age_at top (goes_on ∷ fs) (r ∷ rs) zero a b h = rw (eqb_self r) tt
age_at top (begins ∷ fs) (r ∷ rs) zero a b h = absurd h
age_at top (none ∷ fs) (r ∷ rs) (suc i) a b h = age_at top fs rs i (omega arith) (omega arith) h
age_at top (goes_on ∷ fs) (r ∷ rs) (suc i) a b h = or_right (eqb (get_or rs i 0) r) (among (get_or rs i 0) (ages top fs rs)) (age_at top fs rs i (omega arith) (omega arith) h)
age_at top (begins ∷ fs) (r ∷ rs) (suc i) a b h =
    or_right (eqb (get_or rs i 0) top) (among (get_or rs i 0) (ages top fs rs)) (age_at top fs rs i (omega arith) (omega arith) h)

among-at : (rs : List ℕ) (i : ℕ) → i < length rs → T (among (get_or rs i 0) rs)
among-at [] i l = absurd (omega arith)
among-at (r ∷ rs) zero l = rw (eqb_self r) tt
among-at (r ∷ rs) (suc i) l = or_right (eqb (get_or rs i 0) r) (among (get_or rs i 0) rs) (among-at rs i (omega arith))

module _ (fs : List Fate) (rs : List ℕ) (i j : ℕ) (fi : i < length fs) (ri : i < length rs) (fj : j < length fs) (rj : j < length rs) where
  kept-is : (k : ℕ) → k < length fs → k < length rs → Going (get_or fs k none) → get_or (ranks_after fs rs) k 0 ≡ held_below (get_or rs k 0) (ages (above rs) fs rs)
  kept-is k a b h = rank_at _ (above rs) fs rs k a b ∙ going_rank (λ b. held_below b (ages (above rs) fs rs)) (above rs) (get_or fs k none) (get_or rs k 0) h

  begun-is : (k : ℕ) → k < length fs → k < length rs → Begun (get_or fs k none) → get_or (ranks_after fs rs) k 0 ≡ held_below (above rs) (ages (above rs) fs rs)
  begun-is k a b h = rank_at _ (above rs) fs rs k a b ∙ begun_rank (λ b. held_below b (ages (above rs) fs rs)) (above rs) (get_or fs k none) (get_or rs k 0) h

  -- Of two contacts that go on the older one stays the older.
  pub kept_order : Going (get_or fs i none) → Going (get_or fs j none) → get_or rs i 0 < get_or rs j 0 → get_or (ranks_after fs rs) i 0 < get_or (ranks_after fs rs) j 0
  kept_order a b l =
      omega (arith, kept-is i fi ri a, kept-is j fj rj b, held_order (ages (above rs) fs rs) (get_or rs i 0) (get_or rs j 0) (age_at (above rs) fs rs i fi ri a) l)

  -- Ties stay ties.
  pub kept_ties : Going (get_or fs i none) → Going (get_or fs j none) → get_or rs i 0 ≡ get_or rs j 0 → get_or (ranks_after fs rs) i 0 ≡ get_or (ranks_after fs rs) j 0
  kept_ties a b e = kept-is i fi ri a ∙ ap (λ r. held_below r (ages (above rs) fs rs)) e ∙ sym (kept-is j fj rj b)

  -- One that begins comes after every one that goes on.
  pub begun-last : Going (get_or fs i none) → Begun (get_or fs j none) → get_or (ranks_after fs rs) i 0 < get_or (ranks_after fs rs) j 0
  begun-last a b =
      omega (arith, kept-is i fi ri a, begun-is j fj rj b, held_order (ages (above rs) fs rs) (get_or rs i 0) (above rs) (age_at (above rs) fs rs i fi ri a) (above_all rs (get_or rs i 0) (among-at rs i ri)))

  -- Two that begin tie.
  pub begun-ties : Begun (get_or fs i none) → Begun (get_or fs j none) → get_or (ranks_after fs rs) i 0 ≡ get_or (ranks_after fs rs) j 0
  begun-ties a b = begun-is i fi ri a ∙ sym (begun-is j fj rj b)
