-- A walk over ids and ranks, one record further: what is left to count, to find and to mark. Cited by the proofs of the loops here. Assumes nothing.
use mathlib.Core.Path.{◌≡◌, refl, sym, ap, ap₂, ◌∙◌, subst}
use mathlib.Core.Bool.{Bool, true, false, cond, ◌&&◌, ◌||◌, false≢true}
use mathlib.Core.List.{List, [], ◌∷◌, ◌++◌}
use Prim.Native.Nat.{ℕ, zero, suc, ◌+◌, ◌≤◌, ◌<◌}
use native.Mathlib.Numerals.{add-one}
use native.Mathlib.Omega.{arith}
use lib.Dec.{eqb}
use lib.IntN.{ℤ, pos}
use lib.ListN.{length, take, drop, get_or, set, replicate, length-set, take-append-drop}
use lib.Seq.{drop-cons, take-suc-set, drop-set-lt}
use Rattle.model.specs.Panel.{records}
use Rattle.model.specs.Numbers.{eq_z, minus_one}
use Rattle.model.specs.Table.{live, ids}
use Rattle.model.specs.Frame.{none, goes_on, begins}
use Rattle.model.specs.Ranks.{one_more_if, live_count, live_ranks, zero_unused, ages}
use Rattle.model.specs.Pointer.{oldest_slot}
use Rattle.model.proofs.RanksMarks.{Marked, marked_going, marked-begun}
use Rattle.panel.specs.declared.Slot.{Slot}
use Rattle.common.proofs.Apart.{more-ids}
use Rattle.panel.specs.Seen.{slot_of, table_of, blank, unused}
use Rattle.pointer.specs.Seen.{fate_by, fates_by}
use Rattle.pointer.specs.Moved.{Unused, Idle}

-- ---- lists

-- What is left of a list from i on.
pub next : {A : Type 0} (l : List A) (i : ℕ) (d : A) → i < length l → drop i l ≡ get_or l i d ∷ drop (i + 1) l
next l i d h = rw (add-one, drop-cons l i d)

pub past : {A : Type 0} (l : List A) (i : ℕ) → length l ≤ i → drop i l ≡ []
past [] zero h = refl
past [] (suc i) h = refl
past (x ∷ l) zero h = absurd (omega arith)
past (x ∷ l) (suc i) h = past l i (omega arith)

-- ---- ids

module _ (l : List ℤ) (i : ℕ) where
  pub live-turn : i < length l → live_count (drop i l) ≡ one_more_if (live (get_or l i (pos 0))) (live_count (drop (i + 1) l))
  live-turn h = ap live_count (next l i (pos 0) h)

-- ---- ids and ranks

module _ (l : List ℤ) (rs : List ℕ) (i : ℕ) where
  module _ (h : i < length l) (k : i < length rs) where
    pub oldest_turn : oldest_slot (drop i l) (drop i rs) ≡ cond (live (get_or l i (pos 0)) && eqb (get_or rs i 0) 0) 0 (suc (oldest_slot (drop (i + 1) l) (drop (i + 1) rs)))
    oldest_turn = ap₂ oldest_slot (next l i (pos 0) h) (next rs i 0 k)

    pub unused-turn : zero_unused (drop i l) (drop i rs) ≡ ((live (get_or l i (pos 0)) || eqb (get_or rs i 0) 0) && zero_unused (drop (i + 1) l) (drop (i + 1) rs))
    unused-turn = ap₂ zero_unused (next l i (pos 0) h) (next rs i 0 k)

    pub ranks-turn : (let more = live_ranks (drop (i + 1) l) (drop (i + 1) rs) in live_ranks (drop i l) (drop i rs) ≡ cond (live (get_or l i (pos 0))) (get_or rs i 0 ∷ more) more)
    ranks-turn = ap₂ live_ranks (next l i (pos 0) h) (next rs i 0 k)

-- ---- the ids before a frame and after it

module _ (l m : List ℤ) (rs : List ℕ) (i : ℕ) where
  pub ages-turn : i < length l → i < length m → i < length rs
      → ages records (fates_by (drop i l) (drop i m)) (drop i rs)
      ≡ ages records (fate_by (get_or l i (pos 0)) (get_or m i (pos 0)) ∷ fates_by (drop (i + 1) l) (drop (i + 1) m)) (get_or rs i 0 ∷ drop (i + 1) rs)
  ages-turn h k j = ap₂ (ages records) (ap₂ fates_by (next l i (pos 0) h) (next m i (pos 0) k)) (next rs i 0 j)

  -- One that goes on leaves its rank to be marked; no other does, since the age of one that begins is past all flags.
  module _ (h : i < length l) (k : i < length m) (j : i < length rs) (flags all : List ℕ) (full : length flags ≡ records)
      (marks : Marked flags (ages records (fates_by (drop i l) (drop i m)) (drop i rs)) all) where
    abbrev was : ℤ
    was = get_or l i (pos 0)

    abbrev is : ℤ
    is = get_or m i (pos 0)

    abbrev rest : List ℕ
    rest = ages records (fates_by (drop (i + 1) l) (drop (i + 1) m)) (drop (i + 1) rs)

    turned : Marked flags (ages records (fate_by was is ∷ fates_by (drop (i + 1) l) (drop (i + 1) m)) (get_or rs i 0 ∷ drop (i + 1) rs)) all
    turned = subst (λ x. Marked flags x all) (ages-turn h k j) marks

    pub going_turn : (live is && eq_z was is) ≡ true → get_or rs i 0 < length flags → Marked (set flags (get_or rs i 0) 1) rest all
    unfolding turned
    going_turn e small =
        marked_going flags rest all (get_or rs i 0) small
        (subst (λ b. Marked flags (ages records (b ∷ fates_by (drop (i + 1) l) (drop (i + 1) m)) (get_or rs i 0 ∷ drop (i + 1) rs)) all) (goes (live is) (eq_z was is) e) turned)
      where
        goes : (a b : Bool) → (a && b) ≡ true → cond a (cond b goes_on begins) none ≡ goes_on
        goes true true e = refl
        goes true false e = absurd (false≢true e)
        goes false b e = absurd (false≢true e)

    pub other_turn : (live is && eq_z was is) ≡ false → Marked flags rest all
    unfolding turned
    other_turn e = other (live is) (eq_z was is) e turned
      where
        other : (a b : Bool) → (a && b) ≡ false
            → Marked flags (ages records (cond a (cond b goes_on begins) none ∷ fates_by (drop (i + 1) l) (drop (i + 1) m)) (get_or rs i 0 ∷ drop (i + 1) rs)) all
            → Marked flags rest all
        other true true e t = absurd (false≢true (sym e))
        other true false e t = marked-begun flags rest all records (omega arith) t
        other false b e t = t

-- ---- the ids of a table, of which the first n slots alone may be used

unused-ids : (n m : ℕ) → ids (table_of (drop n (replicate m unused))) ≡ drop n (replicate m minus_one)
unused-ids zero zero = refl
unused-ids zero (suc m) = ap {B = List ℤ} (λ l. minus_one ∷ l) (unused-ids zero m)
unused-ids (suc n) zero = refl
unused-ids (suc n) (suc m) = unused-ids n m

ids_parts : (n : ℕ) (t : List Slot) → ids (table_of t) ≡ ids (table_of (take n t)) ++ ids (table_of (drop n t))
ids_parts zero t = refl
ids_parts (suc n) [] = refl
ids_parts (suc n) (s ∷ t) = ap {B = List ℤ} (λ l. s.id.0 ∷ l) (ids_parts n t)

-- What is known of ids of which i are taken out of a table, those past the first n being -1.
pub record Copied (n : ℕ) (t : List Slot) (l : List ℤ) (i : ℕ) : Type 0 where
  pub full : length l ≡ records
  pub done : take i l ≡ ids (table_of (take i t))
  pub rest : drop n l ≡ drop n (replicate records minus_one)

pub copied-start : (n : ℕ) (t : List Slot) → Copied n t (replicate records minus_one) 0
copied-start n t = record { full = refl; done = refl; rest = refl }

pub copied-turn : (n : ℕ) (t : List Slot) (l : List ℤ) (i : ℕ) → Copied n t l i → i < n → n ≤ records → length t ≡ records → Copied n t (set l i (get_or t i blank).id.0) (i + 1)
copied-turn n t l i c h k e =
    let v = (get_or t i blank).id.0 in
    let room : i < length l = omega (arith, c.full) in
    let more = take-suc-set l i v room ∙ ap (λ (a : List ℤ). a ++ v ∷ []) c.done ∙ sym (more-ids slot_of blank t i (omega arith)) in
    record { full = length-set l i v ∙ c.full; done = rw add-one more; rest = drop-set-lt n l i v h ∙ c.rest }

pub copied-over : (n : ℕ) (t : List Slot) (l : List ℤ) → Unused n t → Copied n t l n → (l ≡ ids (table_of t)) × Idle n l
copied-over n t l u c = (
  sym (take-append-drop n l) ∙ ap₂ {C = List ℤ} (λ x y. x ++ y) c.done (c.rest ∙ sym (unused-ids n records) ∙ sym (ap ids u.rest)) ∙ sym (ids_parts n t),
  record { few = u.few; whole = c.full; rest = c.rest },
)

-- The same at the end of a loop that takes them out.
pub copied-all : (n i : ℕ) (t : List Slot) (l : List ℤ) → Unused n t → i ≡ n → Copied n t l i → (l ≡ ids (table_of t)) × Idle n l
copied-all n i t l u e c = copied-over n t l u (subst (λ k. Copied n t l k) e c)
