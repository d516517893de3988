-- Laws on slots and tables: of one size, equal, good, and with one slot changed. Cited by the theorems on reading and writing. Assumes nothing.
use mathlib.Core.Path.{◌≡◌, refl, sym, ap, ap₂, ◌∙◌, subst}
use mathlib.Core.Bool.{true, ◌&&◌}
use mathlib.Core.List.{List, [], ◌∷◌, ◌++◌, map}
use Prim.Native.Nat.{ℕ, zero, suc, ◌-◌, ◌≤◌}
use native.Mathlib.Omega.{arith}
use lib.Dec.{T, eqb, eqb→eq, eqb_refl}
use lib.ListN.{length, replicate}
use Rattle.model.proofs.Bools.{is_true, both, both_left, both_right, eq_z→eq, eq_z-refl}
use Rattle.model.specs.Numbers.{eq_z}
use Rattle.model.specs.Panel.{Field, Panel}
use Rattle.model.specs.Table.{Slot, Table, fits, good_slot, unused_slot, eq_slot, eq_table, good_place, good_records, good_table}
use Rattle.model.specs.Reader.{on_slot}
use Rattle.model.specs.Sending.{slot_done}

-- ---- equal

pub eq_slot→eq : (a b : Slot) → T (eq_slot a b) → a ≡ b
eq_slot→eq [] [] t = refl
eq_slot→eq [] (v ∷ b) t = absurd t
eq_slot→eq (u ∷ a) [] t = absurd t
eq_slot→eq (u ∷ a) (v ∷ b) t = ap₂ {C = Slot} (λ x l. x ∷ l) (eq_z→eq u v (both_left (eq_z u v) (eq_slot a b) t)) (eq_slot→eq a b (both_right (eq_z u v) (eq_slot a b) t))

pub eq_slot_self : (s : Slot) → T (eq_slot s s)
eq_slot_self [] = tt
eq_slot_self (v ∷ s) = both (eq_z v v) (eq_slot s s) (eq_z-refl v) (eq_slot_self s)

pub eq_table→eq : (a b : Table) → T (eq_table a b) → a ≡ b
eq_table→eq [] [] t = refl
eq_table→eq [] (v ∷ b) t = absurd t
eq_table→eq (u ∷ a) [] t = absurd t
eq_table→eq (u ∷ a) (v ∷ b) t = ap₂ {C = Table} (λ x l. x ∷ l) (eq_slot→eq u v (both_left (eq_slot u v) (eq_table a b) t)) (eq_table→eq a b (both_right (eq_slot u v) (eq_table a b) t))

pub eq_table_self : (t : Table) → T (eq_table t t)
eq_table_self [] = tt
eq_table_self (s ∷ t) = both (eq_slot s s) (eq_table t t) (eq_slot_self s) (eq_table_self t)

-- ---- of one size

-- Two slots with as many numbers.
abbrev pub Like : Slot → Slot → Type 0
Like [] [] = Unit {0}
Like [] (v ∷ vs) = ⊥
Like (o ∷ os) [] = ⊥
Like (o ∷ os) (v ∷ vs) = Like os vs

-- Two tables with as many slots, each like the other's.
abbrev pub Alike : Table → Table → Type 0
Alike [] [] = Unit {0}
Alike [] (v ∷ vs) = ⊥
Alike (o ∷ os) [] = ⊥
Alike (o ∷ os) (v ∷ vs) = Like o v × Alike os vs

like_self : (s : Slot) → Like s s
like_self [] = tt
like_self (v ∷ s) = like_self s

like : (fs : List Field) (o v : Slot) → T (good_slot fs o) → T (good_slot fs v) → Like o v
like [] [] [] g k = tt
like [] [] (v ∷ vs) g k = absurd k
like [] (o ∷ os) v g k = absurd g
like (f ∷ fs) [] v g k = absurd g
like (f ∷ fs) (o ∷ os) [] g k = absurd k
like (f ∷ fs) (o ∷ os) (v ∷ vs) g k = like fs os vs (both_right (fits f o) (good_slot fs os) g) (both_right (fits f v) (good_slot fs vs) k)

-- A table with a slot done is like the new one still.
pub alike_done : (c : ℕ) (old new : Table) → Alike old new → Alike (slot_done c old new) new
alike_done c [] [] h = h
alike_done c [] (v ∷ new) h = h
alike_done c (o ∷ old) [] h = h
alike_done zero (o ∷ old) (v ∷ new) h = (like_self v, h.1)
alike_done (suc c) (o ∷ old) (v ∷ new) h = (h.0, alike_done c old new h.1)

-- Past the panel's slots two records are the same.
pub same-past : (fs : List Field) (o v : Slot) → T (good_place fs zero o) → T (good_place fs zero v) → o ≡ v
same-past fs o v g k = eq_slot→eq o (unused_slot fs) g ∙ sym (eq_slot→eq v (unused_slot fs) k)

like_place : (fs : List Field) (n : ℕ) (o v : Slot) → T (good_place fs n o) → T (good_place fs n v) → Like o v
like_place fs zero o v g k = subst (Like o) (same-past fs o v g k) (like_self o)
like_place fs (suc n) o v g k = like fs o v g k

-- ---- good records, taken apart: one clause each, where n counts the panel's slots that are left

pub place : (fs : List Field) (n : ℕ) (s : Slot) (t : Table) → T (good_records fs n (s ∷ t)) → T (good_place fs n s)
place fs zero s t g = both_left (good_place fs zero s) (good_records fs zero t) g
place fs (suc n) s t g = both_left (good_slot fs s) (good_records fs n t) g

-- and put together
replaced : (fs : List Field) (n : ℕ) (s : Slot) (t : Table) → T (good_place fs n s) → T (good_records fs (n - 1) t) → T (good_records fs n (s ∷ t))
replaced fs zero s t g h = both (good_place fs zero s) (good_records fs zero t) g h
replaced fs (suc n) s t g h = let e : suc n - 1 ≡ n = omega arith in both (good_slot fs s) (good_records fs n t) g (subst (λ m. T (good_records fs m t)) e h)

pub places : (fs : List Field) (n : ℕ) (s : Slot) (t : Table) → T (good_records fs n (s ∷ t)) → T (good_records fs (n - 1) t)
places fs zero s t g = both_right (good_place fs zero s) (good_records fs zero t) g
places fs (suc n) s t g = let e : n ≡ suc n - 1 = omega arith in subst (λ m. T (good_records fs m t)) e (both_right (good_slot fs s) (good_records fs n t) g)

-- A table with a slot done is as good as the two.
pub good_done : (fs : List Field) (n c : ℕ) (old new : Table) → T (good_records fs n old) → T (good_records fs n new) → T (good_records fs n (slot_done c old new))
good_done fs n c [] new g h = g
good_done fs n c (o ∷ old) [] g h = g
good_done fs n zero (o ∷ old) (v ∷ new) g h = replaced fs n v old (place fs n v new h) (places fs n o old g)
good_done fs n (suc c) (o ∷ old) (v ∷ new) g h =
    replaced fs n o _ (place fs n o old g) (good_done fs (n - 1) c old new (places fs n o old g) (places fs n v new h))

alike_records : (fs : List Field) (n : ℕ) (old new : Table) → length old ≡ length new → T (good_records fs n old) → T (good_records fs n new) → Alike old new
alike_records fs n [] [] e g k = tt
alike_records fs n [] (v ∷ new) e g k = absurd (omega arith)
alike_records fs n (o ∷ old) [] e g k = absurd (omega arith)
alike_records fs n (o ∷ old) (v ∷ new) e g k = (
  like_place fs n o v (place fs n o old g) (place fs n v new k),
  alike_records fs (n - 1) old new (omega arith) (places fs n o old g) (places fs n v new k),
)

-- ---- good tables

pub good_length : (p : Panel) (t : Table) → T (good_table p t) → length t ≡ p.records
good_length p t g = eqb→eq (length t) p.records (both_left (eqb (length t) p.records) _ g)

pub good-records : (p : Panel) (t : Table) → T (good_table p t) → T (good_records p.fields p.slots t)
good-records p t g = both_right (eqb (length t) p.records) _ g

pub good-table : (p : Panel) (t : Table) → length t ≡ p.records → T (good_records p.fields p.slots t) → T (good_table p t)
good-table p t e g = both (eqb (length t) p.records) _ (subst (λ m. T (eqb (length t) m)) e (eqb_refl (length t))) g

-- Two good tables of one panel are alike.
pub alike : (p : Panel) (old new : Table) → T (good_table p old) → T (good_table p new) → Alike old new
alike p old new g k = alike_records p.fields p.slots old new (good_length p old g ∙ sym (good_length p new k)) (good-records p old g) (good-records p new k)

-- A good table has the panel's slots at least.
pub slots-held : (fs : List Field) (n : ℕ) (t : Table) → T (good_records fs n t) → n ≤ length t
slots-held fs zero t g = omega arith
slots-held fs (suc n) [] g = absurd g
slots-held fs (suc n) (s ∷ t) g = omega (arith, slots-held fs n t (both_right (good_slot fs s) (good_records fs n t) g))

-- ---- one slot changed

pub length-on_slot : (t : Table) (c : ℕ) (f : Slot → Slot) → length (on_slot t c f) ≡ length t
length-on_slot [] c f = refl
length-on_slot (s ∷ t) zero f = refl
length-on_slot (s ∷ t) (suc c) f = ap suc (length-on_slot t c f)

pub on_slot-on_slot : (t : Table) (c : ℕ) (f g : Slot → Slot) → on_slot (on_slot t c f) c g ≡ on_slot t c (λ s. g (f s))
on_slot-on_slot [] c f g = refl
on_slot-on_slot (s ∷ t) zero f g = refl
on_slot-on_slot (s ∷ t) (suc c) f g = ap {B = Table} (λ u. s ∷ u) (on_slot-on_slot t c f g)

pub on_slot-id : (t : Table) (c : ℕ) → on_slot t c (λ s. s) ≡ t
on_slot-id [] c = refl
on_slot-id (s ∷ t) zero = refl
on_slot-id (s ∷ t) (suc c) = ap {B = Table} (λ u. s ∷ u) (on_slot-id t c)

-- ---- fresh

-- A record that was never used, n times, is good wherever it stands, if it is a good slot.
pub unused-good : (fs : List Field) (n m : ℕ) → n ≤ m → T (good_slot fs (unused_slot fs)) → T (good_records fs n (replicate m (unused_slot fs)))
unused-good fs zero zero l g = tt
unused-good fs (suc n) zero l g = absurd (omega arith)
unused-good fs zero (suc m) l g = both (eq_slot (unused_slot fs) (unused_slot fs)) _ (eq_slot_self (unused_slot fs)) (unused-good fs zero m (omega arith) g)
unused-good fs (suc n) (suc m) l g = both (good_slot fs (unused_slot fs)) _ g (unused-good fs n m (omega arith) g)

unused-past : (fs : List Field) (m : ℕ) → good_records fs zero (replicate m (unused_slot fs)) ≡ true
unused-past fs zero = refl
unused-past fs (suc m) = rw (is_true (eq_slot (unused_slot fs) (unused_slot fs)) (eq_slot_self (unused_slot fs))) (unused-past fs m)

-- Unused records after the panel's slots make no difference.
pub good_pad : (fs : List Field) (n m : ℕ) (t : Table) → length t ≡ n → good_records fs n (t ++ replicate m (unused_slot fs)) ≡ good_records fs n t
good_pad fs zero m [] e = unused-past fs m
good_pad fs zero m (s ∷ t) e = absurd (omega arith)
good_pad fs (suc n) m [] e = absurd (omega arith)
good_pad fs (suc n) m (s ∷ t) e = ap (λ b. good_slot fs s && b) (good_pad fs n m t (omega arith))

-- ---- a list that is mapped

pub map-replicate : {A B : Type 0} (f : A → B) (n : ℕ) (x : A) → map f (replicate n x) ≡ replicate n (f x)
map-replicate f zero x = refl
map-replicate f (suc n) x = ap (λ l. f x ∷ l) (map-replicate f n x)
