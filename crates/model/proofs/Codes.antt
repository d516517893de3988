-- What a writer sends is classified as it was meant, on every panel whose fields can be told apart.
-- Cited by ReadsBack, Bytes, Loss and ReaderSteady. Assumes nothing.
use mathlib.Core.Path.{◌≡◌, refl, ap, ap₂, subst}
use mathlib.Core.Bool.{Bool, true, false, not, ◌&&◌}
use mathlib.Core.List.{List, [], ◌∷◌, ◌++◌, map}
use Prim.Native.Nat.{ℕ, zero, suc, ◌-◌, ◌<◌}
use native.Mathlib.Omega.{arith}
use lib.Dec.{T, ltb, eqb, eqb_refl, lt→ltb, ltb→lt}
use lib.IntN.{ℤ}
use lib.ListN.{get_or}
use Rattle.model.proofs.Bools.{is_true, is_false, both_left, both_right, eq_z-refl}
use Rattle.model.proofs.Tables.{same-past, place, places, good_done}
use Rattle.model.proofs.Follow.{asks}
use Rattle.model.specs.Numbers.{eq_z}
use Rattle.model.specs.Panel.{Field, Panel, slot_code, unlisted, codes_differ, all_carried, field_codes, tellable}
use Rattle.model.specs.Table.{Slot, Table, fits, good_slot, good_place, good_records}
use Rattle.model.specs.Events.{Act, number, later, number_act, classify}
use Rattle.model.specs.Sending.{Sent, send_slot, send_number, send_report, unless, changes, opened, all_changes, slot_done, other_changes, body, closed, sending, code_of, event_of, last_opened}

-- ---- what may be sent

-- v is a good value of field i.
abbrev pub good_at : List Field → ℕ → ℤ → Bool
good_at [] i v = false
good_at (f ∷ fs) zero v = fits f v
good_at (f ∷ fs) (suc i) v = good_at fs i v

-- A sent slot number is below n, and a sent number is good.
abbrev pub Good : List Field → ℕ → Sent → Type 0
Good fs n (send_slot k) = T (ltb k n)
Good fs n (send_number i v) = T (good_at fs i v)
Good fs n send_report = Unit {0}

abbrev pub AllGood : List Field → ℕ → List Sent → Type 0
AllGood fs n [] = Unit {0}
AllGood fs n (x ∷ xs) = Good fs n x × AllGood fs n xs

good_append : (fs : List Field) (n : ℕ) (xs ys : List Sent) → AllGood fs n xs → AllGood fs n ys → AllGood fs n (xs ++ ys)
good_append fs n [] ys g k = k
good_append fs n (x ∷ xs) ys g k = (g.0, good_append fs n xs ys g.1 k)

-- ---- there and back

unlisted-at : (c : ℕ) (fs : List Field) (i : ℕ) (v : ℤ) → T (unlisted c (field_codes fs)) → T (good_at fs i v) → T (not (eqb (code_of (field_codes fs) i) c))
unlisted-at c [] i v a g = absurd g
unlisted-at c (f ∷ fs) zero v a g = both_left (not (eqb f.code c)) (unlisted c (field_codes fs)) a
unlisted-at c (f ∷ fs) (suc i) v a g = unlisted-at c fs i v (both_right (not (eqb f.code c)) (unlisted c (field_codes fs)) a) g

number_back : (fs : List Field) (i : ℕ) (v : ℤ) → T (codes_differ (field_codes fs)) → T (good_at fs i v) → number_act fs (code_of (field_codes fs) i) v ≡ number i v
number_back [] i v a g = absurd g
number_back (f ∷ fs) zero v a g = rw (is_true (eqb f.code f.code) (eqb_refl f.code), is_true (fits f v) g)
number_back (f ∷ fs) (suc i) v a g =
    rw (is_false (eqb (code_of (field_codes fs) i) f.code) (unlisted-at f.code fs i v (both_left (unlisted f.code (field_codes fs)) (codes_differ (field_codes fs)) a) g))
    (ap later (number_back fs i v (both_right (unlisted f.code (field_codes fs)) (codes_differ (field_codes fs)) a) g))

-- The parts of `tellable`.
pub record Tellable (p : Panel) : Type 0 where
  pub few : p.slots < 2_147_483_648
  pub slot_apart : T (unlisted slot_code (field_codes p.fields))
  pub codes_apart : T (codes_differ (field_codes p.fields))
  pub carries : T (all_carried p.fields)

pub tells : (p : Panel) → T (tellable p) → Tellable p
tells p w =
    let few = ltb p.slots 2_147_483_648 in
    let differ = codes_differ (slot_code ∷ field_codes p.fields) in
    let a = both_left (few && differ) _ w in
    let d = both_right few differ a in
    record {
      few = ltb→lt p.slots 2_147_483_648 (both_left few differ a);
      slot_apart = both_left (unlisted slot_code (field_codes p.fields)) _ d;
      codes_apart = both_right (unlisted slot_code (field_codes p.fields)) _ d;
      carries = both_right (few && differ) _ w;
    }

-- The event of what may be sent asks for just that.
pub back : (p : Panel) → Tellable p → (x : Sent) → Good p.fields p.slots x → classify p (event_of (field_codes p.fields) x) ≡ asks x
back p w (send_slot k) g = rw (is_true (ltb k p.slots) g)
back p w (send_number i v) g =
    rw (is_false (eqb (code_of (field_codes p.fields) i) slot_code) (unlisted-at slot_code p.fields i v w.slot_apart g))
    (number_back p.fields i v w.codes_apart g)
back p w send_report g = refl

-- So it is for all that may be sent.
pub all_back : (p : Panel) → Tellable p → (xs : List Sent) → AllGood p.fields p.slots xs → map (classify p) (map (event_of (field_codes p.fields)) xs) ≡ map asks xs
all_back p w [] g = refl
all_back p w (x ∷ xs) g = ap₂ {C = List Act} (λ y ys. y ∷ ys) (back p w x g.0) (all_back p w xs g.1)

-- ---- all that is sent may be sent

-- The same one field further on.
abbrev further : Sent → Sent
further (send_slot k) = send_slot k
further (send_number i v) = send_number (suc i) v
further send_report = send_report

changes_further : (i : ℕ) (old new : Slot) → changes (suc i) old new ≡ map further (changes i old new)
changes_further i [] new = refl
changes_further i (o ∷ old) [] = refl
changes_further i (o ∷ old) (v ∷ new) =
    elim (eq_z o v) as (λ b. unless b (send_number (suc i) v) (changes (suc (suc i)) old new) ≡ map further (unless b (send_number i v) (changes (suc i) old new))) [
      | true ↦ changes_further (suc i) old new
      | false ↦ ap {B = List Sent} (λ ys. send_number (suc i) v ∷ ys) (changes_further (suc i) old new)
    ]

good_further : (f : Field) (fs : List Field) (n : ℕ) (x : Sent) → Good fs n x → Good (f ∷ fs) n (further x)
good_further f fs n (send_slot k) g = g
good_further f fs n (send_number i v) g = g
good_further f fs n send_report g = g

all_further : (f : Field) (fs : List Field) (n : ℕ) (xs : List Sent) → AllGood fs n xs → AllGood (f ∷ fs) n (map further xs)
all_further f fs n [] g = tt
all_further f fs n (x ∷ xs) g = (good_further f fs n x g.0, all_further f fs n xs g.1)

changes-good : (fs : List Field) (n : ℕ) (old new : Slot) → T (good_slot fs new) → AllGood fs n (changes 0 old new)
changes-good fs n [] new g = tt
changes-good fs n (o ∷ old) [] g = tt
changes-good [] n (o ∷ old) (v ∷ new) g = absurd g
changes-good (f ∷ fs) n (o ∷ old) (v ∷ new) g =
    let rest : AllGood (f ∷ fs) n (changes 1 old new) = rw (changes_further 0 old new) (all_further f fs n (changes 0 old new) (changes-good fs n old new (both_right (fits f v) (good_slot fs new) g))) in
    elim (eq_z o v) as (λ b. AllGood (f ∷ fs) n (unless b (send_number 0 v) (changes 1 old new))) [
      | true ↦ rest
      | false ↦ (both_left (fits f v) (good_slot fs new) g, rest)
    ]

-- A slot that stays sends nothing.
pub changes_self : (i : ℕ) (s : Slot) → changes i s s ≡ []
changes_self i [] = refl
changes_self i (v ∷ s) = rw (is_true (eq_z v v) (eq_z-refl v)) (changes_self (suc i) s)

-- So a record past the panel's slots sends nothing, and one of them only good numbers.
place-good : (fs : List Field) (n m : ℕ) (o v : Slot) → T (good_place fs m o) → T (good_place fs m v) → AllGood fs n (changes 0 o v)
place-good fs n zero o v g k = subst (λ w. AllGood fs n (changes 0 o w)) (same-past fs o v g k) (rw (changes_self 0 o) tt)
place-good fs n (suc m) o v g k = changes-good fs n o v k

opened-good : (fs : List Field) (n k : ℕ) (xs : List Sent) → k < n → AllGood fs n xs → AllGood fs n (opened k xs)
opened-good fs n k [] l g = tt
opened-good fs n k (x ∷ xs) l g = (lt→ltb k n l, g)

-- An opened record, where m of the panel's n slots are left from slot k on: past them nothing is opened.
opened-place : (fs : List Field) (n k m : ℕ) (o v : Slot) → m ≡ n - k → T (good_place fs m o) → T (good_place fs m v) → AllGood fs n (opened k (changes 0 o v))
opened-place fs n k zero o v l g h = subst (λ w. AllGood fs n (opened k (changes 0 o w))) (same-past fs o v g h) (rw (changes_self 0 o) tt)
opened-place fs n k (suc m) o v l g h = opened-good fs n k (changes 0 o v) (omega arith) (changes-good fs n o v h)

all_changes-good : (fs : List Field) (n k m : ℕ) (old new : Table) → m ≡ n - k → T (good_records fs m old) → T (good_records fs m new) → AllGood fs n (all_changes k old new)
all_changes-good fs n k m [] new l g h = tt
all_changes-good fs n k m (o ∷ old) [] l g h = tt
all_changes-good fs n k m (o ∷ old) (v ∷ new) l g h =
    good_append fs n (opened k (changes 0 o v)) (all_changes (suc k) old new)
    (opened-place fs n k m o v l (place fs m o old g) (place fs m v new h))
    (all_changes-good fs n (suc k) (m - 1) old new (omega arith) (places fs m o old g) (places fs m v new h))

changes-none : (i : ℕ) (old : Slot) → changes i old [] ≡ []
changes-none i [] = refl
changes-none i (o ∷ old) = refl

current-good : (fs : List Field) (n c m : ℕ) (old new : Table) → T (good_records fs m old) → T (good_records fs m new) → AllGood fs n (changes 0 (get_or old c []) (get_or new c []))
current-good fs n c m [] new g h = tt
current-good fs n c m (o ∷ old) [] g h = rw (changes-none 0 (get_or (o ∷ old) c [])) tt
current-good fs n zero m (o ∷ old) (v ∷ new) g h = place-good fs n m o v (place fs m o old g) (place fs m v new h)
current-good fs n (suc c) m (o ∷ old) (v ∷ new) g h = current-good fs n c (m - 1) old new (places fs m o old g) (places fs m v new h)

closed-good : (fs : List Field) (n : ℕ) (xs : List Sent) → AllGood fs n xs → AllGood fs n (closed xs)
closed-good fs n [] g = tt
closed-good fs n (x ∷ xs) g = good_append fs n (x ∷ xs) (send_report ∷ []) g (tt, tt)

-- Between two good tables only good numbers and slots below n are sent.
pub sending-good : (fs : List Field) (n c : ℕ) (old new : Table) → T (good_records fs n old) → T (good_records fs n new) → AllGood fs n (sending c old new)
sending-good fs n c old new g h =
    closed-good fs n (body c old new)
    (good_append fs n (changes 0 (get_or old c []) (get_or new c [])) (other_changes c old new)
    (current-good fs n c n old new g h)
    (all_changes-good fs n 0 n (slot_done c old new) new (omega arith) (good_done fs n c old new g h) h))

-- So the current slot afterwards is below n.
pub last-below : (fs : List Field) (n c : ℕ) (xs : List Sent) → c < n → AllGood fs n xs → last_opened c xs < n
last-below fs n c [] l g = l
last-below fs n c (send_slot k ∷ xs) l g = last-below fs n k xs (ltb→lt k n g.0) g.1
last-below fs n c (send_number i v ∷ xs) l g = last-below fs n c xs l g.1
last-below fs n c (send_report ∷ xs) l g = last-below fs n c xs l g.1
