-- Demand 3, first half: how many events a frame has. Least has the second half. Assumes nothing, of no table either.
use mathlib.Core.Path.{◌≡◌, refl, ap, ap₂, ◌∙◌}
use mathlib.Core.Bool.{Bool, true, false, cond, ◌&&◌}
use mathlib.Core.List.{List, [], ◌∷◌}
use Prim.Native.Nat.{ℕ, zero, suc, ◌+◌, ◌≤◌, ◌<◌}
use native.Mathlib.Omega.{arith}
use lib.Dec.{T, eqb, eqb-suc-zero}
use lib.ListN.{length, get_or, set, length-append, length-map}
use borrow.Author.Tests.{ne_eqb, eqb-true, eqb-false}
use Rattle.model.proofs.Bools.{is_true, eq_z-refl, eq_z→eq}
use Rattle.model.proofs.Tables.{Like}
use Rattle.model.specs.Numbers.{eq_z}
use Rattle.model.specs.Panel.{Panel, field_codes}
use Rattle.model.specs.Table.{Slot, Table}
use Rattle.model.specs.Sending.{Sent, send_number, send_report, unless, changes, opened, all_changes, slot_done, other_changes, body, closed, sending, event_of, events_sent, one_unless, same_slot, changed_in, changed_numbers, changed_slots, changed_others, fewest}

pub one_unless_le : (b : Bool) → one_unless b ≤ 1
one_unless_le true = omega arith
one_unless_le false = omega arith

-- ---- a slot

abbrev is_none : List Sent → Bool
is_none [] = true
is_none (x ∷ xs) = false

length-changes : (i : ℕ) (old new : Slot) → length (changes i old new) ≡ changed_in old new
length-changes i [] new = refl
length-changes i (o ∷ old) [] = refl
length-changes i (o ∷ old) (v ∷ new) =
    elim (eq_z o v) as (λ b. length (unless b (send_number i v) (changes (suc i) old new)) ≡ one_unless b + changed_in old new) [
      | true ↦ omega (arith, length-changes (suc i) old new)
      | false ↦ omega (arith, length-changes (suc i) old new)
    ]

none-changes : (i : ℕ) (old new : Slot) → is_none (changes i old new) ≡ same_slot old new
none-changes i [] new = refl
none-changes i (o ∷ old) [] = refl
none-changes i (o ∷ old) (v ∷ new) =
    elim (eq_z o v) as (λ b. is_none (unless b (send_number i v) (changes (suc i) old new)) ≡ (b && same_slot old new)) [
      | true ↦ none-changes (suc i) old new
      | false ↦ refl
    ]

opened_one_more : (k : ℕ) (xs : List Sent) → length (opened k xs) ≡ one_unless (is_none xs) + length xs
opened_one_more k [] = refl
opened_one_more k (x ∷ xs) = omega arith

length-opened : (k : ℕ) (o v : Slot) → length (opened k (changes 0 o v)) ≡ changed_in o v + one_unless (same_slot o v)
length-opened k o v = omega (arith, opened_one_more k (changes 0 o v), length-changes 0 o v, ap one_unless (none-changes 0 o v))

-- ---- the table

length_all : (k : ℕ) (old new : Table) → length (all_changes k old new) ≡ changed_numbers old new + changed_slots old new
length_all k [] new = refl
length_all k (o ∷ old) [] = refl
length_all k (o ∷ old) (v ∷ new) = omega (arith, length-append (opened k (changes 0 o v)) (all_changes (suc k) old new), length-opened k o v, length_all (suc k) old new)

changed_in-none : (old : Slot) → changed_in old [] ≡ 0
changed_in-none [] = refl
changed_in-none (o ∷ old) = refl

pub same_none : (old : Slot) → same_slot old [] ≡ true
same_none [] = refl
same_none (o ∷ old) = refl

-- ---- a slot and a table against themselves

pub changed_in_self : (s : Slot) → changed_in s s ≡ 0
changed_in_self [] = refl
changed_in_self (v ∷ s) = rw (is_true (eq_z v v) (eq_z-refl v)) (omega (arith, changed_in_self s))

pub changed_numbers_self : (t : Table) → changed_numbers t t ≡ 0
changed_numbers_self [] = refl
changed_numbers_self (s ∷ t) = omega (arith, changed_in_self s, changed_numbers_self t)

pub same_slot_self : (s : Slot) → same_slot s s ≡ true
same_slot_self [] = refl
same_slot_self (v ∷ s) = rw (is_true (eq_z v v) (eq_z-refl v)) (same_slot_self s)

-- ---- no number of a slot changed

-- A slot is the same if no number of it changed.
pub same_count : (o v : Slot) → eqb (changed_in o v) 0 ≡ same_slot o v
same_count [] v = refl
same_count (x ∷ o) [] = refl
same_count (x ∷ o) (y ∷ v) =
    elim (eq_z x y) as (λ b. eqb (one_unless b + changed_in o v) 0 ≡ (b && same_slot o v)) [
      | true ↦ let z : 0 + changed_in o v ≡ changed_in o v = omega arith in ap (λ n. eqb n 0) z ∙ same_count o v
      | false ↦ ne_eqb (1 + changed_in o v) 0 (λ e. omega arith)
    ]

-- Then the two hold the same numbers, if they hold as many.
pub none-changed : (o v : Slot) → Like o v → changed_in o v ≡ 0 → o ≡ v
none-changed [] [] l e = refl
none-changed [] (y ∷ v) l e = absurd l
none-changed (x ∷ o) [] l e = absurd l
none-changed (x ∷ o) (y ∷ v) l e =
    (elim (eq_z x y) as (λ b. (T b → x ≡ y) → one_unless b + changed_in o v ≡ 0 → x ∷ o ≡ y ∷ v) [
      | true ↦ λ q h. ap₂ {C = Slot} (λ z r. z ∷ r) (q tt) (none-changed o v l (omega arith))
      | false ↦ λ q h. absurd (omega arith)
    ]) (eq_z→eq x y) e

-- A slot that was as in the old table is set: its changed numbers are added.
pub numbers-set : (old t : Table) (s : ℕ) (w : Slot) → s < length old → s < length t → get_or t s [] ≡ get_or old s []
    → changed_numbers old (set t s w) ≡ changed_numbers old t + changed_in (get_or old s []) w
numbers-set [] t s w h g e = absurd (omega arith)
numbers-set (o ∷ old) [] s w h g e = absurd (omega arith)
numbers-set (o ∷ old) (v ∷ t) zero w h g e = omega (arith, ap (changed_in o) e ∙ changed_in_self o)
numbers-set (o ∷ old) (v ∷ t) (suc s) w h g e = omega (arith, numbers-set old t s w (omega arith) (omega arith) e)

-- ---- slot c, and the others: what the slot itself changes, and what is still to change once it is done

numbers_split : (c : ℕ) (old new : Table) → changed_numbers old new ≡ changed_in (get_or old c []) (get_or new c []) + changed_numbers (slot_done c old new) new
numbers_split c [] new = refl
numbers_split c (o ∷ old) [] = omega (arith, changed_in-none (get_or (o ∷ old) c []))
numbers_split zero (o ∷ old) (v ∷ new) = omega (arith, changed_in_self v)
numbers_split (suc c) (o ∷ old) (v ∷ new) = omega (arith, numbers_split c old new)

-- The changed slots are slot c, if it changed, and the others.
pub slots_split : (c : ℕ) (old new : Table) → changed_slots old new ≡ one_unless (same_slot (get_or old c []) (get_or new c [])) + changed_others c old new
slots_split c [] new = refl
slots_split c (o ∷ old) [] = omega (arith, ap one_unless (same_none (get_or (o ∷ old) c [])))
slots_split zero (o ∷ old) (v ∷ new) = omega (arith, ap one_unless (same_slot_self v))
slots_split (suc c) (o ∷ old) (v ∷ new) = omega (arith, slots_split c old new)

length-body : (c : ℕ) (old new : Table) → length (body c old new) ≡ changed_numbers old new + changed_others c old new
length-body c old new =
    let o = get_or old c [] in
    let v = get_or new c [] in
    let two = length-append (changes 0 o v) (other_changes c old new) in
    omega (arith, two, length-changes 0 o v, length_all 0 (slot_done c old new) new, numbers_split c old new)

-- ---- a changed slot has a changed number

slot_has_number : (o v : Slot) → one_unless (same_slot o v) ≤ changed_in o v
slot_has_number [] v = omega arith
slot_has_number (x ∷ o) [] = omega arith
slot_has_number (x ∷ o) (y ∷ v) =
    elim (eq_z x y) as (λ b. one_unless (b && same_slot o v) ≤ one_unless b + changed_in o v) [
      | true ↦ omega (arith, slot_has_number o v)
      | false ↦ omega arith
    ]

pub slots_have_numbers : (old new : Table) → changed_slots old new ≤ changed_numbers old new
slots_have_numbers [] new = omega arith
slots_have_numbers (o ∷ old) [] = omega arith
slots_have_numbers (o ∷ old) (v ∷ new) = omega (arith, slot_has_number o v, slots_have_numbers old new)

-- ---- the count

length-closed : (xs : List Sent) → length (closed xs) ≡ cond (eqb (length xs) 0) 0 (1 + length xs)
length-closed [] = refl
length-closed (x ∷ xs) = rw (eqb-suc-zero (length xs)) (omega (arith, length-append (x ∷ xs) (send_report ∷ [])))

pub sending-count : (c : ℕ) (old new : Table) → length (sending c old new) ≡ fewest c old new
sending-count c old new =
    let few : changed_others c old new ≤ changed_numbers old new = omega (arith, slots_split c old new, slots_have_numbers old new) in
    length-closed (body c old new) ∙ by_numbers (length (body c old new)) (changed_numbers old new) (changed_others c old new) (length-body c old new) few
  where
    by_numbers : (n a b : ℕ) → n ≡ a + b → b ≤ a → cond (eqb n 0) 0 (1 + n) ≡ cond (eqb a 0) 0 (1 + a + b)
    by_numbers n a b e l =
        (elim (eqb a 0) as (λ t. eqb a 0 ≡ t → cond (eqb n 0) 0 (1 + n) ≡ cond t 0 (1 + a + b)) [
          | true ↦ λ q. by_zero (eqb n 0) refl q
          | false ↦ λ q. by_some (eqb n 0) refl q
        ]) refl
      where
        by_zero : (t : Bool) → eqb n 0 ≡ t → eqb a 0 ≡ true → cond t 0 (1 + n) ≡ 0
        by_zero true p q = refl
        by_zero false p q = absurd (eqb-false n 0 p (omega (arith, eqb-true a 0 q)))

        by_some : (t : Bool) → eqb n 0 ≡ t → eqb a 0 ≡ false → cond t 0 (1 + n) ≡ 1 + a + b
        by_some true p q = absurd (eqb-false a 0 q (omega (arith, eqb-true n 0 p)))
        by_some false p q = omega arith

-- None if no number changes; else one, one for each changed number, and one for each changed slot other than the current.
pub event-count : (p : Panel) (c : ℕ) (old new : Table) → length (events_sent p c old new) ≡ fewest c old new
event-count p c old new = length-map (sending c old new) (event_of (field_codes p.fields)) ∙ sending-count c old new
