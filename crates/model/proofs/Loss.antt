-- A reported loss is not forgotten: SYN_DROPPED, a bad value and a report of repeated ids each take a reader off the track, whatever was
-- read before and comes after. Cited by Chain. Assumes nothing.
use mathlib.Core.Path.{◌≡◌, refl, sym, ap, subst}
use mathlib.Core.Bool.{Bool, true, false, not, ◌&&◌, ◌||◌}
use mathlib.Core.List.{List, [], ◌∷◌, ◌++◌}
use Prim.Native.Nat.{ℕ}
use lib.Dec.{T, eqb, eqb→eq}
use lib.IntN.{ℤ, pos, negsuc}
use borrow.Author.Tests.{eq-eqb}
use Rattle.model.proofs.Bools.{is_true, is_false, both_left, both_right}
use Rattle.model.proofs.Codes.{tells}
use Rattle.model.proofs.Lost.{lost_by_loss, lost_by_bad, lost_by_report, lost_reads}
use Rattle.model.proofs.Cut.{read_append}
use Rattle.model.specs.Panel.{Field, Panel, slot_code, unlisted, codes_differ, field_codes, tellable}
use Rattle.model.specs.Table.{fits}
use Rattle.model.specs.Events.{Event, Act, bad, report, loss, later, number_act, slot_act, syn_act, classify}
use Rattle.model.specs.Reader.{Lost, Reader, step, read}
use Rattle.model.specs.Loss.{is_dropped, is_report, slot_fits, bad_number, bad_value, loses_track}

-- ---- what such an event asks

-- One of two tests passed.
either : {P : Type 0} (a b : Bool) → T (a || b) → (T a → P) → (T b → P) → P
either true b h f g = f tt
either false b h f g = g h

dropped_asks : (p : Panel) (e : Event) → T (is_dropped e) → classify p e ≡ loss
dropped_asks p e h =
    rw (is_true (eqb e.type 0) (both_left (eqb e.type 0) _ h)) (ap syn_act (eqb→eq e.code 3 (both_right (eqb e.type 0) _ h)))

report_asks : (p : Panel) (e : Event) → T (is_report e) → classify p e ≡ report
report_asks p e h =
    rw (is_true (eqb e.type 0) (both_left (eqb e.type 0) _ h)) (ap syn_act (eqb→eq e.code 0 (both_right (eqb e.type 0) _ h)))

-- No field has a code that is unlisted.
none-bad : (fs : List Field) (c : ℕ) (v : ℤ) → T (unlisted c (field_codes fs)) → T (bad_number fs c v) → ⊥
none-bad [] c v u h = h
none-bad (f ∷ fs) c v u h =
    either (eqb c f.code && not (fits f v)) (bad_number fs c v) h
    (λ a. clash (eqb f.code c) (both_left (not (eqb f.code c)) _ u) (eq-eqb f.code c (sym (eqb→eq c f.code (both_left (eqb c f.code) _ a)))))
    (none-bad fs c v (both_right (not (eqb f.code c)) _ u))
  where
    clash : (b : Bool) → T (not b) → b ≡ true → ⊥
    clash b n e = subst (λ x. T (not x)) e n

number-bad : (fs : List Field) (c : ℕ) (v : ℤ) → T (codes_differ (field_codes fs)) → T (bad_number fs c v) → number_act fs c v ≡ bad
number-bad [] c v d h = absurd h
number-bad (f ∷ fs) c v d h = by_code (eqb c f.code) refl (number-bad fs c v (both_right (unlisted f.code (field_codes fs)) _ d))
  where
    -- A value that fits leaves the later fields, and none of those has the code.
    by_fit : (b : Bool) → fits f v ≡ b → eqb c f.code ≡ true → number_act (f ∷ fs) c v ≡ bad
    by_fit false e q = rw (q, e)
    by_fit true e q =
        let same = eqb→eq c f.code (subst T (sym q) tt) in
        let apart = subst (λ x. T (unlisted x (field_codes fs))) (sym same) (both_left (unlisted f.code (field_codes fs)) _ d) in
        absurd (either (eqb c f.code && not (fits f v)) (bad_number fs c v) h
        (λ a. subst (λ x. T (not x)) e (both_right (eqb c f.code) _ a))
        (none-bad fs c v apart))

    by_code : (b : Bool) → eqb c f.code ≡ b → (T (bad_number fs c v) → number_act fs c v ≡ bad) → number_act (f ∷ fs) c v ≡ bad
    by_code true q on = by_fit (fits f v) refl q
    by_code false q on =
        let rest = either (eqb c f.code && not (fits f v)) (bad_number fs c v) h (λ a. absurd (subst T q (both_left (eqb c f.code) _ a))) (λ b. b) in
        rw q (ap later (on rest))

slot-bad : (n : ℕ) (v : ℤ) → T (not (slot_fits n v)) → slot_act n v ≡ bad
slot-bad n (pos k) h = rw (is_false (slot_fits n (pos k)) h)
slot-bad n (negsuc k) h = refl

bad_asks : (p : Panel) (e : Event) → T (tellable p) → T (bad_value p e) → classify p e ≡ bad
bad_asks p e w h = by_code (eqb e.code slot_code) refl (both_right (eqb e.type 3) _ h)
  where
    three : e.type ≡ 3
    three = eqb→eq e.type 3 (both_left (eqb e.type 3) _ h)

    bad_slot : Bool
    bad_slot = eqb e.code slot_code && not (slot_fits p.slots e.value)

    bad_other : Bool
    bad_other = bad_number p.fields e.code e.value

    by_code : (b : Bool) → eqb e.code slot_code ≡ b → T (bad_slot || bad_other) → classify p e ≡ bad
    by_code true q which =
        let apart = subst (λ c. T (unlisted c (field_codes p.fields))) (sym (eqb→eq e.code slot_code (subst T (sym q) tt))) (tells p w).slot_apart in
        rw (three, q)
        (either bad_slot bad_other which
        (λ a. slot-bad p.slots e.value (both_right (eqb e.code slot_code) _ a))
        (λ b. absurd (none-bad p.fields e.code e.value apart b)))
    by_code false q which =
        rw (three, q)
        (number-bad p.fields e.code e.value (tells p w).codes_apart
        (either bad_slot bad_other which (λ a. absurd (subst T q (both_left (eqb e.code slot_code) _ a))) (λ b. b)))

-- ---- one such event

-- In whatever mode it is found, an event that takes a following reader off the track leaves the reader lost.
pub loses : (p : Panel) (r : Reader) (e : Event) → T (tellable p) → T (loses_track p r.pending e) → Lost (step r (classify p e)).mode
loses p r e w h =
    either (is_dropped e) _ h
    (λ a. by loss (dropped_asks p e a) (lost_by_loss r.mode r refl))
    (λ b. either (bad_value p e) _ b
    (λ a. by bad (bad_asks p e w a) (lost_by_bad r.mode r refl))
    (λ c. by report (report_asks p e (both_left (is_report e) _ c)) (lost_by_report r.mode r refl (both_right (is_report e) _ c))))
  where
    by : (x : Act) → classify p e ≡ x → Lost (step r x).mode → Lost (step r (classify p e)).mode
    by x q l = subst (λ y. Lost (step r y).mode) (sym q) l

-- And whatever follows, it stays lost.
pub loss_lasts : (p : Panel) (r : Reader) (xs ys : List Event) (e : Event) → T (tellable p)
    → T (loses_track p (read p r xs).pending e) → Lost (read p r (xs ++ e ∷ ys)).mode
loss_lasts p r xs ys e w h =
    subst (λ (q : Reader). Lost q.mode) (sym (read_append p r xs (e ∷ ys)))
    (lost_reads p (step (read p r xs) (classify p e)) ys (loses p (read p r xs) e w h))
