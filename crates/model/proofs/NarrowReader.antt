-- K1, the reader alone: one with the first numbers of a longer reader's slots, given events that are no bad values to the longer one, ends as that
-- one does, its tables cut. Cited by Narrow. Assumes nothing.
use mathlib.Core.Path.{◌≡◌, refl, sym, ap, ap₂, ◌∙◌, subst}
use mathlib.Core.Bool.{Bool, true, false, not, cond, ◌&&◌, ◌||◌}
use mathlib.Core.List.{List, [], ◌∷◌, map}
use Prim.Native.Nat.{ℕ, zero, suc, ◌-◌, ◌≤◌}
use native.Mathlib.Omega.{arith}
use lib.Dec.{T, ltb, eqb, lt→ltb, ltb→lt, nltb→le, leb-suc-suc, leb-suc-zero}
use lib.IntN.{ℤ, pos, negsuc}
use lib.ListN.{set, take, length-map}
use lib.Seq.{length-take-le, take-set-lt, take-set-le}
-- Brought in so that it is checked first: a table that is cut wrongly then fails at the contact computed there.
use Rattle.model.proofs.Bools.{is_true, both, both_left, both_right}
use Rattle.model.proofs.Tables.{eq_slot→eq, eq_slot_self, eq_table→eq, eq_table_self, place, places, good_length, good-records, good-table, on_slot-id}
use Rattle.model.proofs.ReaderSteady.{SteadyReader, fit, step_steady}
use Rattle.model.proofs.Calls.{by_verdict}
use Rattle.model.proofs.Followed.{is_bad, no_bad}
use Rattle.model.specs.Numbers.{eq_z, minus_one}
use Rattle.model.specs.Panel.{Field, Panel, slot_code}
use Rattle.model.specs.Table.{Slot, Table, id_of, live, unheld, ids, ids_differ, fits, eq_slot, eq_table}
use Rattle.model.specs.Table.{good_slot, unused_slot, good_place, good_records, good_table}
use Rattle.model.specs.Events.{Event, Act, skip, bad, report, loss, slot, number, of_type, of_code, later, number_act, slot_act, syn_act, abs_act, classify}
use Rattle.model.specs.Reader.{Mode, following, dropped, stale, Lost, Reader, pend, reported, on_slot, step_in, step, read}
use Rattle.model.specs.States.{settled}
use Rattle.model.specs.Narrow.{cut_table, cut_reader, cut_panel}

-- ---- what an event asks of the short panel

-- An act of k fields, of an event with code c: a number of a later field is an unknown code.
abbrev cut_act : ℕ → ℕ → Act → Act
cut_act k c (skip w t d) = skip w t d
cut_act k c bad = bad
cut_act k c report = report
cut_act k c loss = loss
cut_act k c (slot j) = slot j
cut_act k c (number i v) = cond (ltb i k) (number i v) (skip of_code 3 c)

later_fine : (x : Act) → T (not (is_bad (later x))) → T (not (is_bad x))
later_fine (skip w t c) h = h
later_fine bad h = h
later_fine report h = h
later_fine loss h = h
later_fine (slot k) h = h
later_fine (number i v) h = h

later-cond : (b : Bool) (c i : ℕ) (v : ℤ) → later (cond b (number i v) (skip of_code 3 c)) ≡ cond b (number (suc i) v) (skip of_code 3 c)
later-cond true c i v = refl
later-cond false c i v = refl

later-cut : (k c : ℕ) (x : Act) → later (cut_act k c x) ≡ cut_act (suc k) c (later x)
later-cut k c (skip w t d) = refl
later-cut k c bad = refl
later-cut k c report = refl
later-cut k c loss = refl
later-cut k c (slot j) = refl
later-cut k c (number i v) = rw (leb-suc-suc (suc i) k) (later-cond (ltb i k) c i v)

-- A branch, each side of it cut where it is no bad value.
cond-cut : (k d : ℕ) (b : Bool) (x y a c : Act) → (T (not (is_bad x)) → a ≡ cut_act k d x) → (T (not (is_bad y)) → c ≡ cut_act k d y)
    → T (not (is_bad (cond b x y))) → cond b a c ≡ cut_act k d (cond b x y)
cond-cut k d true x y a c f g h = f h
cond-cut k d false x y a c f g h = g h

none-later : (c : ℕ) (x : Act) → skip of_code 3 c ≡ cut_act 0 c x → skip of_code 3 c ≡ cut_act 0 c (later x)
none-later c (skip w t d) e = e
none-later c bad e = e
none-later c report e = e
none-later c loss e = e
none-later c (slot j) e = e
none-later c (number i v) e = rw (leb-suc-zero (suc i))

number_cut : (k : ℕ) (fs : List Field) (c : ℕ) (v : ℤ) → T (not (is_bad (number_act fs c v))) → number_act (take k fs) c v ≡ cut_act k c (number_act fs c v)
number_cut zero [] c v h = refl
number_cut zero (f ∷ fs) c v h =
    let this = cond (fits f v) (number 0 v) bad in
    let rest = later (number_act fs c v) in
    (elim (eqb c f.code) as (λ b. T (not (is_bad (cond b this rest))) → skip of_code 3 c ≡ cut_act 0 c (cond b this rest)) [
      | true ↦ elim (fits f v) as (λ b. T (not (is_bad (cond b (number 0 v) bad))) → skip of_code 3 c ≡ cut_act 0 c (cond b (number 0 v) bad)) [
        | true ↦ λ _. refl
        | false ↦ λ n. absurd n
      ]
      | false ↦ λ n. none-later c (number_act fs c v) (number_cut zero fs c v (later_fine (number_act fs c v) n))
    ]) h
number_cut (suc k) [] c v h = refl
number_cut (suc k) (f ∷ fs) c v h =
    let this = cond (fits f v) (number 0 v) bad in
    cond-cut (suc k) c (eqb c f.code) this (later (number_act fs c v)) this (later (number_act (take k fs) c v))
    (cond-cut (suc k) c (fits f v) (number 0 v) bad (number 0 v) bad (λ _. rw (is_true (ltb 0 (suc k)) (lt→ltb 0 (suc k) (omega arith)))) (λ _. refl))
    (λ n. ap later (number_cut k fs c v (later_fine (number_act fs c v) n)) ∙ later-cut k c (number_act fs c v))
    h

slot_act_cut : (k c n : ℕ) (v : ℤ) → T (not (is_bad (slot_act n v))) → slot_act n v ≡ cut_act k c (slot_act n v)
slot_act_cut k c n (pos j) h = cond-cut k c (ltb j n) (slot j) bad (slot j) bad (λ _. refl) (λ _. refl) h
slot_act_cut k c n (negsuc j) h = refl

-- The short panel takes an event for what is left of what the long one takes it for.
classify-cut : (k m : ℕ) (p : Panel) (e : Event) → T (not (is_bad (classify p e))) → classify (cut_panel k m p) e ≡ cut_act k e.code (classify p e)
classify-cut k m p e h =
    let c = e.code in
    let short = cut_panel k m p in
    cond-cut k c (eqb e.type 0) (syn_act c) _ (syn_act c) _
    (cond-cut k c (eqb c 0) report _ report _ (λ _. refl) (cond-cut k c (eqb c 3) loss (skip of_code 0 c) loss (skip of_code 0 c) (λ _. refl) (λ _. refl)))
    (cond-cut k c (eqb e.type 3) (abs_act p c e.value) (skip of_type e.type c) (abs_act short c e.value) (skip of_type e.type c)
    (cond-cut k c (eqb c slot_code) (slot_act p.slots e.value) _ (slot_act p.slots e.value) _
    (slot_act_cut k c p.slots e.value)
    (number_cut k p.fields c e.value))
    (λ _. refl))
    h

-- ---- the ids stay

id-cut : (k : ℕ) (s : Slot) → id_of (take (suc k) s) ≡ id_of s
id-cut k [] = refl
id-cut k (v ∷ s) = refl

id-unused : (fs : List Field) → id_of (unused_slot fs) ≡ minus_one
id-unused [] = refl
id-unused (f ∷ fs) = refl

id-past : (fs : List Field) (s : Slot) → T (good_place fs zero s) → id_of s ≡ minus_one
id-past fs s g = ap id_of (eq_slot→eq s (unused_slot fs) g) ∙ id-unused fs

-- The records past the panel's slots hold no live id.
past-unheld : (x : ℤ) (fs : List Field) (t : Table) → T (live x) → T (good_records fs zero t) → true ≡ unheld x (ids t)
past-unheld x fs [] a g = refl
past-unheld x fs (s ∷ t) a g =
    rw (id-past fs s (place fs zero s t g), is_true (not (eq_z x minus_one)) a) (past-unheld x fs t a (both_right (good_place fs zero s) _ g))

past-differ : (fs : List Field) (t : Table) → T (good_records fs zero t) → true ≡ ids_differ t
past-differ fs [] g = refl
past-differ fs (s ∷ t) g = rw (id-past fs s (place fs zero s t g)) (past-differ fs t (both_right (good_place fs zero s) _ g))

unheld-cut : (x : ℤ) (k : ℕ) (fs : List Field) (n m : ℕ) (t : Table) → T (live x) → n ≤ m → T (good_records fs n t)
    → unheld x (ids (cut_table (suc k) m t)) ≡ unheld x (ids t)
unheld-cut x k fs n zero t a l g = let z : n ≡ 0 = omega arith in past-unheld x fs t a (subst (λ j. T (good_records fs j t)) z g)
unheld-cut x k fs n (suc m) [] a l g = refl
unheld-cut x k fs n (suc m) (s ∷ t) a l g =
    ap₂ (λ i b. not (eq_z x i) && b) (id-cut k s) (unheld-cut x k fs (n - 1) m t a (omega arith) (places fs n s t g))

or_live : (a b c : Bool) → (T a → b ≡ c) → (not a || b) ≡ (not a || c)
or_live true b c f = f tt
or_live false b c f = refl

-- So the live ids of a good table differ just where those of its first records do, the panel's slots among these.
differ-cut : (k : ℕ) (fs : List Field) (n m : ℕ) (t : Table) → n ≤ m → T (good_records fs n t) → ids_differ (cut_table (suc k) m t) ≡ ids_differ t
differ-cut k fs n zero t l g = let z : n ≡ 0 = omega arith in past-differ fs t (subst (λ j. T (good_records fs j t)) z g)
differ-cut k fs n (suc m) [] l g = refl
differ-cut k fs n (suc m) (s ∷ t) l g =
    let rest = places fs n s t g in
    let cut = ids (cut_table (suc k) m t) in
    ap₂ (λ a b. a && b)
    (ap (λ i. not (live i) || unheld i cut) (id-cut k s)
    ∙ or_live (live (id_of s)) (unheld (id_of s) cut) (unheld (id_of s) (ids t)) (λ a. unheld-cut (id_of s) k fs (n - 1) m t a (omega arith) rest))
    (differ-cut k fs (n - 1) m t (omega arith) rest)

-- ---- a step, and events

on_slot-cut : (k m : ℕ) (t : Table) (c : ℕ) (f g : Slot → Slot) → ((s : Slot) → take k (f s) ≡ g (take k s))
    → cut_table k m (on_slot t c f) ≡ on_slot (cut_table k m t) c g
on_slot-cut k zero t c f g e = refl
on_slot-cut k (suc m) [] c f g e = refl
on_slot-cut k (suc m) (s ∷ t) zero f g e = ap {B = Table} (λ x. x ∷ cut_table k m t) (e s)
on_slot-cut k (suc m) (s ∷ t) (suc c) f g e = ap {B = Table} (λ x. take k s ∷ x) (on_slot-cut k m t c f g e)

reported-cut : (k m : ℕ) (b : Bool) (r : Reader) → reported b (cut_reader k m r) ≡ cut_reader k m (reported b r)
reported-cut k m true r = refl
reported-cut k m false r = refl

-- A number: one of the short reader's own fields is set there too, a later one leaves its table.
number_step : (k m c i : ℕ) (v : ℤ) (r : Reader)
    → step_in following (cut_reader k m r) (cut_act k c (number i v)) ≡ cut_reader k m (step_in following r (number i v))
number_step k m c i v r =
    let now : Table → Reader = λ t. pend (cut_reader k m r) t r.current in
    let table = cut_table k m r.pending in
    let long = cut_table k m (on_slot r.pending r.current (λ s. set s i v)) in
    (elim (ltb i k) as (λ b. (T b → on_slot table r.current (λ s. set s i v) ≡ long) → (T (not b) → table ≡ long)
    → step_in following (cut_reader k m r) (cond b (number i v) (skip of_code 3 c)) ≡ now long) [
      | true ↦ λ y n. ap now (y tt)
      | false ↦ λ y n. ap now (n tt)
    ])
    (λ t. sym (on_slot-cut k m r.pending r.current (λ s. set s i v) (λ s. set s i v) (λ s. take-set-lt k s i v (ltb→lt i k t))))
    (λ f. sym (on_slot-cut k m r.pending r.current (λ s. set s i v) (λ s. s) (λ s. take-set-le k s i v (nltb→le i k f)) ∙ on_slot-id table r.current))

-- A number is ignored in the other modes, and so is what is left of it.
ignored-cut : (o : Mode) (k c i : ℕ) (v : ℤ) (r : Reader) → Lost o → step_in o r (cut_act k c (number i v)) ≡ r
ignored-cut following k c i v r l = absurd l
ignored-cut dropped k c i v r l = by_verdict (λ (x : Act). step_in dropped r x ≡ r) (ltb i k) (number i v) (skip of_code 3 c) (λ _. refl) refl
ignored-cut stale k c i v r l = by_verdict (λ (x : Act). step_in stale r x ≡ r) (ltb i k) (number i v) (skip of_code 3 c) (λ _. refl) refl

step_cut : (k m c : ℕ) (o : Mode) (r : Reader) (x : Act) → ids_differ (cut_table k m r.pending) ≡ ids_differ r.pending
    → step_in o (cut_reader k m r) (cut_act k c x) ≡ cut_reader k m (step_in o r x)
step_cut k m c following r (skip w t d) e = refl
step_cut k m c following r bad e = refl
step_cut k m c following r report e = ap (λ b. reported b (cut_reader k m r)) e ∙ reported-cut k m (ids_differ r.pending) r
step_cut k m c following r loss e = refl
step_cut k m c following r (slot j) e = refl
step_cut k m c following r (number i v) e = number_step k m c i v r
step_cut k m c dropped r (skip w t d) e = refl
step_cut k m c dropped r bad e = refl
step_cut k m c dropped r report e = refl
step_cut k m c dropped r loss e = refl
step_cut k m c dropped r (slot j) e = refl
step_cut k m c dropped r (number i v) e = ignored-cut dropped k c i v (cut_reader k m r) tt
step_cut k m c stale r (skip w t d) e = refl
step_cut k m c stale r bad e = refl
step_cut k m c stale r report e = refl
step_cut k m c stale r loss e = refl
step_cut k m c stale r (slot j) e = refl
step_cut k m c stale r (number i v) e = ignored-cut stale k c i v (cut_reader k m r) tt

-- None of the events is a bad value to the panel.
abbrev pub NoBad : Panel → List Event → Type 0
NoBad p [] = Unit {0}
NoBad p (e ∷ es) = T (not (is_bad (classify p e))) × NoBad p es

-- So it is with events that leave a reader following.
pub followed_no_bad : (p : Panel) (r : Reader) (es : List Event) → (read p r es).mode ≡ following → NoBad p es
followed_no_bad p r [] h = tt
followed_no_bad p r (e ∷ es) h = (no_bad r (classify p e) (map (classify p) es) h, followed_no_bad p (step r (classify p e)) es h)

-- Events without a bad value to a well-formed long reader, a reported loss or repeated ids among them: the short reader ends as that one does, in
-- its mode and with its current slot, its tables cut.
pub reads-cut : (k m : ℕ) (p : Panel) (es : List Event) (r : Reader) → p.slots ≤ m → SteadyReader p r → NoBad p es
    → read (cut_panel (suc k) m p) (cut_reader (suc k) m r) es ≡ cut_reader (suc k) m (read p r es)
reads-cut k m p [] r n s h = refl
reads-cut k m p (e ∷ es) r n s h =
    let x = classify p e in
    let same = differ-cut k p.fields p.slots m r.pending n (good-records p r.pending s.pends) in
    ap (λ q. read (cut_panel (suc k) m p) q es)
    (ap (step (cut_reader (suc k) m r)) (classify-cut (suc k) m p e h.0) ∙ step_cut (suc k) m e.code r.mode r x same)
    ∙ reads-cut k m p es (step r x) n (step_steady p r.mode r x refl (fit p e) s) h.1

-- ---- the short reader is well formed

slot-cut : (k : ℕ) (fs : List Field) (s : Slot) → T (good_slot fs s) → T (good_slot (take k fs) (take k s))
slot-cut zero fs s g = tt
slot-cut (suc k) [] [] g = tt
slot-cut (suc k) [] (v ∷ s) g = absurd g
slot-cut (suc k) (f ∷ fs) [] g = absurd g
slot-cut (suc k) (f ∷ fs) (v ∷ s) g = both (fits f v) _ (both_left (fits f v) _ g) (slot-cut k fs s (both_right (fits f v) _ g))

zeros-cut : (k : ℕ) (fs : List Field) → take k (map (λ f. pos 0) fs) ≡ map (λ f. pos 0) (take k fs)
zeros-cut zero fs = refl
zeros-cut (suc k) [] = refl
zeros-cut (suc k) (f ∷ fs) = ap {B = List ℤ} (λ l. pos 0 ∷ l) (zeros-cut k fs)

-- An unused record that is cut is an unused record.
pub unused-cut : (k : ℕ) (fs : List Field) → take (suc k) (unused_slot fs) ≡ unused_slot (take (suc k) fs)
unused-cut k [] = refl
unused-cut k (f ∷ fs) = ap {B = List ℤ} (λ l. minus_one ∷ l) (zeros-cut k fs)

past-cut : (k : ℕ) (fs : List Field) (s : Slot) → T (good_place fs zero s) → T (good_place (take (suc k) fs) zero (take (suc k) s))
past-cut k fs s g =
    let unused = unused_slot (take (suc k) fs) in
    subst (λ z. T (eq_slot z unused)) (sym (ap (take (suc k)) (eq_slot→eq s (unused_slot fs) g) ∙ unused-cut k fs)) (eq_slot_self unused)

records-cut : (k : ℕ) (fs : List Field) (n m : ℕ) (t : Table) → n ≤ m → T (good_records fs n t) → T (good_records (take (suc k) fs) n (cut_table (suc k) m t))
records-cut k fs n zero t l g = let z : 0 ≡ n = omega arith in subst (λ j. T (good_records (take (suc k) fs) j [])) z tt
records-cut k fs zero (suc m) [] l g = tt
records-cut k fs (suc n) (suc m) [] l g = absurd g
records-cut k fs zero (suc m) (s ∷ t) l g =
    both (good_place (take (suc k) fs) zero (take (suc k) s)) _ (past-cut k fs s (place fs zero s t g))
    (records-cut k fs zero m t (omega arith) (both_right (good_place fs zero s) _ g))
records-cut k fs (suc n) (suc m) (s ∷ t) l g =
    both (good_slot (take (suc k) fs) (take (suc k) s)) _ (slot-cut (suc k) fs s (both_left (good_slot fs s) _ g))
    (records-cut k fs n m t (omega arith) (both_right (good_slot fs s) _ g))

table-cut : (k m : ℕ) (p : Panel) (t : Table) → p.slots ≤ m → m ≤ p.records → T (good_table p t) → T (good_table (cut_panel (suc k) m p) (cut_table (suc k) m t))
table-cut k m p t n h g =
    good-table (cut_panel (suc k) m p) (cut_table (suc k) m t)
    (length-map (take m t) (take (suc k)) ∙ length-take-le m t (omega (arith, good_length p t g)))
    (records-cut k p.fields p.slots m t n (good-records p t g))

settled-cut : (k m : ℕ) (o : Mode) (s p : Table) → T (settled o s p) → T (settled o (cut_table k m s) (cut_table k m p))
settled-cut k m following s p h = tt
settled-cut k m dropped s p h = subst (λ z. T (eq_table (cut_table k m s) (cut_table k m z))) (eq_table→eq s p h) (eq_table_self (cut_table k m s))
settled-cut k m stale s p h = subst (λ z. T (eq_table (cut_table k m s) (cut_table k m z))) (eq_table→eq s p h) (eq_table_self (cut_table k m s))

-- What is left of a well-formed reader is well formed, where the records hold the panel's slots.
pub cut_steady : (k m : ℕ) (p : Panel) (r : Reader) → p.slots ≤ m → m ≤ p.records → SteadyReader p r
    → SteadyReader (cut_panel (suc k) m p) (cut_reader (suc k) m r)
cut_steady k m p r n h s =
    record {
      shows = table-cut k m p r.shown n h s.shows;
      pends = table-cut k m p r.pending n h s.pends;
      differs = subst T (sym (differ-cut k p.fields p.slots m r.shown n (good-records p r.shown s.shows))) s.differs;
      below = s.below;
      settles = settled-cut (suc k) m r.mode r.shown r.pending s.settles;
    }
