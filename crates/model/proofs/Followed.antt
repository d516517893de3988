-- What a run tells that ends following: it met nothing bad, no loss and no repeated ids, and ignored nothing. Cited by Shift and NarrowReader.
-- Assumes nothing.
use mathlib.Core.Path.{◌≡◌, refl, sym, ap, ap₂, ◌∙◌, subst}
use mathlib.Core.Bool.{Bool, true, false, not, cond}
use mathlib.Core.List.{List, [], ◌∷◌, map}
use Prim.Native.Nat.{ℕ}
use lib.Dec.{T, eqb, ltb}
use lib.IntN.{ℤ, pos, negsuc}
use Rattle.model.proofs.AtReport.{NoReport}
use Rattle.model.proofs.Lost.{lost_by_bad, never_follows}
use Rattle.model.proofs.Skips.{Listed, Told, by_cond, told, counts_of}
use Rattle.model.specs.Panel.{Field, Panel, slot_code}
use Rattle.model.specs.Table.{ids_differ, fits}
use Rattle.model.specs.Events.{Event, Act, skip, bad, report, loss, slot, number, of_type, of_code, later, number_act, slot_act, syn_act, abs_act, classify}
use Rattle.model.specs.Reader as R
use Rattle.model.specs.Reader.{Mode, following, dropped, stale, Lost, Reader, lose, reported, step_following, step_in, step, steps, read, run}
use Rattle.model.specs.Reader.{Skipped, event, earlier, Counts, nothing, one_shown, one_bad, plus, count_following, count_in}
use Rattle.model.specs.Loss.{is_report}
use Rattle.model.specs.Skips.{type_unknown, code_unknown, skipped_by}
use Rattle.model.specs.Shift.{followed}

-- ---- it never lost track

-- A run that ends following began so.
pub follows-first : (r : Reader) (xs : List Act) → (steps r xs).mode ≡ following → r.mode ≡ following
follows-first r xs h = by_mode r.mode refl
  where
    by_mode : (m : Mode) → r.mode ≡ m → m ≡ following
    by_mode following e = refl
    by_mode dropped e = absurd (never_follows r xs (subst Lost (sym e) tt) h)
    by_mode stale e = absurd (never_follows r xs (subst Lost (sym e) tt) h)

-- A bad value.
abbrev pub is_bad : Act → Bool
is_bad (skip w t c) = false
is_bad bad = true
is_bad report = false
is_bad loss = false
is_bad (slot k) = false
is_bad (number i v) = false

-- It met none.
pub no_bad : (r : Reader) (x : Act) (xs : List Act) → (steps r (x ∷ xs)).mode ≡ following → T (not (is_bad x))
no_bad r (skip w t c) xs e = tt
no_bad r bad xs e = absurd (never_follows (step r bad) xs (lost_by_bad r.mode r refl) e)
no_bad r report xs e = tt
no_bad r loss xs e = tt
no_bad r (slot k) xs e = tt
no_bad r (number i v) xs e = tt

-- ---- a report is asked for by SYN_REPORT alone

abbrev Reports : Event → Act → Type 0
Reports e (skip w t c) = is_report e ≡ false
Reports e bad = is_report e ≡ false
Reports e report = is_report e ≡ true
Reports e loss = is_report e ≡ false
Reports e (slot k) = is_report e ≡ false
Reports e (number i v) = is_report e ≡ false

other : (e : Event) (x : Act) → is_report e ≡ false → NoReport x → Reports e x
other e (skip w t c) q n = q
other e bad q n = q
other e report q n = absurd n
other e loss q n = q
other e (slot k) q n = q
other e (number i v) q n = q

later_other : (x : Act) → NoReport x → NoReport (later x)
later_other (skip w t c) n = n
later_other bad n = n
later_other report n = n
later_other loss n = n
later_other (slot k) n = n
later_other (number i v) n = n

number_other : (fs : List Field) (c : ℕ) (v : ℤ) → NoReport (number_act fs c v)
number_other [] c v = tt
number_other (f ∷ fs) c v =
    by_cond NoReport (eqb c f.code) (cond (fits f v) (number 0 v) bad) (later (number_act fs c v))
    (λ _. by_cond NoReport (fits f v) (number 0 v) bad (λ _. tt) (λ _. tt))
    (λ _. later_other (number_act fs c v) (number_other fs c v))

slot_other : (n : ℕ) (v : ℤ) → NoReport (slot_act n v)
slot_other n (pos k) = by_cond NoReport (ltb k n) (slot k) bad (λ _. tt) (λ _. tt)
slot_other n (negsuc k) = tt

reports : (p : Panel) (e : Event) → Reports e (classify p e)
reports p e =
    by_cond (Reports e) (eqb e.type 0) (syn_act e.code) _
    (λ z. by_cond (Reports e) (eqb e.code 0) report _
    (λ a. rw (z, a))
    (λ a. by_cond (Reports e) (eqb e.code 3) loss _ (λ _. rw (z, a)) (λ _. rw (z, a))))
    (λ z. by_cond (Reports e) (eqb e.type 3) (abs_act p e.code e.value) _
    (λ _. other e (abs_act p e.code e.value) (rw z)
    (by_cond NoReport (eqb e.code slot_code) (slot_act p.slots e.value) _
    (λ _. slot_other p.slots e.value)
    (λ _. number_other p.fields e.code e.value)))
    (λ _. rw z))

-- ---- what it counted

-- What one event adds.
abbrev added : Panel → Event → Counts
added p e = record {
  shown = cond (is_report e) 1 0;
  types = cond (type_unknown e) 1 0;
  codes = cond (code_unknown p e) 1 0;
  bad = 0;
  ignored = 0;
  first = cond (skipped_by p e) (event e.type e.code) R.none;
}

listed_adds : (p : Panel) (e : Event) (b : Bool) → is_report e ≡ b → Listed p e → added p e ≡ cond b one_shown nothing
listed_adds p e true q l =
    let k = l.type in
    let d = l.code in
    rw (q, k, d)
listed_adds p e false q l =
    let k = l.type in
    let d = l.code in
    rw (q, k, d)

adds : (p : Panel) (r : Reader) (e : Event) (x : Act) (xs : List Act) → Told p e x → Reports e x → (steps (step_following r x) xs).mode ≡ following
    → count_following r x ≡ added p e
adds p r e (skip of_type t c) xs n q h =
    let k = n.0 in
    let a = n.1.type in
    let b = n.1.code in
    rw (q, k, a, b)
adds p r e (skip of_code t c) xs n q h =
    let k = n.0 in
    let d = n.1 in
    let a = n.2.type in
    let b = n.2.code in
    rw (q, k, d, a, b)
adds p r e bad xs n q h = absurd (never_follows (lose dropped r) xs tt h)
adds p r e report xs n q h =
    (elim (ids_differ r.pending) as (λ b. (steps (reported b r) xs).mode ≡ following → cond b one_shown one_bad ≡ one_shown) [
      | true ↦ λ _. refl
      | false ↦ λ g. absurd (never_follows (lose stale r) xs tt g)
    ]) h
    ∙ sym (listed_adds p e true q n)
adds p r e loss xs n q h = absurd (never_follows (lose dropped r) xs tt h)
adds p r e (slot k) xs n q h = sym (listed_adds p e false q n)
adds p r e (number i v) xs n q h = sym (listed_adds p e false q n)

earlier-cond : (b : Bool) (t c : ℕ) (f : Skipped) → earlier (cond b (event t c) R.none) f ≡ cond b (event t c) f
earlier-cond true t c f = refl
earlier-cond false t c f = refl

-- A run that ends following showed a table for each SYN_REPORT and skipped the unknown events, and no other count moved.
pub followed-counts : (p : Panel) (r : Reader) (es : List Event) → (read p r es).mode ≡ following → counts_of p r es ≡ followed p es
followed-counts p r [] h = refl
followed-counts p r (e ∷ es) h =
    let x = classify p e in
    let xs = map (classify p) es in
    let all = followed p (e ∷ es) in
    let f = follows-first r (x ∷ xs) h in
    let one = ap (λ m. count_in m r x) f ∙ adds p r e x xs (told p e) (reports p e) (subst (λ m. (steps (step_in m r x) xs).mode ≡ following) f h) in
    ap₂ plus one (followed-counts p (step r x) es h)
    ∙ ap (λ a. record { shown = all.shown; types = all.types; codes = all.codes; bad = 0; ignored = 0; first = a })
    (earlier-cond (skipped_by p e) e.type e.code (followed p es).first)

-- So the whole run is told by where it ends.
pub followed-run : (p : Panel) (r q : Reader) (es : List Event) → read p r es ≡ q → q.mode ≡ following
    → run p r es ≡ record { reader = q; counts = followed p es }
unfolding run
followed-run p r q es e m = ap₂ (λ a c. record { reader = a; counts = c }) e (followed-counts p r es (ap (λ (a : Reader). a.mode) e ∙ m))
