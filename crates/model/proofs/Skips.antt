-- What a run tells of the events that it skipped: the two counts by the events' numbers, their sum, the first one, and that nothing else of a run
-- depends on why an event was skipped. Cited by link. Assumes nothing.
use mathlib.Core.Path.{◌≡◌, refl, sym, ap, ap₂, ◌∙◌}
use mathlib.Core.Bool.{Bool, true, false, cond, false≢true}
use mathlib.Core.List.{List, [], ◌∷◌, map}
use Prim.Native.Nat.{ℕ, ◌+◌}
use native.Mathlib.Omega.{arith}
use lib.Dec.{eqb, ltb}
use lib.IntN.{ℤ, pos, negsuc}
use borrow.Author.Tests.{eq-eqb, ne_eqb, eqb-true, eqb-false}
use Rattle.model.specs.Panel.{Field, Panel, slot_code, unlisted, field_codes}
use Rattle.model.specs.Table.{fits, ids_differ}
use Rattle.model.specs.Events.{Event, Act, skip, bad, report, loss, slot, number, Unknown, of_type, of_code, later, number_act, slot_act, syn_act, abs_act, classify}
use Rattle.model.specs.Reader as R
use Rattle.model.specs.Reader.{Mode, following, dropped, stale, Reader, step, steps, read, Skipped, event, earlier, Counts, nothing, one_shown, one_bad, plus, count_in, count_all}
use Rattle.model.specs.Skips.{known_type, known_code, type_unknown, code_unknown, skipped_by, one_if, met, FirstSkipped, SkipsTold, plain}

-- ---- an event and what it asks

-- What an act tells of its event: it is listed, or its type or its code is unknown, and the act has its type and code.
pub record Listed (p : Panel) (e : Event) : Type 0 where
  pub type : known_type e ≡ true
  pub code : known_code p e ≡ true

pub record Unlisted (e : Event) (t c : ℕ) : Type 0 where
  pub type : e.type ≡ t
  pub code : e.code ≡ c

abbrev pub Told : Panel → Event → Act → Type 0
Told p e (skip of_type t c) = (known_type e ≡ false) × Unlisted e t c
Told p e (skip of_code t c) = (known_type e ≡ true) × (known_code p e ≡ false) × Unlisted e t c
Told p e bad = Listed p e
Told p e report = Listed p e
Told p e loss = Listed p e
Told p e (slot k) = Listed p e
Told p e (number i v) = Listed p e

pub by_cond : (P : Act → Type 0) (b : Bool) (x y : Act) → (b ≡ true → P x) → (b ≡ false → P y) → P (cond b x y)
by_cond P true x y f g = f refl
by_cond P false x y f g = g refl

flip : (a b : ℕ) (t : Bool) → eqb a b ≡ t → eqb b a ≡ t
flip a b true e = eq-eqb b a (sym (eqb-true a b e))
flip a b false e = ne_eqb b a (λ q. eqb-false a b e (sym q))

-- A number's act: skipped exactly where no field has the code.
abbrev Numbered : List ℕ → ℕ → Act → Type 0
Numbered codes c (skip of_type t k) = ⊥
Numbered codes c (skip of_code t k) = (unlisted c codes ≡ true) × (t ≡ 3) × (k ≡ c)
Numbered codes c bad = unlisted c codes ≡ false
Numbered codes c report = unlisted c codes ≡ false
Numbered codes c loss = unlisted c codes ≡ false
Numbered codes c (slot k) = unlisted c codes ≡ false
Numbered codes c (number i v) = unlisted c codes ≡ false

numbered-later : (d : ℕ) (codes : List ℕ) (c : ℕ) (x : Act) → eqb d c ≡ false → Numbered codes c x → Numbered (d ∷ codes) c (later x)
numbered-later d codes c (skip of_type t k) e n = n
numbered-later d codes c (skip of_code t k) e n = (rw e n.0, n.1, n.2)
numbered-later d codes c bad e n = rw e n
numbered-later d codes c report e n = rw e n
numbered-later d codes c loss e n = rw e n
numbered-later d codes c (slot k) e n = rw e n
numbered-later d codes c (number i v) e n = rw e n

numbered : (fs : List Field) (c : ℕ) (v : ℤ) → Numbered (field_codes fs) c (number_act fs c v)
numbered [] c v = (refl, refl, refl)
numbered (f ∷ fs) c v =
    by_cond (Numbered (field_codes (f ∷ fs)) c) (eqb c f.code) (cond (fits f v) (number 0 v) bad) (later (number_act fs c v))
    (λ e. by_cond (Numbered (field_codes (f ∷ fs)) c) (fits f v) (number 0 v) bad (λ _. rw (flip c f.code true e)) (λ _. rw (flip c f.code true e)))
    (λ e. numbered-later f.code (field_codes fs) c (number_act fs c v) (flip c f.code false e) (numbered fs c v))

-- SYN_MT_REPORT, as one code of type 0 by its value: with another definition the law below would fail for its shape alone.
syn_2_told : syn_act 2 ≡ skip of_code 0 2
syn_2_told = refl

module _ (p : Panel) (e : Event) where
  abbrev codes : List ℕ
  codes = field_codes p.fields

  module _ (z : eqb e.type 0 ≡ true) where
    told_syn : Told p e (syn_act e.code)
    told_syn =
        let t : known_type e ≡ true = rw z in
        by_cond (Told p e) (eqb e.code 0) report _
        (λ a. record { type = t; code = rw (z, a) })
        (λ a. by_cond (Told p e) (eqb e.code 3) loss _
        (λ b. record { type = t; code = rw (z, a, b) })
        (λ b. (t, rw (z, a, b), record { type = eqb-true e.type 0 z; code = refl })))

  module _ (z : eqb e.type 0 ≡ false) (three : eqb e.type 3 ≡ true) where
    known : known_type e ≡ true
    known = rw (z, three)

    of_slot : eqb e.code slot_code ≡ true → known_code p e ≡ true
    of_slot a = rw (z, a)

    told-slot : (v : ℤ) → eqb e.code slot_code ≡ true → Told p e (slot_act p.slots v)
    told-slot (pos k) a = by_cond (Told p e) (ltb k p.slots) (slot k) bad (λ _. record { type = known; code = of_slot a }) (λ _. record { type = known; code = of_slot a })
    told-slot (negsuc k) a = record { type = known; code = of_slot a }

    listed : eqb e.code slot_code ≡ false → unlisted e.code codes ≡ false → Listed p e
    listed a u = record { type = known; code = rw (z, a, u) }

    told-number : (x : Act) → eqb e.code slot_code ≡ false → Numbered codes e.code x → Told p e x
    told-number (skip of_type t c) a n = absurd n
    told-number (skip of_code t c) a n = (known, rw (z, a, n.0), record { type = eqb-true e.type 3 three ∙ sym n.1; code = sym n.2 })
    told-number bad a n = listed a n
    told-number report a n = listed a n
    told-number loss a n = listed a n
    told-number (slot k) a n = listed a n
    told-number (number i v) a n = listed a n

  -- An act tells of its event what the event's numbers say.
  pub told : Told p e (classify p e)
  told =
      by_cond (Told p e) (eqb e.type 0) (syn_act e.code) _ told_syn
      (λ z. by_cond (Told p e) (eqb e.type 3) (abs_act p e.code e.value) _
      (λ three. by_cond (Told p e) (eqb e.code slot_code) (slot_act p.slots e.value) _
      (told-slot z three e.value)
      (λ a. told-number z three (number_act p.fields e.code e.value) a (numbered p.fields e.code e.value)))
      (λ three. (rw (z, three), record { type = refl; code = refl })))

-- ---- one event of a run

-- What one event adds, by its act: one of its count where it is unknown, and its type and code.
pub record Adds (p : Panel) (m : Mode) (e : Event) (a : Counts) : Type 0 where
  pub types : a.types ≡ one_if m (type_unknown e)
  pub codes : a.codes ≡ one_if m (code_unknown p e)
  pub either : a.types + a.codes ≡ one_if m (skipped_by p e)

ignored_adds : (p : Panel) (m : Mode) (e : Event) → R.Lost m → Adds p m e (R.ignoring 1)
ignored_adds p following e l = absurd l
ignored_adds p dropped e l = record { types = refl; codes = refl; either = refl }
ignored_adds p stale e l = record { types = refl; codes = refl; either = refl }

quiet_adds : (p : Panel) (e : Event) (a : Counts) → Listed p e → a.types ≡ 0 → a.codes ≡ 0 → Adds p following e a
quiet_adds p e a l t c =
    let k = l.type in
    let d = l.code in
    record { types = t ∙ rw k; codes = c ∙ rw (k, d); either = ap₂ (λ x y. x + y) t c ∙ rw (k, d) }

report_adds : (p : Panel) (e : Event) (b : Bool) → Listed p e → Adds p following e (cond b one_shown one_bad)
report_adds p e true l = quiet_adds p e one_shown l refl refl
report_adds p e false l = quiet_adds p e one_bad l refl refl

act_adds : (p : Panel) (r : Reader) (e : Event) (x : Act) → Told p e x → Adds p following e (R.count_following r x)
act_adds p r e (skip of_type t c) n =
    let k = n.0 in
    record { types = rw k; codes = rw k; either = rw k }
act_adds p r e (skip of_code t c) n =
    let k = n.0 in
    let d = n.1 in
    record { types = rw k; codes = rw (k, d); either = rw (k, d) }
act_adds p r e bad n = quiet_adds p e one_bad n refl refl
act_adds p r e report n = report_adds p e (ids_differ r.pending) n
act_adds p r e loss n = quiet_adds p e nothing n refl refl
act_adds p r e (slot k) n = quiet_adds p e nothing n refl refl
act_adds p r e (number i v) n = quiet_adds p e nothing n refl refl

mode_adds : (p : Panel) (m : Mode) (r : Reader) (e : Event) → Adds p m e (count_in m r (classify p e))
mode_adds p following r e = act_adds p r e (classify p e) (told p e)
mode_adds p dropped r e = ignored_adds p dropped e tt
mode_adds p stale r e = ignored_adds p stale e tt

-- ---- a run

-- The counts of a run over events.
abbrev pub counts_of : Panel → Reader → List Event → Counts
counts_of p r es = count_all r (map (classify p) es)

-- The first count is of the events of an unknown type that find the reader following.
types_are : (p : Panel) (r : Reader) (es : List Event) → (counts_of p r es).types ≡ met p type_unknown r es
types_are p r [] = refl
types_are p r (e ∷ es) = ap₂ (λ a b. a + b) (mode_adds p r.mode r e).types (types_are p (step r (classify p e)) es)

-- The second is of those of a known type and an unknown code.
codes_are : (p : Panel) (r : Reader) (es : List Event) → (counts_of p r es).codes ≡ met p (code_unknown p) r es
codes_are p r [] = refl
codes_are p r (e ∷ es) = ap₂ (λ a b. a + b) (mode_adds p r.mode r e).codes (codes_are p (step r (classify p e)) es)

-- Together they are document 01's count of skipped events.
together : (p : Panel) (r : Reader) (es : List Event) → (counts_of p r es).types + (counts_of p r es).codes ≡ met p (skipped_by p) r es
together p r [] = refl
together p r (e ∷ es) =
    let a = count_in r.mode r (classify p e) in
    let b = counts_of p (step r (classify p e)) es in
    let swap : a.types + b.types + (a.codes + b.codes) ≡ a.types + a.codes + (b.types + b.codes) = omega arith in
    swap ∙ ap₂ (λ x y. x + y) (mode_adds p r.mode r e).either (together p (step r (classify p e)) es)

-- ---- the first

-- What an event's part of the first skipped says: none was skipped, or this one was, while following, and here are its type and code.
abbrev Named : Panel → Mode → Event → Skipped → Type 0
Named p m e R.none = one_if m (skipped_by p e) ≡ 0
Named p m e (event t c) = (m ≡ following) × (skipped_by p e ≡ true) × Unlisted e t c

quiet-named : (p : Panel) (e : Event) → Listed p e → Named p following e R.none
quiet-named p e l =
    let k = l.type in
    let d = l.code in
    rw (k, d)

report-named : (p : Panel) (e : Event) (b : Bool) → Listed p e → Named p following e (cond b one_shown one_bad).first
report-named p e true l = quiet-named p e l
report-named p e false l = quiet-named p e l

act_named : (p : Panel) (r : Reader) (e : Event) (x : Act) → Told p e x → Named p following e (R.count_following r x).first
act_named p r e (skip of_type t c) n = let k = n.0 in (refl, rw k, n.1)
act_named p r e (skip of_code t c) n = let k = n.0 in let d = n.1 in (refl, rw (k, d), n.2)
act_named p r e bad n = quiet-named p e n
act_named p r e report n = report-named p e (ids_differ r.pending) n
act_named p r e loss n = quiet-named p e n
act_named p r e (slot k) n = quiet-named p e n
act_named p r e (number i v) n = quiet-named p e n

mode-named : (p : Panel) (m : Mode) (r : Reader) (e : Event) → Named p m e (count_in m r (classify p e)).first
mode-named p following r e = act_named p r e (classify p e) (told p e)
mode-named p dropped r e = refl
mode-named p stale r e = refl

abbrev type_in : Skipped → ℕ
type_in R.none = 0
type_in (event t c) = t

abbrev code_in : Skipped → ℕ
code_in R.none = 0
code_in (event t c) = c

abbrev is_event : Skipped → Bool
is_event R.none = false
is_event (event t c) = true

-- The first skipped is the first event that was skipped while following.
first-is : (p : Panel) (r : Reader) (es : List Event) (t c : ℕ) → (counts_of p r es).first ≡ event t c → FirstSkipped p r es t c
first-is p r [] t c q = absurd (false≢true (ap is_event q))
first-is p r (e ∷ es) t c q =
    go (count_in r.mode r (classify p e)).first (first-is p (step r (classify p e)) es t c) (mode-named p r.mode r e) q
  where
    go : (f : Skipped) → ((counts_of p (step r (classify p e)) es).first ≡ event t c → FirstSkipped p (step r (classify p e)) es t c) → Named p r.mode e f
        → earlier f (counts_of p (step r (classify p e)) es).first ≡ event t c → FirstSkipped p r (e ∷ es) t c
    go R.none later n g =
        let w = later g in
        record {
          before = e ∷ w.before;
          it = w.it;
          after = w.after;
          cut = ap {B = List Event} (λ l. e ∷ l) w.cut;
          type = w.type;
          code = w.code;
          unknown = w.unknown;
          follows = w.follows;
          none = ap₂ (λ a b. a + b) n w.none;
        }
    go (event u d) later n g =
        record {
          before = [];
          it = e;
          after = es;
          cut = refl;
          type = n.2.type ∙ ap type_in g;
          code = n.2.code ∙ ap code_in g;
          unknown = n.1;
          follows = n.0;
          none = refl;
        }

-- Where one was skipped there is a first.
none_first : (p : Panel) (r : Reader) (es : List Event) → met p (skipped_by p) r es ≡ 0 → (counts_of p r es).first ≡ R.none
none_first p r [] z = refl
none_first p r (e ∷ es) z =
    go (count_in r.mode r (classify p e)).first (none_first p (step r (classify p e)) es (omega arith)) (mode-named p r.mode r e)
  where
    go : (f : Skipped) → (counts_of p (step r (classify p e)) es).first ≡ R.none → Named p r.mode e f
        → earlier f (counts_of p (step r (classify p e)) es).first ≡ R.none
    go R.none rest n = rest
    go (event u d) rest n =
        let one : one_if r.mode (skipped_by p e) ≡ 1 = ap₂ one_if n.0 n.1 in
        absurd (omega arith)

first-none : (p : Panel) (r : Reader) (es : List Event) → (counts_of p r es).first ≡ R.none → met p (skipped_by p) r es ≡ 0
first-none p r [] q = refl
first-none p r (e ∷ es) q = go (count_in r.mode r (classify p e)).first (first-none p (step r (classify p e)) es) (mode-named p r.mode r e) q
  where
    go : (f : Skipped) → ((counts_of p (step r (classify p e)) es).first ≡ R.none → met p (skipped_by p) (step r (classify p e)) es ≡ 0) → Named p r.mode e f
        → earlier f (counts_of p (step r (classify p e)) es).first ≡ R.none → met p (skipped_by p) r (e ∷ es) ≡ 0
    go R.none later n g = ap₂ (λ a b. a + b) n (later g)
    go (event u d) later n g = absurd (false≢true (sym (ap is_event g)))

-- All of it of a run.
pub skips-told : (p : Panel) (r : Reader) (es : List Event) → SkipsTold p r es (counts_of p r es)
skips-told p r es =
    record {
      types = types_are p r es;
      codes = codes_are p r es;
      together = together p r es;
      first = first-is p r es;
      zero = λ q. together p r es ∙ first-none p r es q;
      nothing = λ z. none_first p r es (sym (together p r es) ∙ z);
    }

-- ---- nothing else

plain_step : (m : Mode) (r : Reader) (x : Act) → R.step_in m r (plain x) ≡ R.step_in m r x
plain_step following r (skip w t c) = refl
plain_step following r bad = refl
plain_step following r report = refl
plain_step following r loss = refl
plain_step following r (slot k) = refl
plain_step following r (number i v) = refl
plain_step dropped r (skip w t c) = refl
plain_step dropped r bad = refl
plain_step dropped r report = refl
plain_step dropped r loss = refl
plain_step dropped r (slot k) = refl
plain_step dropped r (number i v) = refl
plain_step stale r (skip w t c) = refl
plain_step stale r bad = refl
plain_step stale r report = refl
plain_step stale r loss = refl
plain_step stale r (slot k) = refl
plain_step stale r (number i v) = refl

-- Why an event is skipped moves nothing of the reader.
pub plain-steps : (r : Reader) (xs : List Act) → steps r (map plain xs) ≡ steps r xs
plain-steps r [] = refl
plain-steps r (x ∷ xs) = ap (λ q. steps q (map plain xs)) (plain_step r.mode r x) ∙ plain-steps (step r x) xs

-- The three other counts.
abbrev pub others : Counts → Counts
others a = record { shown = a.shown; types = 0; codes = 0; bad = a.bad; ignored = a.ignored; first = R.none }

skip-others : (w : Unknown) (t c : ℕ) → others (R.one_skipped w t c) ≡ nothing
skip-others of_type t c = refl
skip-others of_code t c = refl

plain-count : (m : Mode) (r : Reader) (x : Act) → others (count_in m r (plain x)) ≡ others (count_in m r x)
plain-count following r (skip w t c) = sym (skip-others w t c)
plain-count following r bad = refl
plain-count following r report = refl
plain-count following r loss = refl
plain-count following r (slot k) = refl
plain-count following r (number i v) = refl
plain-count dropped r x = refl
plain-count stale r x = refl

-- Nor of the three other counts.
pub plain-others : (r : Reader) (xs : List Act) → others (count_all r (map plain xs)) ≡ others (count_all r xs)
plain-others r [] = refl
plain-others r (x ∷ xs) =
    ap₂ (λ a b. others (plus a b)) (plain-count r.mode r x) (ap (λ q. others (count_all q (map plain xs))) (plain_step r.mode r x) ∙ plain-others (step r x) xs)
