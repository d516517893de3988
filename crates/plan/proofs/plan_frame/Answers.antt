-- `plan::plan_frame` judges the rows of a frame, makes its table and counter and tells what changes, up to the first contact that begins; the rest is `give_ids`'. Assumes nothing.
use borrow.Author.Rules.{rules}
use borrow.Author.Tests.{eq-eqb}
use mathlib.Core.Path.{◌≡◌, refl, sym, ap, subst, ◌∙◌}
use mathlib.Core.Bool.{true, false, not, cond, ◌&&◌, false≢true}
use mathlib.Core.List.{List}
use Prim.Native.Nat.{ℕ, ◌<◌, ◌≤◌, ◌+◌, ◌-◌, ◌*◌}
use native.Mathlib.Omega.{arith}
use lib.Dec.{eqb, eqb→eq}
use lib.IntN.{ℤ, pos}
use lib.ListN.{length, get_or, set, length-set}
use lib.Seq.{set-get_or}
use mir.Syntax.{w32}
use mir.Val.{SFits, of_z, to_z}
use mir.ValLaws.{to_z-of_z}
use Rattle.model.specs.Panel.{base, setup_good, per_slot, records}
use Rattle.model.specs.Numbers.{eq_z, minus_one}
use Rattle.model.specs.Table.{ids, live, numbers_of, good_slot}
use Rattle.model.specs.Frame.{kind_of, good_row, good_rows, none, goes_on, begins, fate, free_id, rows_from, slot_after, framed}
use Rattle.model.specs.Sending.{changed_in}
use Rattle.model.proofs.Bools.{holds, and_left, and_right, eq_z→eq}
use Rattle.model.proofs.Count.{none-changed}
use Rattle.model.proofs.Rows.{rows_none}
use Rattle.common.proofs.Signs.{first-false, first-true, or-true}
use Rattle.panel.specs.declared.Slot.{Slot}
use Rattle.panel.specs.declared.Setup.{Setup}
use Rattle.panel.specs.Seen.{row_of, slot_of, table_of, setup_of, fields_of, axes_of, blank}
use Rattle.panel.proofs.Setups.{small}
use Rattle.tally.specs.declared.Changed.{Changed}
use Rattle.tally.specs.Told.{with_slot, Tells}
use Rattle.tally.proofs.Told.{told-on, told-set}
use Rattle.plan.specs.Row.{begun, contact_of, stayed}
use Rattle.plan.specs.Quiet.{Of32}
use Rattle.plan.specs.Walk.{rows_good, plan_from, PlansBy}
use Rattle.plan.proofs.Still.{resting, same_by, slot-good, same-slot}
use Rattle.plan.proofs.Turn as Turn
use Rattle.plan.proofs.Turn.{good-plain, stayed-slot, gives-pressure}
use Rattle.plan.proofs.Skipped.{skipped}
use Rattle.plan.proofs.plan_frame.Invariants.{Kept}
use Rattle.plan.proofs.plan_frame.Goals.{After-differ-d, After-row_at-r, After-row_ok, After-same-in-loop-s-2, After-same-in-loop-s, Else-not-row_ok}
use Rattle.plan.proofs.plan_frame.Goals as goal

-- ---- slot s and its row

abbrev u : After-same-in-loop-s → Setup
u b = b.args.setup

abbrev u-at-After-row_ok : After-row_ok → Setup
u-at-After-row_ok b = b.args.setup

abbrev u-at-Else-not-row_ok : Else-not-row_ok → Setup
u-at-Else-not-row_ok b = b.args.setup

abbrev fr : After-same-in-loop-s → List ℤ
fr b = b.args.frame.now

abbrev fr-at-After-differ-d : After-differ-d → List ℤ
fr-at-After-differ-d b = b.args.frame.now

abbrev fr-at-After-row_ok : After-row_ok → List ℤ
fr-at-After-row_ok b = b.args.frame.now

abbrev fr-at-Else-not-row_ok : Else-not-row_ok → List ℤ
fr-at-Else-not-row_ok b = b.args.frame.now

abbrev fr-at-After-same-in-loop-s-2 : After-same-in-loop-s-2 → List ℤ
fr-at-After-same-in-loop-s-2 b = b.args.frame.now

abbrev old : After-same-in-loop-s → List Slot
old b = b.args.old

abbrev old-at-Else-not-row_ok : Else-not-row_ok → List Slot
old-at-Else-not-row_ok b = b.args.old

abbrev n : After-same-in-loop-s → ℕ
n b = (u b).n

abbrev s : After-same-in-loop-s → ℕ
s b = b.loop-s.s

abbrev s-at-After-differ-d : After-differ-d → ℕ
s-at-After-differ-d b = b.loop-s.s

abbrev s-at-After-row_ok : After-row_ok → ℕ
s-at-After-row_ok b = b.loop-s.s

abbrev s-at-Else-not-row_ok : Else-not-row_ok → ℕ
s-at-Else-not-row_ok b = b.loop-s.s

abbrev s-at-After-same-in-loop-s-2 : After-same-in-loop-s-2 → ℕ
s-at-After-same-in-loop-s-2 b = b.loop-s.s

abbrev t : After-same-in-loop-s → List Slot
t b = b.loop-s.t

abbrev t-at-After-differ-d : After-differ-d → List Slot
t-at-After-differ-d b = b.loop-s.t

abbrev t-at-Else-not-row_ok : Else-not-row_ok → List Slot
t-at-Else-not-row_ok b = b.loop-s.t

abbrev changed : After-same-in-loop-s → Changed
changed b = b.loop-s.changes

known : (b : After-same-in-loop-s) → Kept (u b) (old b) b.args.counter (fr b) (t b) (changed b) (s b)
known b = b.loop-s.invariant

good-setup : (b : After-same-in-loop-s) → setup_good base (setup_of (u b)) ≡ true
good-setup b = b.requires.given.setup

few : (b : After-same-in-loop-s) → n b ≤ records
few b = (small (u b) (good-setup b)).n

below : (b : After-same-in-loop-s) → s b < n b
below b = b.loop-s-test.true

inside : (b : After-same-in-loop-s) → s b < length (t b)
inside b = omega (arith, below b, (known b).slots, few b)

in_old : (b : After-same-in-loop-s) → s b < length (old b)
in_old b =
    let lo : length (old b) ≡ records = search rules in
    omega (arith, below b, few b)

own-kind-at-After-differ-d : (b : After-differ-d) → to_z w32 (of_z w32 b.row_at-r.result.first) ≡ (Turn.kind (fr-at-After-differ-d b) (s-at-After-differ-d b))
own-kind-at-After-differ-d b =
    let k = b.row_at-r.result.first in
    let f : SFits w32 k = search rules in
    to_z-of_z w32 k f ∙ ap kind_of b.row_at-r.ensures

own-kind-at-Else-not-row_ok : (b : Else-not-row_ok) → to_z w32 (of_z w32 b.row_at-r.result.first) ≡ (Turn.kind (fr-at-Else-not-row_ok b) (s-at-Else-not-row_ok b))
own-kind-at-Else-not-row_ok b =
    let k = b.row_at-r.result.first in
    let f : SFits w32 k = search rules in
    to_z-of_z w32 k f ∙ ap kind_of b.row_at-r.ensures

own-kind-at-After-same-in-loop-s-2 : (b : After-same-in-loop-s-2) → to_z w32 (of_z w32 b.row_at-r.result.first) ≡ (Turn.kind (fr-at-After-same-in-loop-s-2 b) (s-at-After-same-in-loop-s-2 b))
own-kind-at-After-same-in-loop-s-2 b =
    let k = b.row_at-r.result.first in
    let f : SFits w32 k = search rules in
    to_z-of_z w32 k f ∙ ap kind_of b.row_at-r.ensures

kind-read-1-at-After-differ-d : (b : After-differ-d) → b.same.result ≡ eq_z (Turn.kind (fr-at-After-differ-d b) (s-at-After-differ-d b)) (pos 1)
kind-read-1-at-After-differ-d b = b.same.ensures ∙ ap (λ z. eq_z z (pos 1)) (own-kind-at-After-differ-d b)

kind-read-1-at-Else-not-row_ok : (b : Else-not-row_ok) → b.same.result ≡ eq_z (Turn.kind (fr-at-Else-not-row_ok b) (s-at-Else-not-row_ok b)) (pos 1)
kind-read-1-at-Else-not-row_ok b = b.same.ensures ∙ ap (λ z. eq_z z (pos 1)) (own-kind-at-Else-not-row_ok b)

id-read-at-After-differ-d : (b : After-differ-d) → b.same-in-loop-s.result ≡ eq_z (get_or (t-at-After-differ-d b) (s-at-After-differ-d b) blank).id.0 minus_one
id-read-at-After-differ-d b =
    let f : SFits w32 (get_or (t-at-After-differ-d b) (s-at-After-differ-d b) blank).id.0 = search rules in
    b.same-in-loop-s.ensures ∙ ap (λ z. eq_z z minus_one) (to_z-of_z w32 (get_or (t-at-After-differ-d b) (s-at-After-differ-d b) blank).id.0 f)

id-read-at-Else-not-row_ok : (b : Else-not-row_ok) → b.same-in-loop-s.result ≡ eq_z (get_or (t-at-Else-not-row_ok b) (s-at-Else-not-row_ok b) blank).id.0 minus_one
id-read-at-Else-not-row_ok b =
    let f : SFits w32 (get_or (t-at-Else-not-row_ok b) (s-at-Else-not-row_ok b) blank).id.0 = search rules in
    b.same-in-loop-s.ensures ∙ ap (λ z. eq_z z minus_one) (to_z-of_z w32 (get_or (t-at-Else-not-row_ok b) (s-at-Else-not-row_ok b) blank).id.0 f)

kind-read-0 : (o : After-same-in-loop-s-2) → o.same-in-loop-s-2.result ≡ eq_z (Turn.kind (fr-at-After-same-in-loop-s-2 o) (s-at-After-same-in-loop-s-2 o)) (pos 0)
kind-read-0 o = o.same-in-loop-s-2.ensures ∙ ap (λ z. eq_z z (pos 0)) (own-kind-at-After-same-in-loop-s-2 o)

-- The row's numbers are of 32 bits.
fitting : (c : After-row_at-r) → Of32 (row_of c.row_at-r.result)
fitting c =
    let r = c.row_at-r.result in
    let k : SFits w32 r.first = search rules in
    let x : SFits w32 r.x = search rules in
    let y : SFits w32 r.y = search rules in
    let p : SFits w32 r.pressure = search rules in
    let a : SFits w32 r.major = search rules in
    let i : SFits w32 r.minor = search rules in
    (k, (x, (y, (p, (a, (i, tt))))))

-- The slot is good, since the old table's is.
was_good : (b : After-same-in-loop-s) → good_slot (fields_of (u b)) (slot_of (get_or (t b) (s b) blank)) ≡ true
was_good b =
    let same = same-slot (old b) (t b) (s b) (in_old b) (inside b) (known b).tells.rest in
    ap (good_slot (fields_of (u b))) (sym same) ∙ slot-good (u b) (old b) (s b) (below b) (in_old b) b.requires.given.slots

-- Slot s is w in the table l, its row is good, and no contact began in it.
turned : (b : After-same-in-loop-s) (w : Slot) → slot_of w ≡ slot_after (fate (Turn.kind (fr b) (s b)) (get_or (t b) (s b) blank).id.0) (free_id (ids (table_of (old b))) b.args.counter) (slot_of (get_or (t b) (s b) blank)) (numbers_of (Turn.row (fr b) (s b))) → begun (fate (Turn.kind (fr b) (s b)) (get_or (t b) (s b) blank).id.0) ≡ false → good_row (axes_of (u b)) (Turn.row (fr b) (s b)) ≡ true
    → (l : List Slot) → l ≡ set (t b) (s b) w → (c : Changed) → Tells (s b + 1) (old b) l c
    → Kept (u b) (old b) b.args.counter (fr b) l c (s b + 1)
turned b w e stays good l set_is c tells =
    let k = b.args.counter in
    let turn = Turn.steady_turn (fr b) (s b) (n b) (below b) (ids (table_of (old b))) k (t b) (inside b) w e stays in
    record {
      inside = omega (arith, below b);
      slots = ap length set_is ∙ length-set (t b) (s b) w ∙ (known b).slots;
      good = (known b).good ∙ Turn.good_turn (fr b) (s b) (n b) (below b) (u b) ∙ first-true _ _ good;
      whole = (known b).whole ∙ turn ∙ ap (λ x. plan_from (ids (table_of (old b))) k (n b) (fr b) x (s b + 1)) (sym set_is);
      tells = tells;
    }

-- It becomes w, of which d numbers changed.
counted : (b : After-same-in-loop-s) (w : Slot) → slot_of w ≡ slot_after (fate (Turn.kind (fr b) (s b)) (get_or (t b) (s b) blank).id.0) (free_id (ids (table_of (old b))) b.args.counter) (slot_of (get_or (t b) (s b) blank)) (numbers_of (Turn.row (fr b) (s b))) → begun (fate (Turn.kind (fr b) (s b)) (get_or (t b) (s b) blank).id.0) ≡ false → good_row (axes_of (u b)) (Turn.row (fr b) (s b)) ≡ true
    → (d : ℕ) → (d ≤ per_slot) × (d ≡ changed_in (slot_of (get_or (t b) (s b) blank)) (slot_of w)) → (c : Changed) → c ≡ with_slot (changed b) (s b) d
    → Kept (u b) (old b) b.args.counter (fr b) (set (t b) (s b) w) c (s b + 1)
counted b w e stays good d f c ec =
    let told = told-set (old b) (t b) (s b) (in_old b) (inside b) (changed b) (known b).tells w d f.0 f.1 in
    turned b w e stays good (set (t b) (s b) w) refl c (rw ec told)

-- ---- a contact that goes on

kind_1 : (d : After-differ-d) → eq_z (Turn.kind (fr-at-After-differ-d d) (s-at-After-differ-d d)) (pos 1) ≡ true
kind_1 d = sym (kind-read-1-at-After-differ-d d) ∙ and_left d.same.result _ d.if-same.true

kind_1-at-Else-not-row_ok : (d : Else-not-row_ok) → eq_z (Turn.kind (fr-at-Else-not-row_ok d) (s-at-Else-not-row_ok d)) (pos 1) ≡ true
kind_1-at-Else-not-row_ok d = sym (kind-read-1-at-Else-not-row_ok d) ∙ and_left d.same.result _ d.if-same.true

lives : (d : After-differ-d) → live (get_or (t-at-After-differ-d d) (s-at-After-differ-d d) blank).id.0 ≡ true
lives d = sym (ap not (id-read-at-After-differ-d d)) ∙ and_right d.same.result _ d.if-same.true

lives-at-Else-not-row_ok : (d : Else-not-row_ok) → live (get_or (t-at-Else-not-row_ok d) (s-at-Else-not-row_ok d) blank).id.0 ≡ true
lives-at-Else-not-row_ok d = sym (ap not (id-read-at-Else-not-row_ok d)) ∙ and_right d.same.result _ d.if-same.true

is-1-at-Else-not-row_ok : (d : Else-not-row_ok) → (Turn.kind (fr-at-Else-not-row_ok d) (s-at-Else-not-row_ok d)) ≡ pos 1
is-1-at-Else-not-row_ok d = eq_z→eq (Turn.kind (fr-at-Else-not-row_ok d) (s-at-Else-not-row_ok d)) (pos 1) (holds _ (kind_1-at-Else-not-row_ok d))

is-1 : (d : After-differ-d) → (Turn.kind (fr-at-After-differ-d d) (s-at-After-differ-d d)) ≡ pos 1
is-1 d = eq_z→eq (Turn.kind (fr-at-After-differ-d d) (s-at-After-differ-d d)) (pos 1) (holds _ (kind_1 d))

not-0-at-Else-not-row_ok : (d : Else-not-row_ok) → eq_z (Turn.kind (fr-at-Else-not-row_ok d) (s-at-Else-not-row_ok d)) (pos 0) ≡ false
not-0-at-Else-not-row_ok d = ap (λ z. eq_z z (pos 0)) (is-1-at-Else-not-row_ok d)

not-begun-at-Else-not-row_ok : (d : Else-not-row_ok) → begun (fate (Turn.kind (fr-at-Else-not-row_ok d) (s-at-Else-not-row_ok d)) (get_or (t-at-Else-not-row_ok d) (s-at-Else-not-row_ok d) blank).id.0) ≡ false
not-begun-at-Else-not-row_ok d = ap (λ z. begun (fate z (get_or (t-at-Else-not-row_ok d) (s-at-Else-not-row_ok d) blank).id.0)) (is-1-at-Else-not-row_ok d) ∙ ap (λ z. begun (cond z goes_on begins)) (lives-at-Else-not-row_ok d)

not-begun : (d : After-differ-d) → begun (fate (Turn.kind (fr-at-After-differ-d d) (s-at-After-differ-d d)) (get_or (t-at-After-differ-d d) (s-at-After-differ-d d) blank).id.0) ≡ false
not-begun d = ap (λ z. begun (fate z (get_or (t-at-After-differ-d d) (s-at-After-differ-d d) blank).id.0)) (is-1 d) ∙ ap (λ z. begun (cond z goes_on begins)) (lives d)

-- What it becomes.
on : (d : After-differ-d) → d.contact-w.result ≡ contact_of (get_or (t-at-After-differ-d d) (s-at-After-differ-d d) blank).id.0 (Turn.row (fr-at-After-differ-d d) (s-at-After-differ-d d))
on d = d.contact-w.ensures ∙ ap (contact_of (get_or (t-at-After-differ-d d) (s-at-After-differ-d d) blank).id.0) d.row_at-r.ensures

on-at-Else-not-row_ok : (d : Else-not-row_ok) → d.contact-w.result ≡ contact_of (get_or (t-at-Else-not-row_ok d) (s-at-Else-not-row_ok d) blank).id.0 (Turn.row (fr-at-Else-not-row_ok d) (s-at-Else-not-row_ok d))
on-at-Else-not-row_ok d = d.contact-w.ensures ∙ ap (contact_of (get_or (t-at-Else-not-row_ok d) (s-at-Else-not-row_ok d) blank).id.0) d.row_at-r.ensures

-- Where no number changes it is what it was.
as_was : (d : After-differ-d) → d.differ-d.result ≡ 0 → slot_of (get_or (t-at-After-differ-d d) (s-at-After-differ-d d) blank) ≡ slot_of (contact_of (get_or (t-at-After-differ-d d) (s-at-After-differ-d d) blank).id.0 (Turn.row (fr-at-After-differ-d d) (s-at-After-differ-d d)))
as_was d z = none-changed (slot_of (get_or (t-at-After-differ-d d) (s-at-After-differ-d d) blank)) (slot_of d.contact-w.result) tt (sym d.differ-d.ensures.1 ∙ z) ∙ ap slot_of (on d)

as_was-at-Else-not-row_ok : (d : Else-not-row_ok) → d.differ-d.result ≡ 0 → slot_of (get_or (t-at-Else-not-row_ok d) (s-at-Else-not-row_ok d) blank) ≡ slot_of (contact_of (get_or (t-at-Else-not-row_ok d) (s-at-Else-not-row_ok d) blank).id.0 (Turn.row (fr-at-Else-not-row_ok d) (s-at-Else-not-row_ok d)))
as_was-at-Else-not-row_ok d z = none-changed (slot_of (get_or (t-at-Else-not-row_ok d) (s-at-Else-not-row_ok d) blank)) (slot_of d.contact-w.result) tt (sym d.differ-d.ensures.1 ∙ z) ∙ ap slot_of (on-at-Else-not-row_ok d)

row-judged : (j : After-row_ok) → (let b = j in j.row_ok.result ≡ good_row (axes_of (u-at-After-row_ok b)) (Turn.row (fr-at-After-row_ok b) (s-at-After-row_ok b)))
row-judged j =
    let b = j in
    j.row_ok.ensures ∙ ap (good_row (axes_of (u-at-After-row_ok b))) b.row_at-r.ensures

row-judged-at-Else-not-row_ok : (j : Else-not-row_ok) → (let b = j in j.row_ok.result ≡ good_row (axes_of (u-at-Else-not-row_ok b)) (Turn.row (fr-at-Else-not-row_ok b) (s-at-Else-not-row_ok b)))
row-judged-at-Else-not-row_ok j =
    let b = j in
    j.row_ok.ensures ∙ ap (good_row (axes_of (u-at-Else-not-row_ok b))) b.row_at-r.ensures

good-row : (e : Else-not-row_ok) → (let b = e in good_row (axes_of (u-at-Else-not-row_ok b)) (Turn.row (fr-at-Else-not-row_ok b) (s-at-Else-not-row_ok b)) ≡ true)
good-row e = sym (row-judged-at-Else-not-row_ok e) ∙ e.if-not-row_ok.false

on-slot : (e : Else-not-row_ok) → (let d = e in let b = d in slot_of d.contact-w.result ≡ slot_after (fate (Turn.kind (fr-at-Else-not-row_ok b) (s-at-Else-not-row_ok b)) (get_or (t-at-Else-not-row_ok b) (s-at-Else-not-row_ok b) blank).id.0) (free_id (ids (table_of (old-at-Else-not-row_ok b))) b.args.counter) (slot_of (get_or (t-at-Else-not-row_ok b) (s-at-Else-not-row_ok b) blank)) (numbers_of (Turn.row (fr-at-Else-not-row_ok b) (s-at-Else-not-row_ok b))))
on-slot e =
    let d = e in
    let b = d in
    let w = on-at-Else-not-row_ok d ∙ sym (ap (λ z. stayed z (get_or (t-at-Else-not-row_ok b) (s-at-Else-not-row_ok b) blank) (Turn.row (fr-at-Else-not-row_ok b) (s-at-Else-not-row_ok b))) (not-0-at-Else-not-row_ok d)) in
    ap slot_of w ∙ stayed-slot (get_or (t-at-Else-not-row_ok b) (s-at-Else-not-row_ok b) blank) (fr-at-Else-not-row_ok b) (per_slot * s-at-Else-not-row_ok b) (free_id (ids (table_of (old-at-Else-not-row_ok b))) b.args.counter) (not-begun-at-Else-not-row_ok d) (good-plain (u-at-Else-not-row_ok b) (Turn.row (fr-at-Else-not-row_ok b) (s-at-Else-not-row_ok b)) (good-row e))

-- A good row that is not at rest changes a number.
some : (e : Else-not-row_ok) → e.differ-d.result ≡ 0 → ⊥
some e z =
    let d = e in
    let b = d in
    let pressed = gives-pressure (u-at-Else-not-row_ok b) (get_or (t-at-Else-not-row_ok b) (s-at-Else-not-row_ok b) blank) (fr-at-Else-not-row_ok b) (per_slot * s-at-Else-not-row_ok b) (not-0-at-Else-not-row_ok d) (good-row e) (as_was-at-Else-not-row_ok d z) in
    let zero = eq-eqb d.differ-d.result 0 z in
    let test : (eqb d.differ-d.result 0 && not (eqb (get_or (t-at-Else-not-row_ok b) (s-at-Else-not-row_ok b) blank).pressure 0)) ≡ true = λ i. zero i && pressed i in
    absurd (false≢true (sym e.if-d-was.false ∙ test))

pub loop-s-init : goal.loop-s-init
loop-s-init c =
    let a = c.args in
    let p = c.requires in
    let lt : length a.old ≡ records = search rules in
    let z : a.setup.n - 0 ≡ a.setup.n = omega arith in
    let k = skipped a.setup a.old a.counter a.frame.now p.given lt a.from p.inside p.quiet in
    let from-0 = ap (λ m. good_rows (axes_of a.setup) (rows_from per_slot m a.frame.now 0)) (sym z) in
    let plan-0 = ap (λ m. framed a.counter (rows_from per_slot m a.frame.now 0) (table_of a.old)) (sym z) in
    record {
      inside = p.inside;
      slots = lt;
      good = from-0 ∙ k.good;
      whole = plan-0 ∙ k.whole;
      tells = rw c.none-changes.ensures k.tells;
    }

pub loop-s-preserved-then-d-was : goal.loop-s-preserved-then-d-was
loop-s-preserved-then-d-was c =
    let at = goal.at.loop-s-preserved-then-d-was c in
    let d = c in
    let b = d in
    let zero = eqb→eq d.differ-d.result 0 (holds _ (and_left (eqb d.differ-d.result 0) _ c.if-d-was.true)) in
    let pressed = and_right (eqb d.differ-d.result 0) _ c.if-d-was.true in
    let fits = subst Of32 b.row_at-r.ensures (fitting at.After-row_at-r) in
    let rests = resting (u at.After-same-in-loop-s) (get_or (t at.After-same-in-loop-s) (s at.After-same-in-loop-s) blank) (was_good at.After-same-in-loop-s) (good-setup at.After-same-in-loop-s) (fr at.After-same-in-loop-s) (per_slot * s at.After-same-in-loop-s) fits (kind_1 at.After-differ-d) (lives at.After-differ-d) pressed (same_by (get_or (t at.After-same-in-loop-s) (s at.After-same-in-loop-s) blank) (Turn.row (fr at.After-same-in-loop-s) (s at.After-same-in-loop-s)) (as_was at.After-differ-d zero)) in
    let told = told-on (old at.After-same-in-loop-s) (t at.After-same-in-loop-s) (s at.After-same-in-loop-s) (in_old at.After-same-in-loop-s) (inside at.After-same-in-loop-s) (changed at.After-same-in-loop-s) (known at.After-same-in-loop-s).tells in
    turned at.After-same-in-loop-s (get_or (t at.After-same-in-loop-s) (s at.After-same-in-loop-s) blank) (rests.slot (free_id (ids (table_of (old at.After-same-in-loop-s))) b.args.counter)) rests.goes rests.good (t at.After-same-in-loop-s) (sym (set-get_or (t at.After-same-in-loop-s) (s at.After-same-in-loop-s) blank)) (changed at.After-same-in-loop-s) told

pub row_ok-requires : goal.row_ok-requires
row_ok-requires c =
    let here = (goal.at.row_ok-requires c).After-same-in-loop-s in
    let m = small (u here) (good-setup here) in
    record { x = omega (arith, m.x); y = omega (arith, m.y); pressure = omega (arith, m.pressure); major = omega (arith, m.major); minor = omega (arith, m.minor) }

pub returns-then-not-row_ok : goal.returns-then-not-row_ok
returns-then-not-row_ok c =
    let at = goal.at.returns-then-not-row_ok c in
    let j = c in
    let b = j in
    let bad = (known at.After-same-in-loop-s).good ∙ Turn.good_turn (fr at.After-same-in-loop-s) (s at.After-same-in-loop-s) (n at.After-same-in-loop-s) (below at.After-same-in-loop-s) (u at.After-same-in-loop-s) ∙ first-false _ _ (sym (row-judged at.After-row_ok) ∙ c.if-not-row_ok.true) in
    subst (λ v. PlansBy v (n at.After-same-in-loop-s) (old at.After-same-in-loop-s) b.args.counter (framed b.args.counter (rows_from per_slot (n at.After-same-in-loop-s) (fr at.After-same-in-loop-s) 0) (table_of (old at.After-same-in-loop-s))) c.refused.result) (sym bad) c.refused.ensures

pub with_changed-changes-requires : goal.with_changed-changes-requires
with_changed-changes-requires c =
    let at = goal.at.with_changed-changes-requires c in
    let d = c in
    (omega (arith, below at.After-same-in-loop-s, few at.After-same-in-loop-s), d.differ-d.ensures.0, omega (arith, some at.Else-not-row_ok), (known at.After-same-in-loop-s).tells.before)

pub loop-s-preserved-then-same : goal.loop-s-preserved-then-same
loop-s-preserved-then-same c =
    let at = goal.at.loop-s-preserved-then-same c in
    let e = c in
    let d = e in
    counted at.After-same-in-loop-s d.contact-w.result (on-slot at.Else-not-row_ok) (not-begun at.After-differ-d) (good-row at.Else-not-row_ok) d.differ-d.result d.differ-d.ensures c.with_changed-changes.result c.with_changed-changes.ensures

pub give_ids-requires : goal.give_ids-requires
give_ids-requires c =
    let here = (goal.at.give_ids-requires c).After-same-in-loop-s in
    let b = c in
    record { given = b.requires.given; inside = (known here).inside; tells = (known here).tells }

pub returns-then-not-same : goal.returns-then-not-same
returns-then-not-same c =
    let here = (goal.at.returns-then-not-same c).After-same-in-loop-s in
    let b = c in
    let k = b.args.counter in
    subst (λ v. PlansBy v (n here) (old here) k (framed b.args.counter (rows_from per_slot (n here) (fr here) 0) (table_of (old here))) c.give_ids.result) (sym (known here).good)
    (subst (λ p. PlansBy (rows_good (u here) (fr here) (s here)) (n here) (old here) k p c.give_ids.result) (sym (known here).whole) c.give_ids.ensures)

pub with_slot-changes-requires : goal.with_slot-changes-requires
with_slot-changes-requires c =
    let here = (goal.at.with_slot-changes-requires c).After-same-in-loop-s in
    (omega (arith, below here, few here), c.differ.ensures.0, (known here).tells.before)

pub loop-s-preserved : goal.loop-s-preserved
loop-s-preserved c =
    let at = goal.at.loop-s-preserved c in
    let m = c in
    let o = m in
    let b = o in
    let is-0 : eq_z (Turn.kind (fr at.After-same-in-loop-s) (s at.After-same-in-loop-s)) (pos 0) ≡ true = sym (kind-read-0 at.After-same-in-loop-s-2) ∙ m.if-not-same.false in
    let alive = live (get_or (t at.After-same-in-loop-s) (s at.After-same-in-loop-s) blank).id.0 in
    let no-contact = ap (λ z. begun (cond z none (cond (eq_z (Turn.kind (fr at.After-same-in-loop-s) (s at.After-same-in-loop-s)) (pos 2)) begins (cond alive goes_on begins)))) is-0 in
    let slot = ap slot_of m.lift-w.ensures ∙ sym (ap (λ z. slot_after (cond z none (cond (eq_z (Turn.kind (fr at.After-same-in-loop-s) (s at.After-same-in-loop-s)) (pos 2)) begins (cond alive goes_on begins))) (free_id (ids (table_of (old at.After-same-in-loop-s))) b.args.counter) (slot_of (get_or (t at.After-same-in-loop-s) (s at.After-same-in-loop-s) blank)) (numbers_of (Turn.row (fr at.After-same-in-loop-s) (s at.After-same-in-loop-s)))) is-0) in
    counted at.After-same-in-loop-s m.lift-w.result slot no-contact (or-true _ _ is-0) c.differ.result c.differ.ensures c.with_slot-changes.result c.with_slot-changes.ensures

pub returns : goal.returns
returns c =
    let l = c.loop-s in
    let a = c.args in
    let n = a.setup.n in
    let end : l.s ≡ n = omega (arith, l.invariant.inside, c.loop-s-test.false) in
    let z : n - l.s ≡ 0 = omega (arith, end) in
    let over = ap (λ k. good_rows (axes_of a.setup) (rows_from per_slot k a.frame.now (per_slot * l.s))) z ∙ ap (good_rows (axes_of a.setup)) (rows_none per_slot a.frame.now (per_slot * l.s)) in
    let made = Turn.no_row (ids (table_of a.old)) a.counter n a.frame.now l.t l.s c.loop-s-test.false in
    subst (λ v. PlansBy v n a.old a.counter (framed a.counter (rows_from per_slot n a.frame.now 0) (table_of a.old)) (record { table = l.t; counter = a.counter; changes = l.changes; good = true }))
    (sym (l.invariant.good ∙ over)) (record { plan = sym (l.invariant.whole ∙ made); tells = rw end at l.invariant.tells; good = refl })
