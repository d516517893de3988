-- `plan::give_ids` judges the rest of a frame's rows, makes its table and counter and tells what changes. The first m of `taken` are the ids taken so far. Assumes nothing.
use borrow.Author.Rules.{rules}
use mathlib.Core.Path.{◌≡◌, refl, sym, ap, ap₂, subst, ◌∙◌}
use mathlib.Core.Bool.{true, false, ◌&&◌}
use mathlib.Core.List.{List, [], ◌∷◌, ◌++◌}
use Prim.Native.Nat.{ℕ, ◌<◌, ◌≤◌, ◌+◌, ◌-◌, ◌*◌}
use native.Mathlib.Numerals.{add-one}
use native.Mathlib.Omega.{arith}
use lib.Bits.{bit_or}
use lib.IntN.{ℤ, pos}
use lib.ListN.{length, take, drop, get_or, set, length-set}
use lib.Seq.{length-take-le, take-suc-set, set-get_or}
use mir.Syntax.{w32}
use mir.Val.{SFits}
use mir.ValLaws.{to_z-of_z}
use Rattle.model.specs.Panel.{base, setup_good, per_slot, records}
use Rattle.model.specs.Numbers.{eq_z}
use Rattle.model.specs.Table.{numbers_of, ids, unheld, good_slot}
use Rattle.model.specs.Sending.{changed_in}
use Rattle.model.specs.Frame.{kind_of, good_row, good_rows, fate, next, free_id, rows_from, slot_after, taken_after, counter_after, Planned, after}
use Rattle.model.proofs.Rows.{rows_none}
use Rattle.model.proofs.Tries.{Same, same-last, planned-same}
use Rattle.common.specs.declared.TrackingId.{TrackingId}
use Rattle.common.specs.Marks.{bit_of, Met}
use Rattle.common.proofs.Apart.{front_holds, met_join}
use Rattle.common.proofs.Signs.{first-false, first-true}
use Rattle.panel.specs.declared.Slot.{Slot}
use Rattle.panel.specs.declared.Setup.{Setup}
use Rattle.panel.specs.Seen.{row_of, slot_of, table_of, setup_of, fields_of, axes_of, blank, unused}
use Rattle.panel.proofs.Setups.{small}
use Rattle.panel.proofs.Tables.{good-rest}
use Rattle.tally.specs.Told.{with_slot, Tells}
use Rattle.tally.proofs.Told.{told-set, told-on}
use Rattle.plan.specs.Row.{begun, contact_of, stayed, plain_row}
use Rattle.plan.specs.Quiet.{quiet_row, Of32}
use Rattle.plan.specs.Walk.{rows_good, plan_from, PlansBy}
use Rattle.plan.proofs.Still.{still, slot-good, same-slot}
use Rattle.plan.proofs.Turn as Turn
use Rattle.plan.proofs.Turn.{good-plain, begun-slot, stayed-slot, begun-taken, begun-counter}
use Rattle.plan.proofs.give_ids.Invariants.{Made}
use Rattle.plan.proofs.give_ids.Goals.{After-begins, After-quiet, After-row_at-r, After-row_ok}
use Rattle.plan.proofs.give_ids.Goals as goal

-- ---- slot s and its row

abbrev u : After-quiet → Setup
u b = b.args.setup

abbrev u-at-After-row_ok : After-row_ok → Setup
u-at-After-row_ok b = b.args.setup

abbrev u-at-After-begins : After-begins → Setup
u-at-After-begins b = b.args.setup

abbrev fr : After-quiet → List ℤ
fr b = b.args.frame.now

abbrev fr-at-After-row_ok : After-row_ok → List ℤ
fr-at-After-row_ok b = b.args.frame.now

abbrev fr-at-After-begins : After-begins → List ℤ
fr-at-After-begins b = b.args.frame.now

abbrev n : After-quiet → ℕ
n b = (u b).n

abbrev s : After-quiet → ℕ
s b = b.loop-s.s

abbrev s-at-After-row_ok : After-row_ok → ℕ
s-at-After-row_ok b = b.loop-s.s

abbrev s-at-After-begins : After-begins → ℕ
s-at-After-begins b = b.loop-s.s

abbrev t : After-quiet → List Slot
t b = b.loop-s.t

abbrev t-at-After-begins : After-begins → List Slot
t-at-After-begins b = b.loop-s.t

abbrev old : After-quiet → List Slot
old b = b.args.old

-- What was to be planned from the start.
abbrev promised : After-quiet → Planned
promised b =
    let a = b.args in
    plan_from (take (n b) b.ids_of-taken.result) a.counter (n b) (fr b) a.made a.from.slot

known : (b : After-quiet) → Made (u b) (old b) (fr b) b.args.from.slot (promised b) b.loop-s.taken b.loop-s.held b.loop-s.m (t b) b.loop-s.k (s b) b.loop-s.changes
known b = b.loop-s.invariant

-- The row's numbers are of 32 bits.
fitting : (c : After-row_at-r) → Of32 (row_of c.row_at-r.result)
fitting c =
    let r = c.row_at-r.result in
    let k : SFits w32 r.first = search rules in
    let x : SFits w32 r.x = search rules in
    let y : SFits w32 r.y = search rules in
    let p : SFits w32 r.pressure = search rules in
    let a : SFits w32 r.major = search rules in
    let i : SFits w32 r.minor = search rules in
    (k, (x, (y, (p, (a, (i, tt))))))

good-setup : (b : After-quiet) → setup_good base (setup_of (u b)) ≡ true
good-setup b = b.requires.given.setup

few : (b : After-quiet) → n b ≤ records
few b = (small (u b) (good-setup b)).n

below : (b : After-quiet) → s b < n b
below b = b.loop-s-test.true

inside : (b : After-quiet) → s b < length (t b)
inside b = omega (arith, below b, (known b).slots, few b)

in_old : (b : After-quiet) → s b < length (old b)
in_old b =
    let lo : length (old b) ≡ records = search rules in
    omega (arith, below b, few b)

-- There is a place left among the taken ids.
placed : (b : After-quiet) → b.loop-s.m < length b.loop-s.taken
placed b = omega (arith, below b, (known b).few_taken, (known b).places, few b)

-- Rows that are good up to here are good where this one is and the rest.
good-here : (b : After-quiet) → rows_good (u b) (fr b) b.args.from.slot ≡ (good_row (axes_of (u b)) (Turn.row (fr b) (s b)) && rows_good (u b) (fr b) (s b + 1))
good-here b = (known b).good ∙ Turn.good_turn (fr b) (s b) (n b) (below b) (u b)

good-on : (b : After-quiet) → good_row (axes_of (u b)) (Turn.row (fr b) (s b)) ≡ true → rows_good (u b) (fr b) b.args.from.slot ≡ rows_good (u b) (fr b) (s b + 1)
good-on b e = good-here b ∙ first-true _ _ e

row-judged : (j : After-row_ok) → j.row_ok.result ≡ good_row (axes_of (u-at-After-row_ok j)) (Turn.row (fr-at-After-row_ok j) (s-at-After-row_ok j))
row-judged j = j.row_ok.ensures ∙ ap (good_row (axes_of (u-at-After-row_ok j))) j.row_at-r.ensures

row-judged-at-After-begins : (j : After-begins) → j.row_ok.result ≡ good_row (axes_of (u-at-After-begins j)) (Turn.row (fr-at-After-begins j) (s-at-After-begins j))
row-judged-at-After-begins j = j.row_ok.ensures ∙ ap (good_row (axes_of (u-at-After-begins j))) j.row_at-r.ensures

good-row : (d : After-begins) → good_row (axes_of (u-at-After-begins d)) (Turn.row (fr-at-After-begins d) (s-at-After-begins d)) ≡ true
good-row d =
    let j = d in
    sym (row-judged-at-After-begins j) ∙ d.if-not-row_ok.false

plain : (d : After-begins) → plain_row (Turn.row (fr-at-After-begins d) (s-at-After-begins d)) ≡ true
plain d = good-plain (u-at-After-begins d) (Turn.row (fr-at-After-begins d) (s-at-After-begins d)) (good-row d)

begins-is : (d : After-begins) → d.begins.result ≡ begun (fate (Turn.kind (fr-at-After-begins d) (s-at-After-begins d)) (get_or (t-at-After-begins d) (s-at-After-begins d) blank).id.0)
begins-is d =
    let b = d in
    let k = b.row_at-r.result.first in
    let f : SFits w32 k = search rules in
    d.begins.ensures ∙ ap (λ z. begun (fate z (get_or (t-at-After-begins b) (s-at-After-begins b) blank).id.0)) (to_z-of_z w32 k f ∙ ap kind_of b.row_at-r.ensures)

-- The slot is good, since the old table's is.
was_good : (b : After-quiet) → good_slot (fields_of (u b)) (slot_of (get_or (t b) (s b) blank)) ≡ true
was_good b =
    let same = same-slot (old b) (t b) (s b) (in_old b) (inside b) (known b).tells.rest in
    ap (good_slot (fields_of (u b))) (sym same) ∙ slot-good (u b) (old b) (s b) (below b) (in_old b) b.requires.given.slots

-- What is left to make, once the slot is w, the ids taken are `more` and the counter is k.
turned : (b : After-quiet) (w : Slot) (more : List ℤ) (k : ℕ)
    → slot_of w ≡ slot_after (fate (Turn.kind (fr b) (s b)) (get_or (t b) (s b) blank).id.0) (free_id (take b.loop-s.m b.loop-s.taken) b.loop-s.k) (slot_of (get_or (t b) (s b) blank)) (numbers_of (Turn.row (fr b) (s b)))
    → Same (taken_after (fate (Turn.kind (fr b) (s b)) (get_or (t b) (s b) blank).id.0) (free_id (take b.loop-s.m b.loop-s.taken) b.loop-s.k) (take b.loop-s.m b.loop-s.taken)) more → counter_after (fate (Turn.kind (fr b) (s b)) (get_or (t b) (s b) blank).id.0) (free_id (take b.loop-s.m b.loop-s.taken) b.loop-s.k) b.loop-s.k ≡ k
    → promised b ≡ plan_from more k (n b) (fr b) (set (t b) (s b) w) (s b + 1)
turned b w more k e same count =
    (known b).whole ∙ Turn.row_turn (fr b) (s b) (n b) (below b) (take b.loop-s.m b.loop-s.taken) b.loop-s.k (t b) (inside b) w more k e same count

-- Where nothing begins the ids taken and the counter stay.
steady : (b : After-quiet) (w : Slot) → slot_of w ≡ slot_after (fate (Turn.kind (fr b) (s b)) (get_or (t b) (s b) blank).id.0) (free_id (take b.loop-s.m b.loop-s.taken) b.loop-s.k) (slot_of (get_or (t b) (s b) blank)) (numbers_of (Turn.row (fr b) (s b))) → begun (fate (Turn.kind (fr b) (s b)) (get_or (t b) (s b) blank).id.0) ≡ false
    → promised b ≡ plan_from (take b.loop-s.m b.loop-s.taken) b.loop-s.k (n b) (fr b) (set (t b) (s b) w) (s b + 1)
steady b w e f =
    (known b).whole ∙ Turn.steady_turn (fr b) (s b) (n b) (below b) (take b.loop-s.m b.loop-s.taken) b.loop-s.k (t b) (inside b) w e f

-- Once the slot is w, of which d numbers changed, that is told too.
telling : (b : After-quiet) (w : Slot) (d : ℕ) → d ≤ per_slot → d ≡ changed_in (slot_of (get_or (t b) (s b) blank)) (slot_of w)
    → Tells (s b + 1) (old b) (set (t b) (s b) w) (with_slot b.loop-s.changes (s b) d)
telling b w d few e = told-set (old b) (t b) (s b) (in_old b) (inside b) b.loop-s.changes (known b).tells w d few e

-- ---- the needs

pub ids_of-taken-requires : goal.ids_of-taken-requires
ids_of-taken-requires c = (small c.args.setup c.requires.given.setup).n

pub slice_bounds-taken-end : goal.slice_bounds-taken-end
slice_bounds-taken-end c =
    let ll : length c.ids_of-taken.result ≡ 2 * records = search rules in
    omega (arith, (small c.args.setup c.requires.given.setup).n)

pub slice_bounds-marks_of-end : goal.slice_bounds-marks_of-end
slice_bounds-marks_of-end c =
    let g = c in
    let ll : length g.ids_of-taken.result ≡ 2 * records = search rules in
    sym (length-take-le g.args.setup.n g.ids_of-taken.result (omega (arith, (small g.args.setup g.requires.given.setup).n)))

pub loop-s-init : goal.loop-s-init
loop-s-init c =
    let g = c in
    let a = g.args in
    let p = g.requires in
    let lt : length a.made ≡ records = search rules in
    let ll : length g.ids_of-taken.result ≡ 2 * records = search rules in
    record {
      inside = p.inside;
      few_taken = omega arith;
      counts = p.given.counts;
      slots = lt;
      places = ll;
      met = c.marks_of-held.ensures;
      good = refl;
      whole = refl;
      tells = p.tells;
    }

pub loop-s-preserved-then-quiet : goal.loop-s-preserved-then-quiet
loop-s-preserved-then-quiet c =
    let at = goal.at.loop-s-preserved-then-quiet c in
    let b = c in
    let q = sym (ap (quiet_row (get_or (t at.After-quiet) (s at.After-quiet) blank)) b.row_at-r.ensures) ∙ sym b.quiet.ensures ∙ c.if-quiet.true in
    let fits = subst Of32 b.row_at-r.ensures (fitting at.After-row_at-r) in
    let rests = still (u at.After-quiet) (get_or (t at.After-quiet) (s at.After-quiet) blank) (was_good at.After-quiet) (good-setup at.After-quiet) (fr at.After-quiet) (per_slot * s at.After-quiet) fits q in
    record {
      inside = omega (arith, below at.After-quiet);
      few_taken = omega (arith, (known at.After-quiet).few_taken);
      counts = (known at.After-quiet).counts;
      slots = (known at.After-quiet).slots;
      places = (known at.After-quiet).places;
      met = (known at.After-quiet).met;
      good = good-on at.After-quiet rests.good;
      whole = steady at.After-quiet (get_or (t at.After-quiet) (s at.After-quiet) blank) (rests.slot (free_id (take b.loop-s.m b.loop-s.taken) b.loop-s.k)) rests.goes ∙ ap (λ l. plan_from (take b.loop-s.m b.loop-s.taken) b.loop-s.k (n at.After-quiet) (fr at.After-quiet) l (s at.After-quiet + 1)) (set-get_or (t at.After-quiet) (s at.After-quiet) blank);
      tells = told-on (old at.After-quiet) (t at.After-quiet) (s at.After-quiet) (in_old at.After-quiet) (inside at.After-quiet) b.loop-s.changes (known at.After-quiet).tells;
    }

pub row_ok-requires : goal.row_ok-requires
row_ok-requires c =
    let here = (goal.at.row_ok-requires c).After-quiet in
    let m = small (u here) (good-setup here) in
    record { x = omega (arith, m.x); y = omega (arith, m.y); pressure = omega (arith, m.pressure); major = omega (arith, m.major); minor = omega (arith, m.minor) }

pub returns-then-not-row_ok : goal.returns-then-not-row_ok
returns-then-not-row_ok c =
    let at = goal.at.returns-then-not-row_ok c in
    let j = c in
    let b = j in
    let a = b.args in
    let bad = good-here at.After-quiet ∙ first-false _ _ (sym (row-judged at.After-row_ok) ∙ c.if-not-row_ok.true) in
    subst (λ v. PlansBy v (n at.After-quiet) (old at.After-quiet) a.counter (plan_from (ids (table_of (old at.After-quiet))) a.counter (n at.After-quiet) (fr at.After-quiet) a.made a.from.slot) c.refused.result) (sym bad) c.refused.ensures

pub slice_bounds-taken-end-then-begins : goal.slice_bounds-taken-end-then-begins
slice_bounds-taken-end-then-begins c = omega (arith, placed (goal.at.slice_bounds-taken-end-then-begins c).After-quiet)

pub slice_bounds-choose-end : goal.slice_bounds-choose-end
slice_bounds-choose-end c =
    let b = c in
    let fit : b.loop-s.m ≤ length b.loop-s.taken = omega (arith, placed (goal.at.slice_bounds-choose-end b).After-quiet) in
    sym (length-take-le b.loop-s.m b.loop-s.taken fit)

pub choose-j-requires : goal.choose-j-requires
choose-j-requires c =
    let here = (goal.at.choose-j-requires c).After-quiet in
    let b = c in
    let fit : b.loop-s.m ≤ length b.loop-s.taken = omega (arith, placed here) in
    let few : length (take b.loop-s.m b.loop-s.taken) ≡ b.loop-s.m = length-take-le b.loop-s.m b.loop-s.taken fit in
    (omega (arith, placed here, (known here).places), (known here).counts, (known here).met)

pub id_of-v-requires : goal.id_of-v-requires
id_of-v-requires c = c.choose-j.ensures.0

pub with_slot-changes-requires : goal.with_slot-changes-requires
with_slot-changes-requires c =
    let here = (goal.at.with_slot-changes-requires c).After-quiet in
    (omega (arith, below here, few here), c.differ.ensures.0, (known here).tells.before)

pub mark_of-held-requires : goal.mark_of-held-requires
mark_of-held-requires c = c.choose-j.ensures.0

pub overflow_add-m : goal.overflow_add-m
overflow_add-m c =
    let here = (goal.at.overflow_add-m c).After-quiet in
    omega (arith, placed here, (known here).places)

pub after-k-requires : goal.after-k-requires
after-k-requires c = c.choose-j.ensures.0

pub loop-s-preserved-then-begins : goal.loop-s-preserved-then-begins
loop-s-preserved-then-begins c =
    let at = goal.at.loop-s-preserved-then-begins c in
    let d = c in
    let b = d in
    let j = (free_id (take b.loop-s.m b.loop-s.taken) b.loop-s.k) in
    let yes : begun (fate (Turn.kind (fr at.After-quiet) (s at.After-quiet)) (get_or (t at.After-quiet) (s at.After-quiet) blank).id.0) ≡ true = sym (begins-is at.After-begins) ∙ c.if-begins.true in
    let id = c.id_of-v in
    let ji : c.choose-j.result ≡ j = c.choose-j.ensures.1 in
    let fi : SFits w32 id.result.0 = search rules in
    let v : id.result.0 ≡ pos j = ap (λ (x : TrackingId). x.0) id.ensures ∙ ap pos ji in
    let w = c.contact-w.result in
    let e : w ≡ contact_of (pos j) (Turn.row (fr at.After-quiet) (s at.After-quiet)) = c.contact-w.ensures ∙ ap₂ contact_of v b.row_at-r.ensures in
    let m = b.loop-s.m in
    let more = take (m + 1) (set b.loop-s.taken m (pos j)) in
    let last : more ≡ (take b.loop-s.m b.loop-s.taken) ++ pos j ∷ [] = rw add-one (take-suc-set b.loop-s.taken m (pos j) (placed at.After-quiet)) in
    let same : Same (taken_after (fate (Turn.kind (fr at.After-quiet) (s at.After-quiet)) (get_or (t at.After-quiet) (s at.After-quiet) blank).id.0) j (take b.loop-s.m b.loop-s.taken)) more = rw (last, begun-taken (fate (Turn.kind (fr at.After-quiet) (s at.After-quiet)) (get_or (t at.After-quiet) (s at.After-quiet) blank).id.0) j (take b.loop-s.m b.loop-s.taken) yes) (same-last (pos j) (take b.loop-s.m b.loop-s.taken)) in
    let count : counter_after (fate (Turn.kind (fr at.After-quiet) (s at.After-quiet)) (get_or (t at.After-quiet) (s at.After-quiet) blank).id.0) j b.loop-s.k ≡ c.after-k.result =
    begun-counter (fate (Turn.kind (fr at.After-quiet) (s at.After-quiet)) (get_or (t at.After-quiet) (s at.After-quiet) blank).id.0) j b.loop-s.k yes ∙ sym (c.after-k.ensures ∙ ap next ji) in
    let slot = ap slot_of e ∙ begun-slot (get_or (t at.After-quiet) (s at.After-quiet) blank) (fr at.After-quiet) (per_slot * s at.After-quiet) j yes (plain at.After-begins) in
    let bit : c.mark_of-held.result ≡ bit_of (pos j) = c.mark_of-held.ensures ∙ ap (λ x. bit_of (pos x)) ji in
    let met : Met (bit_or b.loop-s.held (bit_of (pos j))) more = rw last (met_join b.loop-s.held (take b.loop-s.m b.loop-s.taken) (pos j) (known at.After-quiet).met) in
    rw (to_z-of_z w32 id.result.0 fi, v) (record {
      inside = omega (arith, below at.After-quiet);
      few_taken = omega (arith, (known at.After-quiet).few_taken);
      counts = omega (arith, c.after-k.ensures);
      slots = length-set (t at.After-quiet) (s at.After-quiet) w ∙ (known at.After-quiet).slots;
      places = length-set b.loop-s.taken m (pos j) ∙ (known at.After-quiet).places;
      met = subst (λ x. Met (bit_or b.loop-s.held x) more) (sym bit) met;
      good = good-on at.After-quiet (good-row at.After-begins);
      whole = turned at.After-quiet w more c.after-k.result slot same count;
      tells = rw c.with_slot-changes.ensures (telling at.After-quiet w c.differ.result c.differ.ensures.0 c.differ.ensures.1);
    })

pub with_slot-changes-requires-in-loop-s : goal.with_slot-changes-requires-in-loop-s
with_slot-changes-requires-in-loop-s c =
    let here = (goal.at.with_slot-changes-requires-in-loop-s c).After-quiet in
    (omega (arith, below here, few here), c.differ-in-loop-s.ensures.0, (known here).tells.before)

pub loop-s-preserved : goal.loop-s-preserved
loop-s-preserved c =
    let at = goal.at.loop-s-preserved c in
    let d = c in
    let b = d in
    let no : begun (fate (Turn.kind (fr at.After-quiet) (s at.After-quiet)) (get_or (t at.After-quiet) (s at.After-quiet) blank).id.0) ≡ false = sym (begins-is at.After-begins) ∙ c.if-begins.false in
    let w = c.stays-w.result in
    let e : w ≡ stayed (eq_z (Turn.kind (fr at.After-quiet) (s at.After-quiet)) (pos 0)) (get_or (t at.After-quiet) (s at.After-quiet) blank) (Turn.row (fr at.After-quiet) (s at.After-quiet)) = c.stays-w.ensures ∙ ap (λ g. stayed (eq_z (kind_of g) (pos 0)) (get_or (t at.After-quiet) (s at.After-quiet) blank) g) b.row_at-r.ensures in
    let slot = ap slot_of e ∙ stayed-slot (get_or (t at.After-quiet) (s at.After-quiet) blank) (fr at.After-quiet) (per_slot * s at.After-quiet) (free_id (take b.loop-s.m b.loop-s.taken) b.loop-s.k) no (plain at.After-begins) in
    record {
      inside = omega (arith, below at.After-quiet);
      few_taken = omega (arith, (known at.After-quiet).few_taken);
      counts = (known at.After-quiet).counts;
      slots = length-set (t at.After-quiet) (s at.After-quiet) w ∙ (known at.After-quiet).slots;
      places = (known at.After-quiet).places;
      met = (known at.After-quiet).met;
      good = good-on at.After-quiet (good-row at.After-begins);
      whole = steady at.After-quiet w slot no;
      tells = rw c.with_slot-changes-in-loop-s.ensures (telling at.After-quiet w c.differ-in-loop-s.result c.differ-in-loop-s.ensures.0 c.differ-in-loop-s.ensures.1);
    }

pub returns : goal.returns
returns c =
    let l = c.loop-s in
    let g = c in
    let a = g.args in
    let p = g.requires in
    let n = a.setup.n in
    let from = a.from.slot in
    let rows = rows_from per_slot (n - from) a.frame.now (per_slot * from) in
    let lo : length a.old ≡ records = search rules in
    let end : l.s ≡ n = omega (arith, l.invariant.inside, c.loop-s-test.false) in
    let z : n - l.s ≡ 0 = omega (arith, end) in
    let over = ap (λ k. good_rows (axes_of a.setup) (rows_from per_slot k a.frame.now (per_slot * l.s))) z ∙ ap (good_rows (axes_of a.setup)) (rows_none per_slot a.frame.now (per_slot * l.s)) in
    let all = l.invariant.good ∙ over in
    -- the ids that are gathered are those of the old table
    let rest = good-rest a.setup a.old lo p.given.slots in
    let same : Same (ids (table_of a.old)) (take n g.ids_of-taken.result) =
    λ k. front_holds slot_of unused refl a.old n records rest (pos k) refl ∙ ap (unheld (pos k)) (sym g.ids_of-taken.ensures) in
    let gathers = planned-same (ids (table_of a.old)) (take n g.ids_of-taken.result) a.counter rows (table_of (drop from a.made)) same in
    let made = Turn.no_row (take l.m l.taken) l.k n a.frame.now l.t l.s c.loop-s-test.false in
    subst (λ v. PlansBy v n a.old a.counter (plan_from (ids (table_of a.old)) a.counter n a.frame.now a.made from) (record { table = l.t; counter = l.k; changes = l.changes; good = true }))
    (sym all) (record {
      plan = sym (ap (after (table_of (take from a.made))) gathers ∙ l.invariant.whole ∙ made);
      tells = rw end at l.invariant.tells;
      good = refl;
    })
