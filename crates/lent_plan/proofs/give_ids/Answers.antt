-- `lent_plan::give_ids` judges the rest of a frame's rows, makes its table in place and its counter, and tells what changes. The first m of `taken` are the ids taken so far. Assumes nothing.
use borrow.Author.Rules.{rules}
use mathlib.Core.Path.{◌≡◌, refl, sym, ap, ap₂, subst, ◌∙◌}
use mathlib.Core.Bool.{true, false, ◌&&◌}
use mathlib.Core.List.{List, [], ◌∷◌, ◌++◌}
use Prim.Native.Nat.{ℕ, ◌<◌, ◌+◌, ◌-◌, ◌*◌}
use native.Mathlib.Numerals.{add-one}
use native.Mathlib.Omega.{arith}
use lib.Bits.{bit_or}
use lib.IntN.{ℤ, pos}
use lib.ListN.{length, take, drop, set, length-set}
use lib.Seq.{take-suc-set}
use mir.Syntax.{w32}
use mir.Val.{SFits, of_z, to_z}
use mir.ValLaws.{to_z-of_z}
use Rattle.model.specs.Panel.{per_slot, records}
use Rattle.model.specs.Numbers.{eq_z}
use Rattle.model.specs.Table.{ids, unheld}
use Rattle.model.specs.Frame.{kind_of, good_row, good_rows, fate, next, free_id, rows_from, taken_after, counter_after, Planned, after}
use Rattle.model.proofs.Rows.{rows_none}
use Rattle.model.proofs.Tries.{Same, same-last, planned-same}
use Rattle.common.specs.declared.TrackingId.{TrackingId}
use Rattle.common.specs.Marks.{bit_of, Met}
use Rattle.common.proofs.Apart.{front_holds, met_join}
use Rattle.common.proofs.Signs.{first-false, first-true}
use Rattle.panel.specs.declared.Slot.{Slot}
use Rattle.panel.specs.declared.Setup.{Setup}
use Rattle.panel.specs.Seen.{slot_of, table_of, axes_of, unused}
use Rattle.panel.proofs.Setups.{small}
use Rattle.panel.proofs.Tables.{good-rest}
use Rattle.tally.specs.declared.Changed.{Changed}
use Rattle.tally.specs.Told.{Tells}
use Rattle.plan.specs.Row.{begun, contact_of, stayed}
use Rattle.plan.specs.Quiet.{NextLoud}
use Rattle.plan.specs.Walk.{rows_good, plan_from}
use Rattle.plan.proofs.Turn as Turn
use Rattle.plan.proofs.Turn.{good-plain, begun-slot, stayed-slot, begun-taken, begun-counter}
use Rattle.lent.specs.Lent.{table_size, table_in}
use Rattle.lent_plan.specs.InPlace.{PlansIn}
use Rattle.lent_table.proofs.Read.{full as table_long}
use Rattle.lent_plan.proofs.Passed.{passed}
use Rattle.lent_plan.proofs.Turned.{Next, tells-set, plan-on, plan_steady}
use Rattle.lent_plan.proofs.give_ids.Invariants.{Made}
use Rattle.lent_plan.proofs.give_ids.Goals.{After-slot_of-was}
use Rattle.lent_plan.proofs.give_ids.Goals as goal

-- ---- slot s and its row

abbrev u : After-slot_of-was → Setup
u b = b.args.setup

abbrev fr : After-slot_of-was → List ℤ
fr b = b.args.frame.now

abbrev old : After-slot_of-was → List Slot
old b = table_in b.args.old.now

abbrev s : After-slot_of-was → ℕ
s b = b.loop-s.s

abbrev kind : After-slot_of-was → ℤ
kind b = Turn.kind (fr b) (s b)

abbrev row : After-slot_of-was → List ℤ
row b = Turn.row (fr b) (s b)

-- The ids taken so far, and the next free one.
abbrev ids_taken : After-slot_of-was → List ℤ
ids_taken b = take b.loop-s.m b.loop-s.taken

abbrev free : After-slot_of-was → ℕ
free b = free_id (ids_taken b) b.loop-s.k

-- What was to be planned from the start.
abbrev promised : After-slot_of-was → Planned
promised b =
    let a = b.args in
    plan_from (take a.setup.n b.ids_of-taken.result) a.counter a.setup.n a.frame.now (table_in a.t.now) a.from.slot

-- All is known up to slot r.
abbrev MadeAt : After-slot_of-was → List ℤ → ℕ → ℕ → List Slot → ℕ → ℕ → Changed → Type 0
MadeAt b taken held m l k r c = Made (u b) (old b) (fr b) b.args.from.slot (promised b) taken held m l k r c

at : (b : After-slot_of-was) → Next (u b) (old b) (table_in b.loop-s.t) b.args.counter (fr b) (s b) b.loop-s.changes b.slot_of-was.result
at b = record {
  given = b.requires.left.given;
  old_long = table_long b.args.old.now;
  long = table_long b.loop-s.t;
  below = b.loop-s-test.true;
  tells = b.loop-s.invariant.1.tells;
  is = b.slot_of-was.ensures;
}

-- There is a place left among the taken ids.
placed : (b : After-slot_of-was) → b.loop-s.m < length b.loop-s.taken
placed b = omega (arith, b.loop-s-test.true, b.loop-s.invariant.1.few_taken, b.loop-s.invariant.1.places, b.loop-s.invariant.1.few)

-- The row's kind, read through its bits.
own-kind : (b : After-slot_of-was) → to_z w32 (of_z w32 b.row_at-r.result.first) ≡ kind b
own-kind b =
    let k = b.row_at-r.result.first in
    let f : SFits w32 k = search rules in
    to_z-of_z w32 k f ∙ ap kind_of b.row_at-r.ensures

-- Rows that are good up to here are good where this one is and the rest.
good-here : (b : After-slot_of-was) → rows_good (u b) (fr b) b.args.from.slot ≡ (good_row (axes_of (u b)) (row b) && rows_good (u b) (fr b) (s b + 1))
good-here b = b.loop-s.invariant.1.good ∙ Turn.good_turn (fr b) (s b) (u b).n b.loop-s-test.true (u b)

-- Rows that are passed over leave all that is known as it is.
jump : (b : After-slot_of-was) (taken : List ℤ) (held m : ℕ) (l : List ℕ) (k v : ℕ) (c : Changed) (r : ℕ) → MadeAt b taken held m (table_in l) k v c → NextLoud v (u b).n (table_in l) (fr b) r → MadeAt b taken held m (table_in l) k r c
jump b taken held m l k v c r g x =
    let p = passed (u b) (old b) (table_in l) b.args.counter (fr b) c b.requires.left.given (table_long b.args.old.now) (table_long l) (take m taken) k v r x g.tells in
    record {
      inside = x.inside;
      few = g.few;
      few_taken = omega (arith, g.few_taken, x.after);
      counts = g.counts;
      places = g.places;
      met = g.met;
      good = g.good ∙ p.good;
      whole = g.whole ∙ p.whole;
      tells = p.tells;
    }

-- ---- the needs

pub row_ok-requires : goal.row_ok-requires
row_ok-requires c =
    let m = small c.args.setup c.requires.left.given.setup in
    record { x = omega (arith, m.x); y = omega (arith, m.y); pressure = omega (arith, m.pressure); major = omega (arith, m.major); minor = omega (arith, m.minor) }

pub returns-then-not-row_ok : goal.returns-then-not-row_ok
returns-then-not-row_ok c =
    let b = (goal.at.returns-then-not-row_ok c).After-slot_of-was in
    let a = c.args in
    let judged = c.row_ok.ensures ∙ ap (good_row (axes_of (u b))) c.row_at-r.ensures in
    let bad = good-here b ∙ first-false _ _ (sym judged ∙ c.if-not-row_ok.true) in
    let all = plan_from (ids (table_of (old b))) a.counter a.setup.n (fr b) (table_in a.t.now) a.from.slot in
    subst (λ v. PlansIn v a.setup.n (old b) a.counter all c.refused.result (table_in c.loop-s.t)) (sym bad) c.refused.ensures

-- The slot is made, and its id taken.
pub loop-s-preserved-then-begins : goal.loop-s-preserved-then-begins
loop-s-preserved-then-begins c =
    let b = (goal.at.loop-s-preserved-then-begins c).After-slot_of-was in
    let g = c.loop-s.invariant.1 in
    let was = c.slot_of-was.result in
    let f = fate (kind b) was.id.0 in
    let j = free b in
    let m = c.loop-s.m in
    let k = c.after-k.result in
    let ji : c.choose-j.result ≡ j = c.choose-j.ensures.1 in
    let v : c.id_of-v.result.0 ≡ pos j = ap (λ (x : TrackingId). x.0) c.id_of-v.ensures ∙ ap pos ji in
    let yes : begun f ≡ true = sym (c.begins.ensures ∙ ap (λ z. begun (fate z was.id.0)) (own-kind b)) ∙ c.if-begins.true in
    let good : good_row (axes_of (u b)) (row b) ≡ true = sym (c.row_ok.ensures ∙ ap (good_row (axes_of (u b))) c.row_at-r.ensures) ∙ c.if-not-row_ok.false in
    let w = c.contact.result in
    let e : w ≡ contact_of (pos j) (row b) = c.contact.ensures ∙ ap₂ contact_of v c.row_at-r.ensures in
    let l = c.make-changes.new.t in
    let d = c.make-changes.result in
    let put : table_in l ≡ set (table_in c.loop-s.t) (s b) w = c.make-changes.ensures.1 in
    let more = take (m + 1) (set c.loop-s.taken m (pos j)) in
    let last : more ≡ ids_taken b ++ pos j ∷ [] = rw add-one (take-suc-set c.loop-s.taken m (pos j) (placed b)) in
    let same : Same (taken_after f j (ids_taken b)) more = rw (last, begun-taken f j (ids_taken b) yes) (same-last (pos j) (ids_taken b)) in
    let count : counter_after f j c.loop-s.k ≡ k = begun-counter f j c.loop-s.k yes ∙ sym (c.after-k.ensures ∙ ap next ji) in
    let slot = ap slot_of e ∙ begun-slot was (fr b) (per_slot * s b) j yes (good-plain (u b) (row b) good) in
    let bit : c.mark_of-held.result ≡ bit_of (pos j) = c.mark_of-held.ensures ∙ ap (λ x. bit_of (pos x)) ji in
    let met : Met (bit_or c.loop-s.held (bit_of (pos j))) more = rw last (met_join c.loop-s.held (ids_taken b) (pos j) g.met) in
    let made : MadeAt b (set c.loop-s.taken m (pos j)) (bit_or c.loop-s.held c.mark_of-held.result) (m + 1) (table_in l) k (s b + 1) d = record {
      inside = omega (arith, c.loop-s-test.true);
      few = g.few;
      few_taken = omega (arith, g.few_taken);
      counts = omega (arith, c.after-k.ensures);
      places = length-set c.loop-s.taken m (pos j) ∙ g.places;
      met = subst (λ x. Met (bit_or c.loop-s.held x) more) (sym bit) met;
      good = good-here b ∙ first-true _ _ good;
      whole = g.whole ∙ plan-on (at b) (ids_taken b) c.loop-s.k w more k slot same count ∙ ap (λ x. plan_from more k (u b).n (fr b) x (s b + 1)) (sym put);
      tells = tells-set (at b) w (table_in l) put d c.make-changes.ensures.0;
    } in
    let id = c.id_of-v.result.0 in
    let fi : SFits w32 id = search rules in
    let long : length l ≡ table_size = omega (arith, c.loop-s.invariant.0) in
    rw (to_z-of_z w32 id fi, v) (long, jump b _ _ _ l k (s b + 1) d c.next_loud-s.result made c.next_loud-s.ensures)

-- The slot is made, and no id is given.
pub loop-s-preserved : goal.loop-s-preserved
loop-s-preserved c =
    let b = (goal.at.loop-s-preserved c).After-slot_of-was in
    let g = c.loop-s.invariant.1 in
    let was = c.slot_of-was.result in
    let no : begun (fate (kind b) was.id.0) ≡ false = sym (c.begins.ensures ∙ ap (λ z. begun (fate z was.id.0)) (own-kind b)) ∙ c.if-begins.false in
    let good : good_row (axes_of (u b)) (row b) ≡ true = sym (c.row_ok.ensures ∙ ap (good_row (axes_of (u b))) c.row_at-r.ensures) ∙ c.if-not-row_ok.false in
    let w = c.stays.result in
    let e : w ≡ stayed (eq_z (kind b) (pos 0)) was (row b) = c.stays.ensures ∙ ap (λ r. stayed (eq_z (kind_of r) (pos 0)) was r) c.row_at-r.ensures in
    let slot = ap slot_of e ∙ stayed-slot was (fr b) (per_slot * s b) (free b) no (good-plain (u b) (row b) good) in
    let l = c.make-changes-else-begins.new.t in
    let d = c.make-changes-else-begins.result in
    let put : table_in l ≡ set (table_in c.loop-s.t) (s b) w = c.make-changes-else-begins.ensures.1 in
    let made : MadeAt b c.loop-s.taken c.loop-s.held c.loop-s.m (table_in l) c.loop-s.k (s b + 1) d = record {
      inside = omega (arith, c.loop-s-test.true);
      few = g.few;
      few_taken = omega (arith, g.few_taken);
      counts = g.counts;
      places = g.places;
      met = g.met;
      good = good-here b ∙ first-true _ _ good;
      whole = g.whole ∙ plan_steady (at b) (ids_taken b) c.loop-s.k w slot no ∙ ap (λ x. plan_from (ids_taken b) c.loop-s.k (u b).n (fr b) x (s b + 1)) (sym put);
      tells = tells-set (at b) w (table_in l) put d c.make-changes-else-begins.ensures.0;
    } in
    let long : length l ≡ table_size = omega (arith, c.loop-s.invariant.0) in
    (long, jump b _ _ _ l _ (s b + 1) d c.next_loud-s-else-begins.result made c.next_loud-s-else-begins.ensures)

pub returns : goal.returns
returns c =
    let l = c.loop-s in
    let k = l.invariant.1 in
    let a = c.args in
    let old = table_in a.old.now in
    let made = table_in a.t.now in
    let n = a.setup.n in
    let from = a.from.slot in
    let rows = rows_from per_slot (n - from) a.frame.now (per_slot * from) in
    let end : l.s ≡ n = omega (arith, k.inside, c.loop-s-test.false) in
    let z : n - l.s ≡ 0 = omega (arith, end) in
    let over = ap (λ k. good_rows (axes_of a.setup) (rows_from per_slot k a.frame.now (per_slot * l.s))) z ∙ ap (good_rows (axes_of a.setup)) (rows_none per_slot a.frame.now (per_slot * l.s)) in
    let all = k.good ∙ over in
    -- the ids that are gathered are those of the old table
    let rest = good-rest a.setup old (table_long a.old.now) c.requires.left.given.slots in
    let same : Same (ids (table_of old)) (take n c.ids_of-taken.result) =
    λ k. front_holds slot_of unused refl old n records rest (pos k) refl ∙ ap (unheld (pos k)) (sym c.ids_of-taken.ensures) in
    let gathers = planned-same (ids (table_of old)) (take n c.ids_of-taken.result) a.counter rows (table_of (drop from made)) same in
    let none_left = Turn.no_row (take l.m l.taken) l.k n a.frame.now (table_in l.t) l.s c.loop-s-test.false in
    subst (λ v. PlansIn v n old a.counter (plan_from (ids (table_of old)) a.counter n a.frame.now made from) (record { counter = l.k; changes = l.changes; good = true }) (table_in l.t))
    (sym all) (record {
      plan = sym (ap (after (table_of (take from made))) gathers ∙ k.whole ∙ none_left);
      tells = subst (λ x. Tells x old (table_in l.t) l.changes) end k.tells;
      good = refl;
    })
