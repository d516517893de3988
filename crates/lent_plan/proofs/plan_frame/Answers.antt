-- `lent_plan::plan_frame` judges the rows of a frame, makes its table in place and its counter and tells what changes, up to the first contact that begins; the rest is `give_ids`'. Assumes nothing.
use borrow.Author.Rules.{rules}
use mathlib.Core.Path.{◌≡◌, refl, sym, ap, subst, ◌∙◌}
use mathlib.Core.Bool.{Bool, true, false, cond}
use mathlib.Core.List.{List}
use Prim.Native.Nat.{ℕ, ◌+◌, ◌-◌, ◌*◌}
use native.Mathlib.Omega.{arith}
use lib.IntN.{ℤ, pos}
use lib.ListN.{length, set}
use mir.Syntax.{w32}
use mir.Val.{SFits, of_z, to_z}
use mir.ValLaws.{to_z-of_z}
use Rattle.model.specs.Panel.{per_slot}
use Rattle.model.specs.Numbers.{eq_z}
use Rattle.model.specs.Table.{ids, live, numbers_of}
use Rattle.model.specs.Frame.{kind_of, good_row, good_rows, none, goes_on, begins, fate, free_id, rows_from, slot_after, framed}
use Rattle.model.specs.Sending.{changed_in}
use Rattle.model.proofs.Rows.{rows_none}
use Rattle.common.proofs.Signs.{first-false, first-true, or-true}
use Rattle.panel.specs.declared.Slot.{Slot}
use Rattle.panel.specs.declared.Setup.{Setup}
use Rattle.panel.specs.Seen.{slot_of, table_of, axes_of}
use Rattle.panel.proofs.Setups.{small}
use Rattle.tally.specs.declared.Changed.{Changed}
use Rattle.tally.specs.Told.{with_slot, Tells}
use Rattle.plan.specs.Row.{begun, contact_of, stayed}
use Rattle.plan.specs.Quiet.{NextLoud}
use Rattle.plan.specs.Walk.{plan_from}
use Rattle.plan.proofs.Turn as Turn
use Rattle.plan.proofs.Turn.{good-plain, stayed-slot}
use Rattle.plan.proofs.Skipped.{skipped}
use Rattle.lent.specs.Lent.{table_size, table_in}
use Rattle.lent_plan.specs.InPlace.{PlansIn}
use Rattle.lent_table.proofs.Read.{full as table_long}
use Rattle.lent_plan.proofs.Passed.{passed}
use Rattle.lent_plan.proofs.Turned.{Next, Becomes, tells-set, plan_steady}
use Rattle.lent_plan.proofs.plan_frame.Invariants.{Kept}
use Rattle.lent_plan.proofs.plan_frame.Goals.{After-same}
use Rattle.lent_plan.proofs.plan_frame.Goals as goal

-- ---- slot s and its row

abbrev u : After-same → Setup
u b = b.args.setup

abbrev fr : After-same → List ℤ
fr b = b.args.frame.now

abbrev old : After-same → List Slot
old b = table_in b.args.old.now

abbrev taken : After-same → List ℤ
taken b = ids (table_of (old b))

abbrev s : After-same → ℕ
s b = b.loop-s.s

abbrev kind : After-same → ℤ
kind b = Turn.kind (fr b) (s b)

abbrev row : After-same → List ℤ
row b = Turn.row (fr b) (s b)

-- All is known up to slot r, where the table is l and c tells what changed.
abbrev KeptAt : After-same → List Slot → Changed → ℕ → Type 0
KeptAt b l c r = Kept (u b) (old b) b.args.counter (fr b) l c r

at : (b : After-same) → Next (u b) (old b) (table_in b.loop-s.t) b.args.counter (fr b) (s b) b.loop-s.changes b.slot_of-was.result
at b = record {
  given = b.requires.ready.given;
  old_long = table_long b.args.old.now;
  long = table_long b.loop-s.t;
  below = b.loop-s-test.true;
  tells = b.loop-s.invariant.1.tells;
  is = b.slot_of-was.ensures;
}

-- The row's kind, read through its bits.
own-kind : (b : After-same) → to_z w32 (of_z w32 b.row_at-r.result.first) ≡ kind b
own-kind b =
    let k = b.row_at-r.result.first in
    let f : SFits w32 k = search rules in
    to_z-of_z w32 k f ∙ ap kind_of b.row_at-r.ensures

kind-read : (b : After-same) → b.same.result ≡ eq_z (kind b) (pos 0)
kind-read b = b.same.ensures ∙ ap (λ z. eq_z z (pos 0)) (own-kind b)

-- Slot s is w in the table l, and no contact began in it.
turned : (b : After-same) (w : Slot) → Becomes (fr b) (s b) (taken b) b.args.counter b.slot_of-was.result w → begun (fate (kind b) b.slot_of-was.result.id.0) ≡ false
    → good_row (axes_of (u b)) (row b) ≡ true → (l : List Slot) → l ≡ set (table_in b.loop-s.t) (s b) w
    → (c : Changed) → c ≡ with_slot b.loop-s.changes (s b) (changed_in (slot_of b.slot_of-was.result) (slot_of w)) → KeptAt b l c (s b + 1)
turned b w e stays good l put c told =
    let g = b.loop-s.invariant.1 in
    let n = (u b).n in
    let rest = plan_steady (at b) (taken b) b.args.counter w e stays ∙ ap (λ x. plan_from (taken b) b.args.counter n (fr b) x (s b + 1)) (sym put) in
    record {
      inside = omega (arith, b.loop-s-test.true);
      few = g.few;
      good = g.good ∙ Turn.good_turn (fr b) (s b) n b.loop-s-test.true (u b) ∙ first-true _ _ good;
      whole = g.whole ∙ rest;
      tells = tells-set (at b) w l put c told;
    }

-- Rows that are passed over leave all that is known as it is.
jump : (b : After-same) (l : List ℕ) (c : Changed) (v r : ℕ) → KeptAt b (table_in l) c v → NextLoud v (u b).n (table_in l) (fr b) r → KeptAt b (table_in l) c r
jump b l c v r h x =
    let p = passed (u b) (old b) (table_in l) b.args.counter (fr b) c b.requires.ready.given (table_long b.args.old.now) (table_long l) (taken b) b.args.counter v r x h.tells in
    record { inside = x.inside; few = h.few; good = h.good ∙ p.good; whole = h.whole ∙ p.whole; tells = p.tells }

pub loop-s-init : goal.loop-s-init
loop-s-init c =
    let a = c.args in
    let p = c.requires.ready in
    let old = table_in a.old.now in
    let z : a.setup.n - 0 ≡ a.setup.n = omega arith in
    let k = skipped a.setup old a.counter a.frame.now p.given (table_long a.old.now) a.from p.inside p.quiet in
    let from-0 = ap (λ m. good_rows (axes_of a.setup) (rows_from per_slot m a.frame.now 0)) (sym z) in
    let plan-0 = ap (λ m. framed a.counter (rows_from per_slot m a.frame.now 0) (table_of old)) (sym z) in
    let kept : Kept a.setup old a.counter a.frame.now old c.none-changes.result a.from = record {
      inside = p.inside;
      few = (small a.setup p.given.setup).n;
      good = from-0 ∙ k.good;
      whole = plan-0 ∙ k.whole;
      tells = subst (λ x. Tells a.from old old x) (sym c.none-changes.ensures) k.tells;
    } in
    (c.requires.size, subst (λ x. Kept a.setup old a.counter a.frame.now x c.none-changes.result a.from) (sym c.requires.copied) kept)

pub loop-s-preserved-then-same : goal.loop-s-preserved-then-same
loop-s-preserved-then-same c =
    let b = (goal.at.loop-s-preserved-then-same c).After-same in
    let was = c.slot_of-was.result in
    let is-0 : eq_z (kind b) (pos 0) ≡ true = sym (kind-read b) ∙ c.if-same.true in
    let lifted = λ (z : Bool). cond z none (cond (eq_z (kind b) (pos 2)) begins (cond (live was.id.0) goes_on begins)) in
    let no-contact = ap (λ z. begun (lifted z)) is-0 in
    let slot = ap slot_of c.lift.ensures ∙ sym (ap (λ z. slot_after (lifted z) (free_id (taken b) c.args.counter) (slot_of was) (numbers_of (row b))) is-0) in
    let l = c.make-changes.new.t in
    let d = c.make-changes.result in
    let long : length l ≡ table_size = omega (arith, c.loop-s.invariant.0) in
    let kept = turned b c.lift.result slot no-contact (or-true _ _ is-0) (table_in l) c.make-changes.ensures.1 d c.make-changes.ensures.0 in
    (long, jump b l d (s b + 1) c.next_loud-s.result kept c.next_loud-s.ensures)

pub row_ok-requires : goal.row_ok-requires
row_ok-requires c =
    let m = small c.args.setup c.requires.ready.given.setup in
    record { x = omega (arith, m.x); y = omega (arith, m.y); pressure = omega (arith, m.pressure); major = omega (arith, m.major); minor = omega (arith, m.minor) }

pub returns-then-not-row_ok : goal.returns-then-not-row_ok
returns-then-not-row_ok c =
    let b = (goal.at.returns-then-not-row_ok c).After-same in
    let a = c.args in
    let n = a.setup.n in
    let judged = c.row_ok.ensures ∙ ap (good_row (axes_of a.setup)) c.row_at-r.ensures in
    let bad = c.loop-s.invariant.1.good ∙ Turn.good_turn (fr b) (s b) n c.loop-s-test.true a.setup ∙ first-false _ _ (sym judged ∙ c.if-not-row_ok.true) in
    let all = framed a.counter (rows_from per_slot n (fr b) 0) (table_of (old b)) in
    subst (λ v. PlansIn v n (old b) a.counter all c.refused.result (table_in c.loop-s.t)) (sym bad) c.refused.ensures

pub loop-s-preserved : goal.loop-s-preserved
loop-s-preserved c =
    let b = (goal.at.loop-s-preserved c).After-same in
    let was = c.slot_of-was.result in
    let not-0 : eq_z (kind b) (pos 0) ≡ false = sym (kind-read b) ∙ c.if-same.false in
    let not-begun : begun (fate (kind b) was.id.0) ≡ false = sym (c.begins.ensures ∙ ap (λ z. begun (fate z was.id.0)) (own-kind b)) ∙ c.if-begins.false in
    let good : good_row (axes_of (u b)) (row b) ≡ true = sym (c.row_ok.ensures ∙ ap (good_row (axes_of (u b))) c.row_at-r.ensures) ∙ c.if-not-row_ok.false in
    let w = c.contact.ensures ∙ ap (contact_of was.id.0) c.row_at-r.ensures ∙ sym (ap (λ z. stayed z was (row b)) not-0) in
    let slot = ap slot_of w ∙ stayed-slot was (fr b) (per_slot * s b) (free_id (taken b) c.args.counter) not-begun (good-plain (u b) (row b) good) in
    let l = c.make-changes-else-same.new.t in
    let d = c.make-changes-else-same.result in
    let long : length l ≡ table_size = omega (arith, c.loop-s.invariant.0) in
    let kept = turned b c.contact.result slot not-begun good (table_in l) c.make-changes-else-same.ensures.1 d c.make-changes-else-same.ensures.0 in
    (long, jump b l d (s b + 1) c.next_loud-s-else-same.result kept c.next_loud-s-else-same.ensures)

pub returns : goal.returns
returns c =
    let l = c.loop-s in
    let a = c.args in
    let kept = l.invariant.1 in
    let old = table_in a.old.now in
    let n = a.setup.n in
    let end : l.s ≡ n = omega (arith, kept.inside, c.loop-s-test.false) in
    let z : n - l.s ≡ 0 = omega (arith, end) in
    let over = ap (λ m. good_rows (axes_of a.setup) (rows_from per_slot m a.frame.now (per_slot * l.s))) z ∙ ap (good_rows (axes_of a.setup)) (rows_none per_slot a.frame.now (per_slot * l.s)) in
    let made = Turn.no_row (ids (table_of old)) a.counter n a.frame.now (table_in l.t) l.s c.loop-s-test.false in
    subst (λ v. PlansIn v n old a.counter (framed a.counter (rows_from per_slot n a.frame.now 0) (table_of old)) (record { counter = a.counter; changes = l.changes; good = true }) (table_in l.t))
    (sym (kept.good ∙ over)) (record {
      plan = sym (kept.whole ∙ made);
      tells = subst (λ x. Tells x old (table_in l.t) l.changes) end kept.tells;
      good = refl;
    })
