-- `lent_table::slots_judged` tells whether a lent table's slots are good, and says that live ids differ only where they do. The loop has passed the slots below j. Assumes nothing.
use borrow.Author.Rules.{rules}
use borrow.Author.Tests.{eqb-true}
use mathlib.Core.Path.{◌≡◌, refl, sym, ap, ◌∙◌, subst}
use mathlib.Core.Bool.{Bool, true, ◌&&◌, false≢true}
use mathlib.Core.List.{List}
use Prim.Native.Nat.{ℕ, ◌≤◌, ◌<◌, ◌-◌, ◌+◌, ◌*◌}
use native.Mathlib.Omega.{arith}
use lib.Bits.{bit_and}
use lib.Dec.{eqb}
use lib.IntN.{ℤ}
use lib.ListN.{take, drop, get_or, length}
use mir.Syntax.{w32}
use mir.Val.{SFits, to_z, of_z}
use mir.ValLaws.{to_z-of_z}
use Rattle.model.specs.Panel.{records}
use Rattle.model.specs.Numbers.{eq_z, minus_one}
use Rattle.model.specs.Table.{good_slot, good_records}
use Rattle.model.proofs.Bools.{and_left, and_right}
use Rattle.common.specs.Seen.{natural}
use Rattle.common.proofs.Signs.{and-true}
use Rattle.common.proofs.Apart.{bit_of, dead_turn, free_turn, walk_over}
use Rattle.panel.specs.declared.Slot.{Slot}
use Rattle.panel.specs.declared.Setup.{Setup}
use Rattle.panel.specs.Seen.{slot_of, table_of, fields_of, blank, unused, unused_all, SameFrom}
use Rattle.panel.proofs.Tables.{good_parts, slots-turn, slots-over, same_over}
use Rattle.lent.specs.Lent.{slot_size, slot_in, table_in}
use Rattle.lent_table.proofs.Read.{full, slot_is}
use Rattle.lent_table.proofs.slots_judged.Goals.{After-same, then-not-same, else-not-same}
use Rattle.lent_table.proofs.slots_judged.Goals as goal

-- ---- the slots from j on

-- Whether the slots from j on are good.
abbrev good_from : Setup → List Slot → ℕ → Bool
good_from u t j = good_records (fields_of u) (u.n - j) (table_of (drop j (take u.n t)))

module _ (u : Setup) (b : List ℕ) (small : u.n ≤ records) where
  room : u.n ≤ length (table_in b)
  room = omega (arith, full b, small)

  -- The other records were never used, so the slots alone are left to judge.
  slots-alone : SameFrom u.n (table_in b) unused_all → good_records (fields_of u) u.n (table_of (table_in b)) ≡ good_records (fields_of u) u.n (table_of (take u.n (table_in b)))
  slots-alone f =
      let never = same_over (table_in b) unused_all u.n f in
      let alone = good_records (fields_of u) u.n (table_of (take u.n (table_in b))) in
      good_parts u (table_in b) (full b) ∙ ap (λ x. alone && x) never ∙ and-true alone

  module _ (j : ℕ) (h : j < u.n) (slot : Slot) (r : slot ≡ slot_in b (slot_size * j)) where
    read : slot ≡ get_or (table_in b) j blank
    read = r ∙ slot_is b j (omega arith)

    turn : (ok : Bool) → ok ≡ good_slot (fields_of u) (slot_of slot) → good_from u (table_in b) j ≡ (ok && good_from u (table_in b) (j + 1))
    turn ok e =
        slots-turn (table_in b) u.n room j h (fields_of u)
        ∙ ap (λ x. x && good_from u (table_in b) (j + 1)) (sym (e ∙ ap (λ x. good_slot (fields_of u) (slot_of x)) read))

-- ---- its id

abbrev id : After-same → ℤ
id c = (get_or (table_in c.args.t.now) c.loop-j.j blank).id.0

-- The id that is looked at, as the bits of the one that was read.
id-is : (c : After-same) → (let r = c.slot_at-slot.result in to_z w32 (of_z w32 r.id.0) ≡ id c)
id-is c =
    let r = c.slot_at-slot.result in
    let f : SFits w32 r.id.0 = search rules in
    to_z-of_z w32 r.id.0 f ∙ ap (λ (x : Slot). x.id.0) (read c.args.setup c.args.t.now c.requires.0 c.loop-j.j (omega arith) r c.slot_at-slot.ensures)

dead-is : (c : After-same) → c.same.result ≡ eq_z (id c) minus_one
dead-is c = c.same.ensures ∙ ap (λ z. eq_z z minus_one) (id-is c)

-- ---- the needs

pub returns-then-not-slot_ok : goal.returns-then-not-slot_ok
returns-then-not-slot_ok c =
    let u = c.args.setup in
    let b = c.args.t.now in
    let l = c.loop-j in
    let no = l.invariant.left ∙ turn u b c.requires.0 l.j (omega arith) _ c.slot_at-slot.ensures _ c.slot_ok.ensures ∙ ap (λ x. x && good_from u (table_in b) (l.j + 1)) c.if-not-slot_ok.true in
    record { good = sym (slots-alone u b c.requires.0 c.requires.2 ∙ no); apart = λ e. absurd (false≢true e) }

pub loop-j-preserved : goal.loop-j-preserved
loop-j-preserved c =
    let p = (goal.at.loop-j-preserved c).After-same in
    let u = c.args.setup in
    let b = c.args.t.now in
    let l = c.loop-j in
    let v = id p in
    let met = bit_and l.held (bit_of v) in
    let within : l.j < length (table_in b) = omega (arith, full b) in
    record {
      inside = omega arith;
      left = l.invariant.left ∙ turn u b c.requires.0 l.j (omega arith) _ c.slot_at-slot.ensures _ c.slot_ok.ensures ∙ ap (λ x. x && good_from u (table_in b) (l.j + 1)) c.if-not-slot_ok.false;
      walked =
          elim c.if-not-same.branch [
            | then-not-same w ↦ λ a.
                let e : w.nat_of.result ≡ natural v = w.nat_of.ensures ∙ ap natural (id-is p) in
                let k : (l.apart && eqb met 0) ≡ true = rw e at (sym w.apart-is ∙ a) in
                let free = eqb-true met 0 (and_right l.apart (eqb met 0) k) in
                rw (w.held-is, e) (free_turn slot_of blank (table_in b) l.j within l.held (sym (dead-is p) ∙ w.if-not-same.true) free (l.invariant.walked (and_left l.apart _ k)))
            | else-not-same w ↦ λ a. rw w.held-is (dead_turn slot_of blank (table_in b) l.j within l.held (sym (dead-is p) ∙ w.if-not-same.false) (l.invariant.walked (sym w.apart-is ∙ a)))
          ];
    }

pub returns : goal.returns
returns c =
    let u = c.args.setup in
    let b = c.args.t.now in
    let l = c.loop-j in
    let done : u.n ≡ l.j = omega arith in
    let same = subst (λ m. SameFrom m (table_in b) unused_all) done c.requires.2 in
    record {
      good = sym (slots-alone u b c.requires.0 c.requires.2 ∙ l.invariant.left ∙ slots-over (table_in b) u.n (room u b c.requires.0) l.j (sym done) (fields_of u));
      apart = λ e. walk_over slot_of unused refl (table_in b) l.j records same l.held (l.invariant.walked e);
    }
