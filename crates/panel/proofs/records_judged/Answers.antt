-- `panel::records_judged` tells whether a table's records are good, and says that live ids differ only where they do. The first loop has passed the records from n to `past`, the second the slots below j. Assumes nothing.
use borrow.Author.Rules.{rules}
use borrow.Author.Tests.{eqb-true}
use mathlib.Core.Path.{◌≡◌, refl, sym, ap, ◌∙◌}
use mathlib.Core.Bool.{Bool, true, false, ◌&&◌, false≢true}
use mathlib.Core.List.{List}
use Prim.Native.Nat.{ℕ, ◌≤◌, ◌<◌, ◌-◌, ◌+◌}
use native.Mathlib.Omega.{arith}
use lib.Bits.{bit_and}
use lib.ListN.{take, drop, get_or, length}
use mir.Syntax.{w32}
use mir.Val.{SFits}
use mir.ValLaws.{to_z-of_z}
use Rattle.model.specs.Panel.{records}
use Rattle.model.specs.Table.{good_slot, good_records}
use Rattle.model.proofs.Bools.{holds, and_left, and_right}
use Rattle.model.proofs.Tables.{eq_table→eq}
use Rattle.panel.specs.declared.Slot.{Slot}
use Rattle.panel.specs.declared.Setup.{Setup}
use Rattle.panel.specs.Judged.{JudgedBy}
use Rattle.panel.specs.Seen.{slot_of, table_of, fields_of, blank, unused, unused_all, SameFrom}
use Rattle.common.proofs.Signs.{and-false, and-true, alive, dead}
use Rattle.common.proofs.Apart.{bit_of, dead_turn, free_turn, walk_over}
use Rattle.panel.proofs.Tables.{good_parts, slots-turn, slots-over, rest_good, rest-turn, rest-over}
use Rattle.panel.proofs.records_judged.Goals.{After-slot_unused, After-slot_ok, then-id, else-id}
use Rattle.panel.proofs.records_judged.Goals as goal

module _ (u : Setup) (t : List Slot) (full : length t ≡ records) where
  -- Whether the first n slots are good, and of them those from k on.
  abbrev slots : Bool
  slots = good_records (fields_of u) u.n (table_of (take u.n t))

  abbrev left : ℕ → Bool
  left k = good_records (fields_of u) (u.n - k) (table_of (drop k (take u.n t)))

  whole : (b : Bool) → rest_good t u.n ≡ b → good_records (fields_of u) u.n (table_of t) ≡ (slots && b)
  whole b e = good_parts u t full ∙ ap (λ x. slots && x) e

  -- Where the others were never used, the slots alone are left to judge.
  alone : rest_good t u.n ≡ true → good_records (fields_of u) u.n (table_of t) ≡ slots
  alone e = whole true e ∙ and-true slots

  refused : good_records (fields_of u) u.n (table_of t) ≡ false → JudgedBy u t (record { good = false; apart = false })
  refused e = record { good = sym e; past = λ q. absurd (false≢true q); apart = λ q. absurd (false≢true q) }

  slot-turn : (k : ℕ) (b : Bool) → u.n ≤ records → k < u.n → b ≡ good_slot (fields_of u) (slot_of (get_or t k blank)) → left k ≡ (b && left (k + 1))
  slot-turn k b few h e =
      let room : u.n ≤ length t = omega arith in
      slots-turn t u.n room k h (fields_of u) ∙ ap (λ x. x && left (k + 1)) (sym e)

-- What a turn's test says of the records past the slots, and of the slots.
past-turn : (c : After-slot_unused) → rest_good c.args.t c.args.setup.n ≡ (c.slot_unused.result && rest_good c.args.t (c.loop-past.past + 1))
past-turn c =
    let full : length c.args.t ≡ records = search rules in
    c.loop-past.invariant ∙ rest-turn c.args.t full c.loop-past.past (search rules) ∙ ap (λ b. b && rest_good c.args.t (c.loop-past.past + 1)) (sym c.slot_unused.ensures)

turn : (c : After-slot_ok) (full : length c.args.t ≡ records) → slots c.args.setup c.args.t full ≡ (c.slot_ok.result && left c.args.setup c.args.t full (c.loop-j.j + 1))
turn c full = c.loop-j.invariant.left ∙ slot-turn c.args.setup c.args.t full c.loop-j.j c.slot_ok.result c.requires (search rules) c.slot_ok.ensures

pub returns-then-not-slot_unused : goal.returns-then-not-slot_unused
returns-then-not-slot_unused c =
    let u = c.args.setup in
    let t = c.args.t in
    let full : length t ≡ records = search rules in
    let used = rw c.if-not-slot_unused.true at (past-turn (goal.at.returns-then-not-slot_unused c).After-slot_unused) in
    refused u t full (whole u t full false used ∙ and-false (slots u t full) false refl)

pub loop-past-preserved : goal.loop-past-preserved
loop-past-preserved c = rw c.if-not-slot_unused.false at (past-turn (goal.at.loop-past-preserved c).After-slot_unused)

pub returns-then-not-slot_ok : goal.returns-then-not-slot_ok
returns-then-not-slot_ok c =
    let u = c.args.setup in
    let t = c.args.t in
    let full : length t ≡ records = search rules in
    let never = c.loop-past.invariant ∙ rest-over t full c.loop-past.past (search rules) in
    refused u t full (alone u t full never ∙ rw c.if-not-slot_ok.true at (turn (goal.at.returns-then-not-slot_ok c).After-slot_ok full))

pub loop-j-preserved : goal.loop-j-preserved
loop-j-preserved c =
    let t = c.args.t in
    let l = c.loop-j in
    let v = (get_or t l.j blank).id.0 in
    let full : length t ≡ records = search rules in
    let h : l.j < length t = search rules in
    let f : SFits w32 v = search rules in
    let good = rw c.if-not-slot_ok.false at (turn (goal.at.loop-j-preserved c).After-slot_ok full) in
    elim c.if-id.branch [
      | then-id w ↦
          let e = rw (to_z-of_z w32 v f) at w.nat_of.ensures in
          let free = λ (a : c.if-id.apart ≡ true). rw e at (sym w.apart-is ∙ a) in
          record {
            left = good;
            walked = λ a.
                rw (w.held-is, e) (free_turn slot_of blank t l.j h l.held (alive v f w.if-id.true) (eqb-true (bit_and l.held (bit_of v)) 0 (and_right l.apart _ (free a))) (l.invariant.walked (and_left l.apart _ (free a))));
          }
      | else-id w ↦
          record { left = good; walked = λ a. rw w.held-is (dead_turn slot_of blank t l.j h l.held (dead v f w.if-id.false) (l.invariant.walked (sym w.apart-is ∙ a))) }
    ]

pub returns : goal.returns
returns c =
    let u = c.args.setup in
    let t = c.args.t in
    let l = c.loop-j in
    let full : length t ≡ records = search rules in
    let room : u.n ≤ length t = omega (arith, c.requires) in
    let done : l.j ≡ u.n = omega arith in
    let never = c.loop-past.invariant ∙ rest-over t full c.loop-past.past (search rules) in
    let same : SameFrom u.n t unused_all = eq_table→eq _ _ (holds _ never) in
    record {
      good = sym (alone u t full never ∙ l.invariant.left ∙ slots-over t u.n room l.j done (fields_of u));
      past = λ e. same;
      apart = λ e. walk_over slot_of unused refl t l.j records (rw (← done) at same) l.held (l.invariant.walked e);
    }
