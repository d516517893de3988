-- `pointer::marks_of` marks the ranks of the contacts that go on. The loop has passed i records. Assumes nothing.
use mathlib.Core.Path.{◌≡◌, refl, sym, ap, ap₂, ◌∙◌, subst}
use mathlib.Core.Bool.{◌&&◌}
use Prim.Native.Nat.{◌<◌}
use native.Mathlib.Omega.{arith}
use lib.IntN.{pos}
use lib.ListN.{drop, get_or, length-set}
use mir.Syntax.{w32}
use mir.Val.{SFits}
use mir.ValLaws.{to_z-of_z}
use Rattle.model.specs.Panel.{records}
use Rattle.model.specs.Ranks.{ages}
use Rattle.model.proofs.RanksMarks.{Marked, marked_start}
use Rattle.pointer.specs.Seen.{fates_by}
use Rattle.pointer.proofs.Idle.{idle_ages}
use Rattle.pointer.proofs.Tops.{marks_end}
use Rattle.pointer.proofs.Turns.{going_turn, other_turn}
use Rattle.model.specs.Numbers.{eq_z}
use Rattle.model.specs.Table.{live}
use borrow.Author.Rules.{rules}
use Rattle.pointer.proofs.marks_of.Goals.{After-goes_on, then-goes_on, else-goes_on}
use Rattle.pointer.proofs.marks_of.Goals as goal

pub loop-i-init : goal.loop-i-init
loop-i-init c =
    let a = c.args in
    record { inside = search rules; full = refl; marks = marked_start records (ages records (fates_by a.old.now a.new.now) a.ranks.now) }

found : (c : After-goes_on) → (let a = c.args in let i = c.loop-i.i in
    (live (get_or a.new.now i (pos 0)) && eq_z (get_or a.old.now i (pos 0)) (get_or a.new.now i (pos 0))) ≡ c.goes_on.result)
found c =
    let a = c.args in
    let i = c.loop-i.i in
    let was = get_or a.old.now i (pos 0) in
    let is = get_or a.new.now i (pos 0) in
    let f : SFits w32 was = search rules in
    let g : SFits w32 is = search rules in
    sym (c.goes_on.ensures ∙ ap₂ (λ x y. live y && eq_z x y) (to_z-of_z w32 was f) (to_z-of_z w32 is g))

pub loop-i-preserved : goal.loop-i-preserved
loop-i-preserved c =
    let a = c.args in
    let told = c.requires.0 in
    let l = c.loop-i in
    let here = (goal.at.loop-i-preserved c).After-goes_on in
    let inside : l.i < records = search rules in
    let all = ages records (fates_by a.old.now a.new.now) a.ranks.now in
    elim c.if-goes_on.branch [
      | then-goes_on w ↦
          let turn = going_turn a.old.now a.new.now a.ranks.now l.i (omega (arith, told.before)) (omega (arith, told.after)) (omega (arith, told.ranked)) l.m all l.invariant.full l.invariant.marks
          (found here ∙ w.if-goes_on.true) (omega (arith, told.small l.i inside, l.invariant.full)) in
          rw (w.m-is, w.from.ensures) (record { inside = search rules; full = length-set l.m _ 1 ∙ l.invariant.full; marks = turn })
      | else-goes_on w ↦
          rw w.m-is (record {
            inside = search rules;
            full = l.invariant.full;
            marks = other_turn a.old.now a.new.now a.ranks.now l.i (omega (arith, told.before)) (omega (arith, told.after)) (omega (arith, told.ranked)) l.m all l.invariant.full l.invariant.marks
                (found here ∙ w.if-goes_on.false);
          })
    ]

pub returns : goal.returns
returns c =
    let l = c.loop-i in
    let a = c.args in
    let end : l.i ≡ a.n = omega (arith, l.invariant.inside, c.loop-i-test.false) in
    let none = ap (λ k. ages records (fates_by (drop k a.old.now) (drop k a.new.now)) (drop k a.ranks.now)) end ∙ idle_ages a.n a.new.now c.requires.1 a.old.now a.ranks.now in
    marks_end l.m (ages records (fates_by a.old.now a.new.now) a.ranks.now) (subst (λ x. Marked l.m x (ages records (fates_by a.old.now a.new.now) a.ranks.now)) none l.invariant.marks)
