-- `crane_panel::ids_differ` tells whether the live ids differ. Assumes nothing.
use borrow.Author.Rules.{rules}
use mathlib.Core.Path.{◌≡◌, refl, sym, ◌∙◌}
use Prim.Native.Nat.{◌<◌}
use native.Mathlib.Omega.{arith}
use lib.ListN.{get_or, length}
use mir.Syntax.{w32}
use mir.Val.{SFits}
use mir.ValLaws.{to_z-of_z}
use Rattle.model.specs.Panel.{crane_records}
use Rattle.crane_panel.specs.Seen.{slot_of, blank, unused}
use Rattle.common.proofs.Signs.{alive, dead}
use Rattle.common.proofs.Apart.{dead_turn, free_turn, met-turn, clash_turn, walk_over}
use Rattle.crane_panel.proofs.ids_differ.Goals.{then-v+then-met-bit-eq0, then-v+else-met-bit-eq0+else-not-unheld_before, else-v}
use Rattle.crane_panel.proofs.ids_differ.Goals as goal

pub returns-then-not-unheld_before : goal.returns-then-not-unheld_before
returns-then-not-unheld_before c =
    let t = c.args.t in
    let k = c.loop-k.k in
    let v = (get_or t k blank).id.0 in
    let h : k < length t = search rules in
    let f : SFits w32 v = search rules in
    let held = sym (rw (to_z-of_z w32 v f) at c.unheld_before.ensures) ∙ c.if-not-unheld_before.true in
    sym (clash_turn slot_of blank t k h c.loop-k.met (alive v f c.if-v.true) held)

pub loop-k-preserved : goal.loop-k-preserved
loop-k-preserved c =
    let t = c.args.t in
    let k = c.loop-k.k in
    let met = c.loop-k.met in
    let v = (get_or t k blank).id.0 in
    let h : k < length t = search rules in
    let f : SFits w32 v = search rules in
    let own = to_z-of_z w32 v f in
    elim c.if-v.branch [
      | then-v+then-met-bit-eq0 w ↦
          let e = rw own at w.nat_of.ensures in
          rw (w.met-is, e) (free_turn slot_of blank t k h met (alive v f w.if-v.true) (rw e at w.if-met-bit-eq0.true) c.loop-k.invariant)
      | then-v+else-met-bit-eq0+else-not-unheld_before w ↦
          let e = rw own at w.nat_of.ensures in
          let free = sym (rw own at w.unheld_before.ensures) ∙ w.if-not-unheld_before.false in
          rw w.met-is (met-turn slot_of blank t k h met (alive v f w.if-v.true) (rw e at w.if-met-bit-eq0.false) free c.loop-k.invariant)
      | else-v w ↦ rw w.met-is (dead_turn slot_of blank t k h met (dead v f w.if-v.false) c.loop-k.invariant)
    ]

pub returns : goal.returns
returns c =
    let l = c.loop-k in
    let e : c.args.n ≡ l.k = omega arith in
    sym (walk_over slot_of unused refl c.args.t l.k crane_records (rw e at c.requires.1) l.met l.invariant)
