-- `pairing::left_of` meets its contract. The invariant: those below c that are left over stand in front. Assumes nothing.
use mathlib.Core.Path.{sym, ap, ◌∙◌}
use mathlib.Core.Bool.{false}
use Prim.Native.Nat.{◌<◌}
use native.Mathlib.Omega.{arith}
use lib.ListN.{get_or}
use Rattle.pairing.proofs.Marks.{mark-at}
use Rattle.pairing.proofs.Lefts.{lefts_paired, lefts_more, lefts_end}
use Rattle.pairing.proofs.left_of.Goals.{then-not-marks-c, else-not-marks-c}
use Rattle.pairing.proofs.left_of.Goals as goal

pub loop-c-preserved : goal.loop-c-preserved
loop-c-preserved c =
    let a = c.args in
    let l = c.loop-c in
    let h : l.c < 5 = omega (arith, c.loop-c-test.true, c.requires.2) in
    let mark = sym (mark-at a.pairing.now l.c h) ∙ ap (λ ms. get_or ms l.c false) (sym c.marks_of-marks.ensures) in
    elim c.if-not-marks-c.branch [
      | then-not-marks-c w ↦ rw (w.left-is, w.count-is) (lefts_more a.pairing.now a.news c.requires.2 l.left l.count l.c c.loop-c-test.true l.invariant (mark ∙ w.if-not-marks-c.true))
      | else-not-marks-c w ↦ rw (w.left-is, w.count-is) (lefts_paired a.pairing.now a.news c.requires.2 l.left l.count l.c c.loop-c-test.true l.invariant (mark ∙ w.if-not-marks-c.false))
    ]

pub returns : goal.returns
returns c =
    let s = c in
    let l = c.loop-c in
    lefts_end s.args.pairing.now s.args.news s.requires.2 l.left l.count l.c (omega (arith, c.loop-c-test.false)) l.invariant
