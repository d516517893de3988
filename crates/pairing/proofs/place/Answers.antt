-- `pairing::place` meets its contract. The invariant: the slots before this one have their contacts. Assumes nothing.
use mathlib.Core.Path.{◌≡◌}
use Prim.Native.Nat.{◌-◌}
use native.Mathlib.Omega.{arith}
use lib.ListN.{length}
use Rattle.model.specs.Pairing.{left_over}
use Rattle.pairing.proofs.Placing.{placing_old, placing_new, placing_end, placed-is, left-size}
use Rattle.pairing.proofs.place.Goals.{After-left_of-left, then-live-slot, else-live-slot}
use Rattle.pairing.proofs.place.Goals as goal

sized : (a : After-left_of-left) → length a.left_of-left.result ≡ 32
sized a = left-size a.args.news a.args.pairing.now a.left_of-left.result a.requires.3 a.left_of-left.ensures

pub loop-slot-preserved : goal.loop-slot-preserved
loop-slot-preserved c =
    let a = c.args in
    let l = c.loop-slot in
    let r = c.requires in
    let left = sized (goal.at.loop-slot-preserved c).After-left_of-left in
    elim c.if-live-slot.branch [
      | then-live-slot w ↦
          rw (w.out-is, w.paired-is, w.fresh-is) (placing_old a.live.now a.pairing.now c.left_of-left.result r.0 r.1 left l.out l.paired l.fresh l.slot c.loop-slot-test.true l.invariant w.if-live-slot.true)
      | else-live-slot w ↦
          rw (w.out-is, w.paired-is, w.fresh-is) (placing_new a.live.now a.pairing.now c.left_of-left.result r.0 r.1 left l.out l.paired l.fresh l.slot c.loop-slot-test.true l.invariant w.if-live-slot.false)
    ]

pub returns : goal.returns
returns c =
    let a = c in
    let s = a in
    let l = c.loop-slot in
    placed-is s.args.live.now s.args.pairing.now a.left_of-left.result l.out s.args.news (32 - length (left_over s.args.news s.args.pairing.now)) a.left_of-left.ensures
    (placing_end s.args.live.now s.args.pairing.now a.left_of-left.result s.requires.0 s.requires.1 (sized (goal.at.returns a).After-left_of-left) l.out l.paired l.fresh l.slot (omega (arith, c.loop-slot-test.false)) l.invariant)
