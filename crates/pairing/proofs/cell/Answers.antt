-- `pairing::cell` meets its contract. The invariant: of the choices from c on the best is known. Assumes nothing.
use mathlib.Core.Path.{◌≡◌, refl}
use Prim.Native.Nat.{suc, ◌-◌, ◌<◌}
use native.Mathlib.Omega.{arith}
use Rattle.pairing.specs.Cells.{choosable, value}
use Rattle.pairing.proofs.Reach.{finish, reach_start, reach_used, reach_kept, reach_taken}
use Rattle.pairing.proofs.cell.Goals as goal

pub loop-c-init : goal.loop-c-init
loop-c-init c =
    let s = c in
    (omega arith, reach_start s.args.offers.now s.args.row.now s.args.free s.requires.2 s.requires.1 _ (omega arith))

pub loop-c-preserved-then-v-best : goal.loop-c-preserved-then-v-best
loop-c-preserved-then-v-best c =
    let s = c in
    let l = c.loop-c in
    let j = l.c - 1 in
    let z : l.c ≡ suc j = omega (arith, c.loop-c-test.true) in
    let h : j < 5 = omega (arith, l.invariant.0, c.loop-c-test.true) in
    (omega (arith, l.invariant.0), reach_taken s.args.offers.now s.args.row.now s.args.free s.requires.2 s.requires.1 l.best l.c j z h l.invariant.1 _ refl c.if-free-c-eq1.true (omega (arith, c.if-v-best.true)))

pub loop-c-preserved-else-v-best : goal.loop-c-preserved-else-v-best
loop-c-preserved-else-v-best c =
    let s = c in
    let l = c.loop-c in
    let j = l.c - 1 in
    let z : l.c ≡ suc j = omega (arith, c.loop-c-test.true) in
    let h : j < 5 = omega (arith, l.invariant.0, c.loop-c-test.true) in
    (omega (arith, l.invariant.0), reach_kept s.args.offers.now s.args.row.now s.args.free s.requires.2 s.requires.1 l.best l.c j z h l.invariant.1 _ refl (omega (arith, c.if-v-best.false)))

pub loop-c-preserved : goal.loop-c-preserved
loop-c-preserved c =
    let s = c in
    let l = c.loop-c in
    let j = l.c - 1 in
    let z : l.c ≡ suc j = omega (arith, c.loop-c-test.true) in
    let h : j < 5 = omega (arith, l.invariant.0, c.loop-c-test.true) in
    (omega (arith, l.invariant.0), reach_used s.args.offers.now s.args.row.now s.args.free s.requires.2 s.requires.1 l.best l.c j z h l.invariant.1 c.if-free-c-eq1.false)

pub returns : goal.returns
returns c =
    let s = c in
    let l = c.loop-c in
    finish (choosable s.args.free) (value s.args.offers.now s.args.row.now s.args.free) l.best l.c (omega (arith, c.loop-c-test.false)) l.invariant.1
