-- `pairing::turn` meets its contract. The invariant: the sets from `free` on are made, and the smaller ones as they were. Assumes nothing.
use Prim.Native.Nat.{◌-◌}
use native.Mathlib.Omega.{arith}
use Rattle.pairing.proofs.Rows.{part-next, part_end}
use Rattle.pairing.proofs.turn.Goals as goal

pub loop-free-preserved : goal.loop-free-preserved
loop-free-preserved c =
    let s = c in
    let l = c.loop-free in
    part-next s.args.offers.now s.args.row.now l.row s.args.made.now l.made s.args.i s.args.all l.free (l.free - 1) s.requires.1 (omega (arith, c.loop-free-test.true)) l.invariant
    c.cell-v.result
    c.cell-v.ensures
    s.requires.0

pub returns : goal.returns
returns c =
    let s = c in
    let l = c.loop-free in
    part_end s.args.offers.now s.args.row.now l.row s.args.made.now l.made s.args.i s.args.all l.free (omega (arith, c.loop-free-test.false)) l.invariant
