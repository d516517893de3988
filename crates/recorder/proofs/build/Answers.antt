-- `recorder::build` meets its contract: the number and count, the events and the check are stored as the laws of Built have it. Assumes nothing.
use native.Mathlib.Omega.{arith}
use Rattle.recorder.proofs.Built.{body-length, built}
use Rattle.recorder.proofs.build.Goals as goal

pub slice_bounds-sum_of-end : goal.slice_bounds-sum_of-end
slice_bounds-sum_of-end c = omega (arith, body-length c.args.number c.args.events.now c.requires c.put.new.b c.put.ensures c.copy.new.b c.copy.ensures)

pub returns : goal.returns
returns c =
    built c.args.number c.args.events.now c.requires c.put.new.b c.put.ensures c.copy.new.b c.copy.ensures
    c.sum_of-sum.result c.put-2.new.b c.sum_of-sum.ensures c.put-2.ensures
