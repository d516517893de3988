-- `common::same` tells whether two signed numbers are equal. Assumes nothing.
use Rattle.common.proofs.Signs.{eq_bits}
use Rattle.common.proofs.same.Goals as goal

pub returns : goal.returns
returns c = eq_bits c.args.a c.args.b c.ranges.a c.ranges.b
