-- `pairing::all_of` meets its contract. Assumes nothing.
use Prim.Native.Nat.{◌-◌}
use mathlib.Core.Path.{ap}
use native.Mathlib.Omega.{arith}
use Rattle.pairing.proofs.Sets.{power, power_some, power_small}
use Rattle.pairing.proofs.all_of.Goals as goal

pub returns : goal.returns
returns c = (ap (λ p. p - 1) (power c.args.n c.requires), omega (arith, power c.args.n c.requires, power_some c.args.n c.requires, power_small c.args.n c.requires))
