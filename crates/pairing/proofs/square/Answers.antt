-- `pairing::square` meets its contract. Assumes nothing.
use mathlib.Core.Path.{refl}
use Rattle.model.proofs.PairingBest.{square_le}
use Rattle.pairing.proofs.square.Goals as goal

pub returns : goal.returns
returns c = (refl, square_le c.args.a c.requires)
