-- `pairing::distance_of` meets its contract. Assumes nothing.
use mathlib.Core.Path.{ap, ap₂, ◌∙◌}
use Prim.Native.Nat.{◌+◌, ◌*◌}
use native.Mathlib.Omega.{arith}
use Rattle.model.specs.Pairing.{distance}
use Rattle.pairing.proofs.distance_of.Goals as goal

pub returns : goal.returns
unfolding distance
returns c = (
  ap₂ (λ a b. a + b) (c.square.ensures.0 ∙ ap (λ z. z * z) c.gap_of-across.ensures)
      (c.square-2.ensures.0 ∙ ap (λ z. z * z) c.gap_of-down.ensures),
  omega (arith, c.square.ensures.1, c.square-2.ensures.1),
)
