-- What is seen of a line's state and held again is the state, whatever it holds. Cited by the proofs of the calls and by Promises. Assumes nothing.
use mathlib.Core.Path.{◌≡◌, ap}
use Rattle.reader.proofs.Held as R
use Rattle.pieces.specs.declared.LineState.{LineState}
use Rattle.pieces.specs.Seen.{seen, held}

pub state_back : (s : LineState) → held (seen s) ≡ s
state_back s = ap (λ r. record { left = s.left; count = s.count; reader = r }) (R.state_back s.reader)
