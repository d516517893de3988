-- `panel::rest_unused` tells whether the records from n up were never used. The loop has passed those below i. Assumes nothing.
use mathlib.Core.Path.{◌≡◌}
use Rattle.panel.proofs.Tables.{rest_good}
use Rattle.panel.proofs.rest_unused.Given as goal

abbrev pub invariant-loop-i : goal.invariant-loop-i
invariant-loop-i l = rest_good l.t l.n ≡ rest_good l.t l.i
