-- The promises leave no choice: each law is of the contract itself. Assumes nothing.
use mathlib.Core.Path.{sym, ◌∙◌}
use mathlib.Core.Bool.{true}
use Rattle.model.specs.Unique.{OneAnswer}
use Rattle.pointer.proofs.Unique.{moves_one as one-moved}
use Rattle.lent.specs.Lent.{table_in}
use Rattle.lent_pointer.proofs.apt.Reads as apt
use Rattle.lent_pointer.proofs.moves.Reads as moves

pub apt_one : OneAnswer apt.Learnt
apt_one κs a r q s t e g = e ∙ sym g

pub moves_one : OneAnswer moves.Learnt
moves_one κs a r q s t e g =
    let last = a.1.1.1.1.0 in
    one-moved true (table_in a.1.0.now) (table_in a.1.1.0.now) last.ranks last.told r q e g
