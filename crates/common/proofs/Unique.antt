-- The promises leave no choice: each law is of the contract itself. Assumes nothing.
use mathlib.Core.Path.{◌≡◌, sym, ap, ◌∙◌}
use Rattle.model.specs.Unique.{OneAnswer}
use Rattle.common.specs.declared.Mode.{Mode}
use Rattle.common.specs.Seen.{mode_of, mode_from}
use Rattle.common.proofs.Back.{mode_back}
use Rattle.common.proofs.same.Reads as same
use Rattle.common.proofs.nat_of.Reads as nat-of
use Rattle.common.proofs.within.Reads as within
use Rattle.common.proofs.id_ok.Reads as id-ok
use Rattle.common.proofs.between.Reads as between
use Rattle.common.proofs.Verdict.number.Reads as number
use Rattle.common.proofs.last_mode.Reads as last-mode
use Rattle.common.proofs.first_skipped.Reads as first-skipped
use Rattle.common.proofs.earliest.Reads as earliest

pub same_one : OneAnswer same.Learnt
same_one κs a r q s t e g = e ∙ sym g

pub nat_of_one : OneAnswer nat-of.Learnt
nat_of_one κs a r q s t e g = e ∙ sym g

pub within_one : OneAnswer within.Learnt
within_one κs a r q s t e g = e ∙ sym g

pub id_ok_one : OneAnswer id-ok.Learnt
id_ok_one κs a r q s t e g = e ∙ sym g

pub between_one : OneAnswer between.Learnt
between_one κs a r q s t e g = e ∙ sym g

pub number_one : OneAnswer number.Learnt
number_one κs a r q s t e g = e ∙ sym g

-- A mode is what is seen of it.
same-mode : (m q : Mode) → mode_of m ≡ mode_of q → m ≡ q
same-mode m q e = sym (mode_back m) ∙ ap mode_from e ∙ mode_back q

pub last-mode_one : OneAnswer last-mode.Learnt
last-mode_one κs a r q s t e g = same-mode _ _ (e ∙ sym g)

pub first-skipped_one : OneAnswer first-skipped.Learnt
first-skipped_one κs a r q s t e g = e ∙ sym g

pub earliest_one : OneAnswer earliest.Learnt
earliest_one κs a r q s t e g = e ∙ sym g
