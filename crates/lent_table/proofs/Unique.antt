-- The promises of a lent table's tests leave no choice: each law is of the contract itself. Assumes nothing.
use mathlib.Core.Path.{sym, ◌∙◌}
use Rattle.model.specs.Unique.{OneAnswer}
use Rattle.plan.proofs.Unique.{next_one}
use Rattle.lent_table.proofs.slot_of.Reads as slot_of
use Rattle.lent_table.proofs.table_ok.Reads as table-ok
use Rattle.lent_table.proofs.table_good.Reads as table-good
use Rattle.lent_table.proofs.next_loud.Reads as next-loud

pub slot_of_one : OneAnswer slot_of.Learnt
slot_of_one κs a r q s t e g = e ∙ sym g

pub table_ok_one : OneAnswer table-ok.Learnt
table_ok_one κs a r q s t e g = e ∙ sym g

pub table-good_one : OneAnswer table-good.Learnt
table-good_one κs a r q s t e g = e ∙ sym g

pub next-loud_one : OneAnswer next-loud.Learnt
next-loud_one κs a r q s t e g = next_one _ _ _ _ r q e g
