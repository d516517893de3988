-- The panel's promises leave no choice: each law is of the contract itself. Assumes nothing.
use mathlib.Core.Path.{sym, ap, ◌∙◌}
use mathlib.Core.List.{List}
use lib.IntN.{ℤ, pos}
use lib.ListN.{get_or}
use Rattle.model.specs.Unique.{OneAnswer}
use Rattle.panel.specs.declared.Row.{Row}
use Rattle.panel.proofs.Slot.unused.Reads as unused
use Rattle.panel.proofs.unused_table.Reads as unused-table
use Rattle.panel.proofs.zero_table.Reads as zero-table
use Rattle.panel.proofs.setup_ok.Reads as setup-ok
use Rattle.panel.proofs.numbers_ok.Reads as numbers-ok
use Rattle.panel.proofs.row_at.Reads as row_at
use Rattle.panel.proofs.table_ok.Reads as table-ok
use Rattle.panel.proofs.ids_differ.Reads as ids-differ
use Rattle.panel.proofs.table_good.Reads as table-good
use Rattle.panel.proofs.tables_same.Reads as tables-same

pub unused_one : OneAnswer unused.Learnt
unused_one κs a r q s t e g = e ∙ sym g

pub unused-table_one : OneAnswer unused-table.Learnt
unused-table_one κs a r q s t e g = e ∙ sym g

pub zero-table_one : OneAnswer zero-table.Learnt
zero-table_one κs a r q s t e g = e ∙ sym g

pub setup_ok_one : OneAnswer setup-ok.Learnt
setup_ok_one κs a r q s t e g = e ∙ sym g

pub numbers_ok_one : OneAnswer numbers-ok.Learnt
numbers_ok_one κs a r q s t e g = e ∙ sym g

-- A row is its numbers.
abbrev row_from : List ℤ → Row
row_from l = record { first = get_or l 0 (pos 0); x = get_or l 1 (pos 0); y = get_or l 2 (pos 0); pressure = get_or l 3 (pos 0); major = get_or l 4 (pos 0); minor = get_or l 5 (pos 0) }

pub row_at_one : OneAnswer row_at.Learnt
row_at_one κs a r q s t e g = ap row_from (e ∙ sym g)

pub table_ok_one : OneAnswer table-ok.Learnt
table_ok_one κs a r q s t e g = e ∙ sym g

pub ids-differ_one : OneAnswer ids-differ.Learnt
ids-differ_one κs a r q s t e g = e ∙ sym g

pub tables_same_one : OneAnswer tables-same.Learnt
tables_same_one κs a r q s t e g = e ∙ sym g

pub table-good_one : OneAnswer table-good.Learnt
table-good_one κs a r q s t e g = e ∙ sym g
