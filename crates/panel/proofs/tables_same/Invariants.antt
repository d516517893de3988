-- `panel::tables_same` tells whether two tables are equal. The loop has passed s equal slots. Assumes nothing.
use mathlib.Core.Path.{◌≡◌}
use lib.ListN.{drop}
use Rattle.model.specs.Table.{eq_table}
use Rattle.panel.specs.Seen.{table_of}
use Rattle.panel.proofs.tables_same.Given as goal

abbrev pub invariant-loop-s : goal.invariant-loop-s
invariant-loop-s l = eq_table (table_of l.a) (table_of l.b) ≡ eq_table (table_of (drop l.s l.a)) (table_of (drop l.s l.b))
