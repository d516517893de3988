-- `crane_panel::rest_unused` tells whether the records from n up were never used. The loop has passed those below i. Assumes nothing.
use mathlib.Core.Path.{◌≡◌}
use lib.ListN.{drop}
use Rattle.model.specs.Table.{eq_table}
use Rattle.crane_panel.specs.Seen.{table_of, unused_all}
use Rattle.crane_panel.proofs.rest_unused.Given as goal

abbrev pub invariant-loop-i : goal.invariant-loop-i
invariant-loop-i l = eq_table (table_of (drop l.n l.t)) (table_of (drop l.n unused_all)) ≡ eq_table (table_of (drop l.i l.t)) (table_of (drop l.i unused_all))
