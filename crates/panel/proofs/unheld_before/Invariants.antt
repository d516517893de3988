-- `panel::unheld_before` tells whether a number is none of the first ids. The loop has compared j of them. Assumes nothing.
use mathlib.Core.Path.{◌≡◌}
use lib.ListN.{take, drop}
use Rattle.model.specs.Table.{ids, unheld}
use Rattle.panel.specs.Seen.{table_of}
use Rattle.panel.proofs.unheld_before.Given as goal

abbrev pub invariant-loop-j : goal.invariant-loop-j
invariant-loop-j l = unheld l.v (ids (table_of (take l.k l.t))) ≡ unheld l.v (ids (table_of (drop l.j (take l.k l.t))))
