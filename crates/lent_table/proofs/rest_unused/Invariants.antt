-- `lent_table::rest_unused` tells whether the records from n up were never used. The loop has gathered those below i. Assumes nothing.
use mathlib.Core.Path.{◌≡◌}
use mathlib.Core.Bool.{Bool, ◌&&◌}
use mathlib.Core.List.{List, [], ◌∷◌}
use Prim.Native.Nat.{ℕ, ◌<◌, ◌^◌}
use lib.ListN.{drop}
use Rattle.model.specs.Table.{eq_table}
use Rattle.panel.specs.declared.Slot.{Slot}
use Rattle.panel.specs.Seen.{table_of, unused_all}
use Rattle.lent.specs.Lent.{table_in}
use Rattle.lent_table.proofs.Gathered.{idle}
use Rattle.lent_table.proofs.rest_unused.Given as goal

-- Whether the records from i on were never used.
abbrev pub rest_good : List Slot → ℕ → Bool
rest_good t i = eq_table (table_of (drop i t)) (table_of (drop i unused_all))

abbrev pub invariant-loop-i : goal.invariant-loop-i
invariant-loop-i l =
    (l.ids < 2 ^ 32) × (rest_good (table_in l.t) l.n ≡ (idle l.ids (l.x ∷ l.y ∷ l.pressure ∷ l.major ∷ l.minor ∷ []) && rest_good (table_in l.t) l.i))
