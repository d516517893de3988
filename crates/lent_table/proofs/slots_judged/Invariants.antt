-- `lent_table::slots_judged` tells whether a lent table's slots are good, and says that live ids differ only where they do. The loop has passed the slots below j. Assumes nothing.
use mathlib.Core.Path.{◌≡◌}
use mathlib.Core.Bool.{Bool, true}
use mathlib.Core.List.{List}
use Prim.Native.Nat.{ℕ, ◌≤◌, ◌-◌}
use lib.ListN.{take, drop}
use Rattle.model.specs.Table.{good_records}
use Rattle.common.proofs.Apart.{Walked}
use Rattle.panel.specs.declared.Slot.{Slot}
use Rattle.panel.specs.declared.Setup.{Setup}
use Rattle.panel.specs.Seen.{slot_of, table_of, fields_of}
use Rattle.lent.specs.Lent.{table_in}
use Rattle.lent_table.proofs.slots_judged.Given as goal

-- The first k slots are good; and they are walked over, unless low bits met.
pub record Seen (u : Setup) (n : ℕ) (t : List Slot) (met : ℕ) (apart : Bool) (k : ℕ) : Type 0 where
  pub inside : k ≤ n
  pub left : good_records (fields_of u) n (table_of (take n t)) ≡ good_records (fields_of u) (n - k) (table_of (drop k (take n t)))
  pub walked : apart ≡ true → Walked slot_of t k met

abbrev pub invariant-loop-j : goal.invariant-loop-j
invariant-loop-j l = Seen l.setup l.n (table_in l.t) l.held l.apart l.j
