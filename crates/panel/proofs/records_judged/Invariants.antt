-- `panel::records_judged` tells whether a table's records are good, and says that live ids differ only where they do. The first loop has passed the records from n to `past`, the second the slots below j. Assumes nothing.
use mathlib.Core.Path.{◌≡◌}
use mathlib.Core.Bool.{Bool, true}
use mathlib.Core.List.{List}
use Prim.Native.Nat.{ℕ, ◌-◌}
use lib.ListN.{take, drop}
use Rattle.model.specs.Table.{good_records}
use Rattle.panel.specs.declared.Slot.{Slot}
use Rattle.panel.specs.declared.Setup.{Setup}
use Rattle.panel.specs.Seen.{slot_of, table_of, fields_of}
use Rattle.common.proofs.Apart.{Walked}
use Rattle.panel.proofs.Tables.{rest_good}
use Rattle.panel.proofs.records_judged.Given as goal

-- The first k slots are good; and they are walked over, unless low bits met.
pub record Seen (u : Setup) (t : List Slot) (met : ℕ) (apart : Bool) (k : ℕ) : Type 0 where
  pub left : good_records (fields_of u) u.n (table_of (take u.n t)) ≡ good_records (fields_of u) (u.n - k) (table_of (drop k (take u.n t)))
  pub walked : apart ≡ true → Walked slot_of t k met

abbrev pub invariant-loop-past : goal.invariant-loop-past
invariant-loop-past l = rest_good l.t l.setup.n ≡ rest_good l.t l.past

abbrev pub invariant-loop-j : goal.invariant-loop-j
invariant-loop-j l = Seen l.setup l.t l.held l.apart l.j
