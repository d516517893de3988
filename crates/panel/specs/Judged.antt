-- What the walk over a state's table tells. Assumes nothing.
use Rattle.std.specs.Prelude.{◌≡◌, true, List}
use Rattle.model.specs.Table.{good_records, ids_differ}
use Rattle.panel.specs.declared.Slot.{Slot}
use Rattle.panel.specs.declared.Setup.{Setup}
use Rattle.panel.specs.declared.Judged.{Judged}
use Rattle.panel.specs.Seen.{table_of, fields_of, unused_all, SameFrom}

-- It says exactly whether the records are good; then those past the panel's slots were never used. Where it says that live ids are apart they are; where it does not, they may be.
pub record JudgedBy (u : Setup) (t : List Slot) (r : Judged) : Type 0 where
  pub good : r.good ≡ good_records (fields_of u) u.n (table_of t)
  pub past : r.good ≡ true → SameFrom u.n t unused_all
  pub apart : r.apart ≡ true → ids_differ (table_of t) ≡ true
