-- When a writer's state is well formed, test by test, and what the other functions know of one that is. Cited by the proofs of `state_ok` and `write`. Assumes nothing.
use mathlib.Core.Path.{◌≡◌, sym, ◌∙◌}
use mathlib.Core.Bool.{Bool, true, ◌&&◌}
use Prim.Native.Nat.{◌<◌, ◌≤◌}
use native.Mathlib.Omega.{arith}
use lib.Dec.{T, eqb, ltb}
use lib.ListN.{length, length-map}
use borrow.Author.Tests.{eq-eqb}
use Rattle.model.specs.Panel.{base, setup_good, id_count, records}
use Rattle.model.specs.Table.{ids_differ, good_records, good_table}
use Rattle.model.specs.States.{writer_good}
use Rattle.model.specs.Pointing.{pointer_good, good_pointing}
use Rattle.model.proofs.Bools.{is_true}
use Rattle.model.proofs.Calls.{WriterFacts, writer-state}
use Rattle.model.proofs.Pointing.{PointerFacts, pointer_facts}
use Rattle.panel.specs.Seen.{slot_of, table_of, setup_of, fields_of, panel_seen, unused_all, SameFrom}
use Rattle.panel.proofs.Setups.{holds, small}
use Rattle.panel.proofs.Tables.{table-good, table-rest}
use Rattle.pointer.specs.Seen.{pointing_of}
use Rattle.writer.specs.declared.WriterState.{WriterState}
use Rattle.writer.specs.Seen.{plain, seen}

-- ---- the tests

-- Of ranks and told numbers.
abbrev pub pointing_good : WriterState → Bool
pointing_good s = good_pointing s.pointer (panel_seen s.setup) (table_of s.table) (pointing_of s.ranks s.told)

-- The whole test, from what its parts came to: the setup, the table, the current slot, the counter, ranks and told numbers.
pub good_by : (s : WriterState) → length s.table ≡ records → (a t b d e : Bool)
    → setup_good base (setup_of s.setup) ≡ a → (good_records (fields_of s.setup) s.setup.n (table_of s.table) && ids_differ (table_of s.table)) ≡ t → ltb s.current.0 s.setup.n ≡ b
    → ltb s.counter id_count ≡ d → pointing_good s ≡ e → pointer_good base (seen s) ≡ ((a && (t && b && d)) && e)
unfolding writer_good pointer_good
good_by s l a t b d e ea et eb ed ee =
    let z : eqb (length (table_of s.table)) records ≡ true = eq-eqb _ records (length-map s.table slot_of ∙ l) in
    let good = good_records (fields_of s.setup) s.setup.n (table_of s.table) in
    let apart = ids_differ (table_of s.table) in
    let below = ltb s.current.0 s.setup.n in
    let counts = ltb s.counter id_count in
    let length-holds : pointer_good base (seen s) ≡ ((setup_good base (setup_of s.setup) && ((true && good) && apart && below && counts)) && pointing_good s) =
    λ i. (setup_good base (setup_of s.setup) && ((z i && good) && apart && below && counts)) && pointing_good s in
    length-holds ∙ (λ i. (ea i && (et i && eb i && ed i)) && ee i)

-- ---- what is known of a well-formed state

module _ (s : WriterState) (g : pointer_good base (seen s) ≡ true) where
  parts : PointerFacts base (seen s)
  parts = pointer_facts base (seen s) (holds _ g)

  pub good_facts : WriterFacts base (plain s)
  good_facts = writer-state base (plain s) parts.writer

  -- Ranks and told numbers are.
  pub good-pointing : T (pointing_good s)
  good-pointing = parts.pointing

  pub good-setup : setup_good base (setup_of s.setup) ≡ true
  good-setup = is_true (setup_good base (setup_of s.setup)) good_facts.setup

  pub good-size : s.setup.n ≤ records
  good-size = (small s.setup good-setup).n

  pub good-current : s.current.0 < records
  good-current = omega (arith, good_facts.writer.below, good-size)

  pub good-rest : SameFrom s.setup.n s.table unused_all
  good-rest = table-rest s.setup s.table good_facts.writer.good

  pub good-slots : length s.table ≡ records → good_records (fields_of s.setup) s.setup.n (table_of s.table) ≡ true
  good-slots l = sym (table-good s.setup s.table l) ∙ is_true (good_table (panel_seen s.setup) (table_of s.table)) good_facts.writer.good

  pub good-counter : s.counter < id_count
  good-counter = good_facts.writer.counts
