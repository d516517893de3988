-- The states of a writer and a reader: when they are well formed, and the fresh ones. Assumes nothing.
use Rattle.std.specs.Prelude.{Bool, true, ◌&&◌, ◌∷◌, map, ℕ, ltb, pos, replicate}
use Rattle.model.specs.Panel.{Layout, Setup, Panel, setup_good, panel_of, id_count}
use Rattle.model.specs.Table.{Table, ids_differ, unused_slot, eq_table, good_table}
use Rattle.model.specs.Reader.{Mode, following, dropped, stale, Reader, settled_at}

-- ---- the writer's

-- The table, the current slot and the id counter.
pub record Writer : Type 0 where
  pub table : Table
  pub current : ℕ
  pub counter : ℕ

-- A writer with its setup.
pub record WriterState : Type 0 where
  pub setup : Setup
  pub writer : Writer

-- A good table whose live ids all differ, a current slot below n and a counter 0 to 65,535.
abbrev pub good_writer : Panel → Writer → Bool
good_writer p w = good_table p w.table && ids_differ w.table && ltb w.current p.slots && ltb w.counter id_count

-- A well-formed writer's state, its setup's ranges included.
unfoldable pub writer_good : Layout → WriterState → Bool
writer_good l s = setup_good l s.setup && good_writer (panel_of l s.setup) s.writer

-- ---- the reader's

-- A reader with its setup.
pub record ReaderState : Type 0 where
  pub setup : Setup
  pub reader : Reader

-- Dropped and stale have nothing pending.
abbrev pub settled : Mode → Table → Table → Bool
settled following s p = true
settled dropped s p = eq_table s p
settled stale s p = eq_table s p

-- Two good tables, the shown one's live ids all differ, a current slot below n, and nothing pending unless following.
abbrev pub good_reader : Panel → Reader → Bool
good_reader p r = good_table p r.shown && good_table p r.pending && ids_differ r.shown && ltb r.current p.slots && settled r.mode r.shown r.pending

-- A well-formed reader's state, its setup's ranges included.
unfoldable pub reader_good : Layout → ReaderState → Bool
reader_good l s = setup_good l s.setup && good_reader (panel_of l s.setup) s.reader

-- ---- fresh

-- Every record unused.
abbrev pub fresh_table : Panel → Table
fresh_table p = replicate p.records (unused_slot p.fields)

-- Current slot 0 and counter 0.
abbrev pub fresh_writer : Panel → Writer
fresh_writer p = record { table = fresh_table p; current = 0; counter = 0 }

-- Current slot 0, following, nothing pending.
abbrev pub fresh_reader : Panel → Reader
fresh_reader p = settled_at (fresh_table p) 0 following

-- ---- the place of a state that is not made: zeros, and mode following

-- No slots, and 0 for every largest value.
abbrev pub zero_setup : Layout → Setup
zero_setup l = record { slots = 0; largest = map (λ a. 0) l.axes }

-- Every number of every record is 0, the ids too.
abbrev pub zero_table : Layout → Table
zero_table l = replicate l.records (pos 0 ∷ map (λ a. pos 0) l.axes)

-- The writer's place.
abbrev pub zero_writer : Layout → WriterState
zero_writer l = record { setup = zero_setup l; writer = record { table = zero_table l; current = 0; counter = 0 } }

-- The reader's place.
abbrev pub zero_reader : Layout → ReaderState
zero_reader l = record { setup = zero_setup l; reader = settled_at (zero_table l) 0 following }
