-- A reader with the first numbers of a longer one's slots and perhaps fewer records, as the cranes' is to the product's (K1): what it has of the
-- longer one's tables, and what it counts. Assumes nothing.
use Rattle.std.specs.Prelude.{◌≡◌, Bool, false, not, ◌&&◌, List, [], ◌∷◌, map, ℕ, suc, ◌≤◌, eqb, length, take, drop}
use Rattle.model.specs.Panel.{Layout, Setup, Panel, unlisted, axis_codes, crane}
use Rattle.model.specs.Table.{Table}
use Rattle.model.specs.Events.{Event}
use Rattle.model.specs.Reader.{Reader, Counts}
use Rattle.model.specs.Loss.{is_report}
use Rattle.model.specs.Skips.{skipped_by}
use Rattle.model.specs.States.{WriterState, ReaderState}
use Rattle.model.specs.Calls.{accepted, Ran}
use Rattle.model.specs.Bench.{pupil}
use Rattle.model.specs.Shift.{how_many, first_of}

-- ---- what is left of a longer one

-- The first k numbers of the first m records.
abbrev pub cut_table : ℕ → ℕ → Table → Table
cut_table k m t = map (take k) (take m t)

-- So much of both tables; the current slot and the mode stay.
abbrev pub cut_reader : ℕ → ℕ → Reader → Reader
cut_reader k m r = record { shown = cut_table k m r.shown; pending = cut_table k m r.pending; current = r.current; mode = r.mode }

-- The first k fields, and m records.
abbrev pub cut_panel : ℕ → ℕ → Panel → Panel
cut_panel k m p = record { slots = p.slots; records = m; fields = take k p.fields }

-- How many numbers a slot of a layout has: its id and one for each axis.
abbrev pub field_count : Layout → ℕ
field_count l = suc (length l.axes)

-- A short layout s and its setup v beside a long layout l and its setup u: the first axes, no more records, the same slots, which the records
-- hold, and the first largest values.
pub record Shorter (l s : Layout) (u v : Setup) : Type 0 where
  pub axes : s.axes ≡ take (length s.axes) l.axes
  pub records : s.records ≤ l.records
  pub slots : v.slots ≡ u.slots
  pub held : v.slots ≤ s.records
  pub largest : v.largest ≡ take (length s.axes) u.largest

-- The setup of a crane's reader beside the product's: n, and the largest x, y and pressure.
abbrev pub crane_setup : Setup → Setup
crane_setup u = record { slots = u.slots; largest = take (length crane.axes) u.largest }

-- The short reader of a long writer: it follows, shows what is left of the writer's table, has its current slot, and nothing is pending.
abbrev pub short_pupil : Layout → Setup → WriterState → ReaderState
short_pupil s v w = record { setup = v; reader = cut_reader (field_count s) s.records (pupil w).reader }

-- ---- what it counts

-- The codes of the axes that the long layout l has and the short one s has not.
abbrev pub later_codes : Layout → Layout → List ℕ
later_codes l s = drop (length s.axes) (axis_codes l.axes)

-- An event of type 3 with one of these codes.
abbrev pub has_code : List ℕ → Event → Bool
has_code codes e = eqb e.type 3 && not (unlisted e.code codes)

-- A table shown for each SYN_REPORT, the events of these codes skipped, the first of them, and nothing else.
abbrev pub short_counts : List ℕ → List Event → Counts
short_counts codes es = record {
  shown = how_many is_report es;
  types = 0;
  codes = how_many (has_code codes) es;
  bad = 0;
  ignored = 0;
  first = first_of (has_code codes) es;
}

-- What a run over these events answers that leaves the short reader of layout s and setup v as that of a writer w of layout l.
abbrev pub short_ran : Layout → Layout → Setup → WriterState → List Event → Ran
short_ran l s v w es = record { verdict = accepted; state = short_pupil s v w; counts = short_counts (later_codes l s) es }

-- The panel skips none of the events.
abbrev pub AllListed : Panel → List Event → Type 0
AllListed p [] = Unit {0}
AllListed p (e ∷ es) = (skipped_by p e ≡ false) × AllListed p es
