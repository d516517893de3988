-- How a run ends: the contracts of the loops. Assumes nothing.
use Rattle.std.specs.Prelude.{List, ℕ, ◌+◌, ◌-◌, ◌*◌, ◌/◌, ◌<◌, ◌^◌, length}
use Rattle.model.specs.Events.{Event}
use Rattle.model.specs.Records.{events_from}
use Rattle.model.specs.Reader.{Mode, Counts, Run}
use Rattle.common.specs.declared.SlotNumber.{SlotNumber}
use Rattle.common.specs.Seen.{mode_from, skipped_from, counts_from}
use Rattle.common.specs.Lost.{last_mode}
use Rattle.common.specs.Runs.{counted, first_at, FirstWithin}
use Rattle.panel.specs.Seen.{table_from}
use Rattle.panel.specs.declared.Slot.{Slot}
use Rattle.follow.specs.declared.Ended.{Ended}
use Rattle.follow.specs.declared.SoFar.{SoFar}

-- A run's end as the code answers it.
abbrev pub ended_from : Run → Ended
ended_from e = record {
  shown = table_from e.reader.shown;
  pending = table_from e.reader.pending;
  current = record { 0 = e.reader.current };
  mode = mode_from e.reader.mode;
  counts = counts_from e.counts;
}

-- The end of a run that lost track with events left: nothing is pending, only the mode goes on, and each event is ignored.
abbrev pub lost_at : List Slot → SlotNumber → Mode → Counts → List Event → Ended
lost_at t c m a es = record {
  shown = t;
  pending = t;
  current = c;
  mode = mode_from (last_mode m es);
  counts = record { shown = a.shown; types = a.types; codes = a.codes; bad = a.bad; ignored = length es; first = skipped_from a.first };
}

-- The events from record k on.
abbrev pub left_from : List ℕ → ℕ → List Event
left_from bs k = events_from (length bs / 8 - k) bs (8 * k)

-- What a run over these bytes has counted, and so many bad ones.
abbrev pub so_far : List ℕ → SoFar → ℕ → Counts
so_far bs so bad = counted so.frames so.types so.codes bad (first_at bs (so.types + so.codes) so.first)

-- How many it skipped is a number, and the first of them is a record of the run.
pub record Skips (so : SoFar) (len : ℕ) : Type 0 where
  pub few : so.types + so.codes < 2 ^ 64
  pub there : FirstWithin (so.types + so.codes) so.first len
