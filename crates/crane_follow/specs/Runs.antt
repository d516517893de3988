-- How a crane's run ends: the contracts of the loops. Assumes nothing.
use Rattle.std.specs.Prelude.{List, length}
use Rattle.model.specs.Events.{Event}
use Rattle.model.specs.Reader.{Mode, Counts, Run}
use Rattle.common.specs.declared.SlotNumber.{SlotNumber}
use Rattle.common.specs.Seen.{mode_from, skipped_from, counts_from}
use Rattle.common.specs.Lost.{last_mode}
use Rattle.crane_panel.specs.Seen.{table_from}
use Rattle.crane_panel.specs.declared.Slot.{Slot}
use Rattle.crane_follow.specs.declared.Ended.{Ended}

-- A run's end as the code answers it.
abbrev pub ended_from : Run → Ended
ended_from e = record {
  shown = table_from e.reader.shown;
  pending = table_from e.reader.pending;
  current = record { 0 = e.reader.current };
  mode = mode_from e.reader.mode;
  counts = counts_from e.counts;
}

-- The end of a run that lost track with events left: nothing is pending, only the mode goes on, and each event is ignored.
abbrev pub lost_at : List Slot → SlotNumber → Mode → Counts → List Event → Ended
lost_at t c m a es = record {
  shown = t;
  pending = t;
  current = c;
  mode = mode_from (last_mode m es);
  counts = record { shown = a.shown; types = a.types; codes = a.codes; bad = a.bad; ignored = length es; first = skipped_from a.first };
}
