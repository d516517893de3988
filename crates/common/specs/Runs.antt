-- What is left of a run, what was counted, and the first event skipped by its record's number: what the readers' loops promise, whatever a slot holds. Assumes nothing.
use Rattle.std.specs.Prelude.{List, map, ℕ, zero, suc, ◌+◌, ◌*◌, ◌≤◌}
use Rattle.model.specs.Panel.{Panel}
use Rattle.model.specs.Events.{Event, classify}
use Rattle.model.specs.Records.{event_at}
use Rattle.model.specs.Reader.{Reader, read, Skipped, none, event, Counts, plus, count_all, Run}

-- What is left of a run, where `a` is counted already.
unfoldable pub onward : Panel → Reader → Counts → List Event → Run
onward p r a es = record { reader = read p r es; counts = plus a (count_all r (map (classify p) es)) }

-- Four counts and the first event skipped, and none ignored.
abbrev pub counted : ℕ → ℕ → ℕ → ℕ → Skipped → Counts
counted a t c d f = record { shown = a; types = t; codes = c; bad = d; ignored = 0; first = f }

-- A run that is over.
abbrev pub ending_at : Reader → Counts → Run
ending_at r a = record { reader = r; counts = a }

-- The first event skipped, by the number of its record, where so many were skipped.
abbrev pub first_at : List ℕ → ℕ → ℕ → Skipped
first_at bs zero i = none
first_at bs (suc n) i = event (event_at bs (8 * i)).type (event_at bs (8 * i)).code

-- The number of that record after record k, which is skipped too.
abbrev pub first_after : ℕ → ℕ → ℕ → ℕ
first_after zero i k = k
first_after (suc n) i k = i

-- The record is there, if any was skipped.
abbrev pub FirstWithin : ℕ → ℕ → ℕ → Type 0
FirstWithin zero i len = Unit {0}
FirstWithin (suc n) i len = 8 * i + 8 ≤ len
