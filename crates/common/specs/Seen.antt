-- The code's numbers, verdicts, modes and counts as the model's, and back. The calls' contracts go through it. Assumes nothing.
use Rattle.std.specs.Prelude.{ℕ, ℤ, pos, negsuc, Option, Some, None}
use Rattle.model.specs.Reader as R
use Rattle.model.specs.Calls as C
use Rattle.common.specs.declared.Verdict.{Verdict}
use Rattle.common.specs.declared.Verdict.TheVariants as W
use Rattle.common.specs.declared.Mode.{Mode}
use Rattle.common.specs.declared.Mode.TheVariants.{Following, Dropped, Stale}
use Rattle.common.specs.declared.Counts.{Counts}

-- ---- numbers

-- A number that is not negative; 0 for any other.
abbrev pub natural : ℤ → ℕ
natural (pos n) = n
natural (negsuc n) = 0

-- ---- verdicts

-- A verdict's name.
abbrev pub verdict_of : Verdict → C.Verdict
verdict_of W.Accepted = C.accepted
verdict_of W.Setup = C.setup
verdict_of W.State = C.state
verdict_of W.Frame = C.frame
verdict_of W.Value = C.value
verdict_of W.NoRoom = C.no_room
verdict_of W.Ragged = C.ragged
verdict_of W.NotStale = C.not_stale
verdict_of W.Image = C.image
verdict_of W.TooMany = C.too_many
verdict_of W.Unfinished = C.unfinished
verdict_of W.Command = C.command

-- The verdict of such a name.
abbrev pub verdict_from : C.Verdict → Verdict
verdict_from C.accepted = W.Accepted
verdict_from C.setup = W.Setup
verdict_from C.state = W.State
verdict_from C.frame = W.Frame
verdict_from C.value = W.Value
verdict_from C.no_room = W.NoRoom
verdict_from C.ragged = W.Ragged
verdict_from C.not_stale = W.NotStale
verdict_from C.image = W.Image
verdict_from C.too_many = W.TooMany
verdict_from C.unfinished = W.Unfinished
verdict_from C.command = W.Command

-- Document 01's number of a verdict, 11 of document 02's K13; 0 for accepted.
abbrev pub verdict_number : Verdict → ℕ
verdict_number v = C.verdict_number (verdict_of v)

-- ---- modes and counts

-- A mode.
abbrev pub mode_of : Mode → R.Mode
mode_of Following = R.following
mode_of Dropped = R.dropped
mode_of Stale = R.stale

-- And back.
abbrev pub mode_from : R.Mode → Mode
mode_from R.following = Following
mode_from R.dropped = Dropped
mode_from R.stale = Stale

-- The first event skipped, by its type and code.
abbrev pub skipped_of : Option (ℕ × ℕ) → R.Skipped
skipped_of None = R.none
skipped_of (Some e) = R.event e.0 e.1

-- And back.
abbrev pub skipped_from : R.Skipped → Option (ℕ × ℕ)
skipped_from R.none = None
skipped_from (R.event t c) = Some (t, c)

-- The five counts and the first event skipped.
abbrev pub counts_of : Counts → R.Counts
counts_of c = record { shown = c.shown; types = c.types; codes = c.codes; bad = c.bad; ignored = c.ignored; first = skipped_of c.first }

-- And back.
abbrev pub counts_from : R.Counts → Counts
counts_from c = record { shown = c.shown; types = c.types; codes = c.codes; bad = c.bad; ignored = c.ignored; first = skipped_from c.first }
