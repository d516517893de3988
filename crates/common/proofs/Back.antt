-- What is seen of a verdict or a mode and held again is the same, whatever it is; and what is held is seen again. Cited by the reader, the writer and link. Assumes nothing.
use mathlib.Core.Path.{◌≡◌, refl, ap}
use Rattle.std.specs.Prelude.{ℕ, Option, Some, None}
use Rattle.model.specs.Reader as R
use Rattle.model.specs.Calls as C
use Rattle.common.specs.declared.Verdict.{Verdict}
use Rattle.common.specs.declared.Verdict.TheVariants as W
use Rattle.common.specs.declared.Mode.{Mode}
use Rattle.common.specs.declared.Mode.TheVariants.{Following, Dropped, Stale}
use Rattle.common.specs.declared.Counts.{Counts}
use Rattle.common.specs.Seen.{verdict_of, verdict_from, verdict_number, mode_of, mode_from, skipped_of, skipped_from, counts_of, counts_from}

pub verdict_back : (v : Verdict) → verdict_from (verdict_of v) ≡ v
verdict_back W.Accepted = refl
verdict_back W.Setup = refl
verdict_back W.State = refl
verdict_back W.Frame = refl
verdict_back W.Value = refl
verdict_back W.NoRoom = refl
verdict_back W.Ragged = refl
verdict_back W.NotStale = refl
verdict_back W.Image = refl
verdict_back W.TooMany = refl
verdict_back W.Unfinished = refl
verdict_back W.Command = refl

pub mode_back : (m : Mode) → mode_from (mode_of m) ≡ m
mode_back Following = refl
mode_back Dropped = refl
mode_back Stale = refl

pub skipped_back : (f : Option (ℕ × ℕ)) → skipped_from (skipped_of f) ≡ f
skipped_back None = refl
skipped_back (Some e) = refl

-- ---- held and seen again

pub verdict-seen : (v : C.Verdict) → verdict_of (verdict_from v) ≡ v
verdict-seen C.accepted = refl
verdict-seen C.setup = refl
verdict-seen C.state = refl
verdict-seen C.frame = refl
verdict-seen C.value = refl
verdict-seen C.no_room = refl
verdict-seen C.ragged = refl
verdict-seen C.not_stale = refl
verdict-seen C.image = refl
verdict-seen C.too_many = refl
verdict-seen C.unfinished = refl
verdict-seen C.command = refl

-- So the number of what is held of a verdict is document 01's.
pub number-seen : (v : C.Verdict) → verdict_number (verdict_from v) ≡ C.verdict_number v
number-seen v = ap C.verdict_number (verdict-seen v)

pub mode-seen : (m : R.Mode) → mode_of (mode_from m) ≡ m
mode-seen R.following = refl
mode-seen R.dropped = refl
mode-seen R.stale = refl

pub skipped_seen : (f : R.Skipped) → skipped_of (skipped_from f) ≡ f
skipped_seen R.none = refl
skipped_seen (R.event t c) = refl

-- What is told of a run is the same, once it is held.
pub counts-seen : (a : R.Counts) → counts_of (counts_from a) ≡ a
counts-seen a = rw (skipped_seen a.first)

-- Counts by default are those of no run.
pub none_counted : (a : Counts) → (a.shown ≡ 0) × ((a.types ≡ 0) × ((a.codes ≡ 0) × ((a.bad ≡ 0) × ((a.ignored ≡ 0) × (a.first ≡ None))))) → a ≡ counts_from R.nothing
none_counted a z = λ i. record { shown = z.0 i; types = z.1.0 i; codes = z.1.1.0 i; bad = z.1.1.1.0 i; ignored = z.1.1.1.1.0 i; first = z.1.1.1.1.1 i }
