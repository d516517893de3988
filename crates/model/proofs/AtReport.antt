-- The shown table stays but at a report, and a report that finds a following reader with differing ids shows what was pending. Assumes nothing.
use mathlib.Core.Path.{◌≡◌, refl, ap, ◌∙◌}
use mathlib.Core.Bool.{true}
use Rattle.model.specs.Table.{ids_differ}
use Rattle.model.specs.Events.{Act, skip, bad, report, loss, slot, number}
use Rattle.model.specs.Reader.{Mode, following, dropped, stale, Reader, reported, step_in, step}

-- Anything but a report.
abbrev pub NoReport : Act → Type 0
NoReport (skip w t c) = Unit {0}
NoReport bad = Unit {0}
NoReport report = ⊥
NoReport loss = Unit {0}
NoReport (slot k) = Unit {0}
NoReport (number i v) = Unit {0}

still-shown : (m : Mode) (r : Reader) (x : Act) → NoReport x → (step_in m r x).shown ≡ r.shown
still-shown following r (skip w t c) n = refl
still-shown following r bad n = refl
still-shown following r report n = absurd n
still-shown following r loss n = refl
still-shown following r (slot k) n = refl
still-shown following r (number i v) n = refl
still-shown dropped r (skip w t c) n = refl
still-shown dropped r bad n = refl
still-shown dropped r report n = absurd n
still-shown dropped r loss n = refl
still-shown dropped r (slot k) n = refl
still-shown dropped r (number i v) n = refl
still-shown stale r (skip w t c) n = refl
still-shown stale r bad n = refl
still-shown stale r report n = absurd n
still-shown stale r loss n = refl
still-shown stale r (slot k) n = refl
still-shown stale r (number i v) n = refl

-- In every mode the shown table stays until a report.
pub shown_by_report : (r : Reader) (x : Act) → NoReport x → (step r x).shown ≡ r.shown
shown_by_report r x n = still-shown r.mode r x n

-- A report that finds the reader following shows what is pending, if its live ids all differ.
pub report-shows : (r : Reader) → r.mode ≡ following → ids_differ r.pending ≡ true → (step r report).shown ≡ r.pending
report-shows r m d = ap (λ q. (step_in q r report).shown) m ∙ ap (λ b. (reported b r).shown) d
