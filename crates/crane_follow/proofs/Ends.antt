-- The ends of the cranes' loop, as the code answers them: a turn in which track is lost, and the last record. Cited by the proof of `follow` and by the cranes' reader. Assumes nothing.
use mathlib.Core.Path.{◌≡◌, refl, sym, ap, ◌∙◌}
use mathlib.Core.List.{List}
use Prim.Native.Nat.{ℕ, ◌+◌, ◌-◌, ◌*◌, ◌≤◌}
use native.Mathlib.Omega.{arith}
use lib.ListN.{length}
use Rattle.model.specs.Panel.{Panel}
use Rattle.model.specs.Events as E
use Rattle.model.specs.Records.{events_from}
use Rattle.model.specs.Reader as R
use Rattle.model.specs.Reader.{Lost, settled_at}
use Rattle.model.proofs.Counts.{earlier-none}
use Rattle.crane_panel.specs.Seen.{slot_of, table_of, panel_seen, blank}
use Rattle.crane_panel.specs.declared.Slot.{Slot}
use Rattle.crane_panel.specs.declared.Setup.{Setup}
use Rattle.crane_panel.proofs.Back.{table_back}
use Rattle.common.specs.declared.Mode.TheVariants.{Following}
use Rattle.common.specs.declared.SlotNumber.{SlotNumber}
use Rattle.common.specs.declared.Counts.{Counts}
use Rattle.common.specs.Seen.{counts_from}
use Rattle.common.specs.Runs.{onward, counted}
use Rattle.common.proofs.Runs.{onward_end, lost_onward}
use Rattle.common.proofs.Turns.{Place, before, so, from, Goes}
use Rattle.crane_follow.specs.Seen.{reader_of}
use Rattle.crane_follow.specs.declared.Ended.{Ended}
use Rattle.crane_follow.specs.Runs.{ended_from, lost_at}

-- A run that lost track, as the code answers it and as the model goes on.
pub lost_ended : (p : Panel) (sh : List Slot) (c : ℕ) (m : R.Mode) (a : R.Counts) (es : List E.Event) → Lost m → a.ignored ≡ 0
    → lost_at sh (record { 0 = c }) m a es ≡ ended_from (onward p (settled_at (table_of sh) c m) a es)
lost_ended p sh c m a es l z =
    let p1 : a.shown + 0 ≡ a.shown = omega arith in
    let p2 : a.types + 0 ≡ a.types = omega arith in
    let p3 : a.codes + 0 ≡ a.codes = omega arith in
    let p4 : a.bad + 0 ≡ a.bad = omega arith in
    let p5 : a.ignored + length es ≡ length es = omega arith in
    sym (ap ended_from (lost_onward p (table_of sh) c m a es l) ∙ rw (table_back sh, p1, p2, p3, p4, p5, earlier-none a.first))

-- The run's end, where track is lost in this turn.
pub loses : (w : Place slot_of blank) (m : R.Mode) (bad : ℕ) → Lost m
    → Goes w (settled_at (table_of w.shown) w.current m) (counted w.frames w.types w.codes bad w.first)
    → lost_at w.shown (record { 0 = w.current }) m (counted w.frames w.types w.codes bad w.first) (from w (w.k + 1))
    ≡ ended_from (onward w.panel (before w) (so w) (from w w.k))
loses w m bad l g =
    let a = counted w.frames w.types w.codes bad w.first in
    lost_ended w.panel w.shown w.current m a (from w (w.k + 1)) l refl ∙ ap ended_from (sym g)

-- the loop's end
abbrev pub kept_at : List Slot → List Slot → SlotNumber → Counts → Ended
kept_at s p c a = record { shown = s; pending = p; current = c; mode = Following; counts = a }

pub ends : (u : Setup) (s : List ℕ) (n k : ℕ) (sh pe : List Slot) (c : ℕ) (a : R.Counts) → n ≤ k
    → kept_at sh pe (record { 0 = c }) (counts_from a) ≡ ended_from (onward (panel_seen u) (reader_of sh pe c R.following) a (events_from (n - k) s (8 * k)))
ends u s n k sh pe c a h = sym (ap ended_from (onward_end (panel_seen u) (reader_of sh pe c R.following) a s n k h) ∙ rw (table_back sh, table_back pe))
