-- The reader as a machine: what an act does in each mode, a run, and what it tells: five counts and the first event skipped. It knows no code. Assumes nothing.
use Rattle.std.specs.Prelude.{Bool, true, false, cond, List, [], ◌∷◌, map, ℕ, zero, suc, ◌+◌, set}
use Rattle.model.specs.Panel.{Panel}
use Rattle.model.specs.Table.{Slot, Table, ids_differ}
use Rattle.model.specs.Events.{Event, Act, skip, bad, report, loss, slot, number, classify, Unknown, of_type, of_code}

-- ---- the machine

-- Whether the reader knows the table: following; dropped until a report; stale until a load.
pub data Mode : Type 0 where
  following dropped stale : Mode

-- The reader lost track of the table: dropped or stale.
abbrev pub Lost : Mode → Type 0
Lost following = ⊥
Lost dropped = Unit {0}
Lost stale = Unit {0}

-- The shown and the pending table, the current slot and the mode.
pub record Reader : Type 0 where
  pub shown : Table
  pub pending : Table
  pub current : ℕ
  pub mode : Mode

-- A reader that follows.
abbrev pub follow : Table → Table → ℕ → Reader
follow s p c = record { shown = s; pending = p; current = c; mode = following }

-- A reader with nothing pending.
abbrev pub settled_at : Table → ℕ → Mode → Reader
settled_at t c m = record { shown = t; pending = t; current = c; mode = m }

-- Going stale or dropped throws the pending changes away; the current slot stays.
abbrev pub lose : Mode → Reader → Reader
lose m r = settled_at r.shown r.current m

-- The table with slot c changed by f; there is no slot past the end.
abbrev pub on_slot : Table → ℕ → (Slot → Slot) → Table
on_slot [] c f = []
on_slot (s ∷ t) zero f = f s ∷ t
on_slot (s ∷ t) (suc c) f = s ∷ on_slot t c f

-- Another pending table and current slot; what is shown and the mode stay.
abbrev pub pend : Reader → Table → ℕ → Reader
pend r p c = record { shown = r.shown; pending = p; current = c; mode = r.mode }

-- A report found while following, by whether the pending live ids differ: the pending table is shown, or the reader goes stale.
abbrev pub reported : Bool → Reader → Reader
reported true r = follow r.pending r.pending r.current
reported false r = lose stale r

-- An act found while following.
abbrev pub step_following : Reader → Act → Reader
step_following r (skip w t c) = r
step_following r bad = lose dropped r
step_following r report = reported (ids_differ r.pending) r
step_following r loss = lose dropped r
step_following r (slot k) = pend r r.pending k
step_following r (number i v) = pend r (on_slot r.pending r.current (λ s. set s i v)) r.current

-- An act found while dropped: all is ignored until the report, which makes it stale.
abbrev pub step_dropped : Reader → Act → Reader
step_dropped r (skip w t c) = r
step_dropped r bad = r
step_dropped r report = lose stale r
step_dropped r loss = r
step_dropped r (slot k) = r
step_dropped r (number i v) = r

-- An act found while stale: all is ignored, except that a loss makes it dropped.
abbrev pub step_stale : Reader → Act → Reader
step_stale r (skip w t c) = r
step_stale r bad = r
step_stale r report = r
step_stale r loss = lose dropped r
step_stale r (slot k) = r
step_stale r (number i v) = r

-- An act, by the mode that it finds.
abbrev pub step_in : Mode → Reader → Act → Reader
step_in following r a = step_following r a
step_in dropped r a = step_dropped r a
step_in stale r a = step_stale r a

-- What an act makes of a reader.
abbrev pub step : Reader → Act → Reader
step r a = step_in r.mode r a

-- One act after the other.
abbrev pub steps : Reader → List Act → Reader
steps r [] = r
steps r (a ∷ xs) = steps (step r a) xs

-- The reader after events.
abbrev pub read : Panel → Reader → List Event → Reader
read p r es = steps r (map (classify p) es)

-- ---- what a run tells

-- The first event that was skipped, by its type and code, or none.
pub data Skipped : Type 0 where
  none : Skipped
  event : ℕ → ℕ → Skipped

-- The earlier of two, one after the other.
abbrev pub earlier : Skipped → Skipped → Skipped
earlier none b = b
earlier (event t c) b = event t c

-- Five counts: tables shown, skipped while following for an unknown type and for an unknown code, bad, and ignored; and the first event skipped.
pub record Counts : Type 0 where
  pub shown : ℕ
  pub types : ℕ
  pub codes : ℕ
  pub bad : ℕ
  pub ignored : ℕ
  pub first : Skipped

-- Nothing counted.
abbrev pub nothing : Counts
nothing = record { shown = 0; types = 0; codes = 0; bad = 0; ignored = 0; first = none }

-- One table shown.
abbrev pub one_shown : Counts
one_shown = record { shown = 1; types = 0; codes = 0; bad = 0; ignored = 0; first = none }

-- One event skipped, of this type and code.
abbrev pub one_skipped : Unknown → ℕ → ℕ → Counts
one_skipped of_type t c = record { shown = 0; types = 1; codes = 0; bad = 0; ignored = 0; first = event t c }
one_skipped of_code t c = record { shown = 0; types = 0; codes = 1; bad = 0; ignored = 0; first = event t c }

-- One bad value, or one report with repeated ids.
abbrev pub one_bad : Counts
one_bad = record { shown = 0; types = 0; codes = 0; bad = 1; ignored = 0; first = none }

-- So many ignored, and nothing else.
abbrev pub ignoring : ℕ → Counts
ignoring n = record { shown = 0; types = 0; codes = 0; bad = 0; ignored = n; first = none }

-- Two counts added up, the first one's first.
abbrev pub plus : Counts → Counts → Counts
plus a b = record {
  shown = a.shown + b.shown;
  types = a.types + b.types;
  codes = a.codes + b.codes;
  bad = a.bad + b.bad;
  ignored = a.ignored + b.ignored;
  first = earlier a.first b.first;
}

-- What an act found while following adds: an empty report counts as shown, repeated ids as one bad, a loss as nothing.
abbrev pub count_following : Reader → Act → Counts
count_following r (skip w t c) = one_skipped w t c
count_following r bad = one_bad
count_following r report = cond (ids_differ r.pending) one_shown one_bad
count_following r loss = nothing
count_following r (slot k) = nothing
count_following r (number i v) = nothing

-- What an act adds: every one that finds the mode not following is ignored, also one that changes the mode.
abbrev pub count_in : Mode → Reader → Act → Counts
count_in following r a = count_following r a
count_in dropped r a = ignoring 1
count_in stale r a = ignoring 1

-- The counts of a run of acts.
abbrev pub count_all : Reader → List Act → Counts
count_all r [] = nothing
count_all r (a ∷ xs) = plus (count_in r.mode r a) (count_all (step r a) xs)

-- A run's end: the reader after it, and its counts.
pub record Run : Type 0 where
  pub reader : Reader
  pub counts : Counts

-- A run over events.
unfoldable pub run : Panel → Reader → List Event → Run
run p r es = record { reader = read p r es; counts = count_all r (map (classify p) es) }
