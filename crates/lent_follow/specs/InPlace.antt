-- The two tables of a reader as they lie in lent bytes, and a run's end with them: the contracts of `lent_follow`. Assumes nothing.
use Rattle.std.specs.Prelude.{◌≡◌, List, ℕ, ◌<◌, get_or, set}
use Rattle.model.specs.Panel.{records}
use Rattle.panel.specs.Seen.{blank}
use Rattle.panel.specs.declared.Slot.{Slot}
use Rattle.follow.specs.declared.Ended.{Ended}
use Rattle.lent.specs.Lent.{table_size, slots_from}
use Rattle.lent_follow.specs.declared.EndedIn.{EndedIn}

-- The bytes of two tables.
abbrev pub both_size : ℕ
both_size = 1536

-- The shown table lies first.
abbrev pub shown_in : List ℕ → List Slot
shown_in t = slots_from records t 0

-- The pending table lies behind it.
abbrev pub pending_in : List ℕ → List Slot
pending_in t = slots_from records t table_size

-- Bytes that hold these two tables.
pub record Holds (s p : List Slot) (t : List ℕ) : Type 0 where
  pub shown : shown_in t ≡ s
  pub pending : pending_in t ≡ p

-- The shown table with two of its slots as they are pending.
abbrev pub two_shown : List Slot → List Slot → ℕ → ℕ → List Slot
two_shown shown pending a b = set (set shown a (get_or pending a blank)) b (get_or pending b blank)

-- With fewer than two slots opened, the slot that was current at the last report and the current one are all that the tables may differ in.
abbrev pub TwoEnough : ℕ → List Slot → List Slot → ℕ → ℕ → Type 0
TwoEnough opened shown pending from current = opened < 2 → two_shown shown pending from current ≡ pending

-- A run's end as `follow` answers it, of the answer and of the bytes that the run left.
abbrev pub with_tables : EndedIn → List ℕ → Ended
with_tables r t = record {
  shown = shown_in t;
  pending = pending_in t;
  current = r.current;
  mode = r.mode;
  counts = r.counts;
}
