-- What the writer asks of ranks and tables, and what it is answered. Assumes nothing.
use Rattle.std.specs.Prelude.{◌≡◌, Bool, true, false, cond, List, ℕ, ◌≤◌, ◌<◌, T, ltb, ℤ, pos, length, drop, get_or, replicate}
use Rattle.model.specs.Numbers.{minus_one}
use Rattle.model.specs.Panel.{records}
use Rattle.model.specs.Table.{ids}
use Rattle.model.specs.Ranks.{good_ranks, ranks_after}
use Rattle.model.specs.Sending.{changed_mask, bit_of}
use Rattle.model.specs.Pointer as P
use Rattle.model.specs.Pointer.{touch_of, tool_of, still, oldest_slot, pointed}
use Rattle.panel.specs.declared.Slot.{Slot}
use Rattle.panel.specs.Seen.{table_of, unused_all, SameFrom}
use Rattle.pointer.specs.declared.Pointer.{Pointer}
use Rattle.pointer.specs.declared.Moved.{Moved}
use Rattle.pointer.specs.Seen.{pointer_of, fates_by}

-- A table whose records past the first n were never used.
pub record Unused (n : ℕ) (t : List Slot) : Type 0 where
  pub few : n ≤ records
  pub rest : SameFrom n t unused_all

-- Ids of which those past the first n are -1.
pub record Idle (n : ℕ) (l : List ℤ) : Type 0 where
  pub few : n ≤ records
  pub whole : length l ≡ records
  pub rest : drop n l ≡ drop n (replicate records minus_one)

-- The oldest contact's slot, 0 where none is live.
abbrev pub oldest_or0 : List ℤ → List ℕ → ℕ
oldest_or0 l rs = cond (ltb (oldest_slot l rs) records) (oldest_slot l rs) 0

-- What a display that was told q should see of m live contacts, the oldest in the slot s.
abbrev pub shown_of : ℕ → Slot → P.Pointer → P.Pointer
shown_of m s q = record { touch = touch_of m; tool = tool_of m; x = still m q.x (pos s.x); y = still m q.y (pos s.y) }

-- What it should see of the oldest contact in the slot s while the contacts are the same: X and Y alone may differ, and keep still where nothing touches.
abbrev pub placed_at : Slot → P.Pointer → P.Pointer
placed_at s q = record { touch = q.touch; tool = q.tool; x = still q.touch q.x (pos s.x); y = still q.touch q.y (pos s.y) }

-- Where a bit of m is 0 the slot's id is the same in both lists.
pub record Covers (m : ℕ) (old new : List ℤ) : Type 0 where
  pub same : (s : ℕ) → s < records → bit_of s m ≡ 0 → get_or old s (pos 0) ≡ get_or new s (pos 0)

-- The ranks after a frame, by the ids of the tables before it and after it.
abbrev pub ranks_by : List Slot → List Slot → List ℕ → List ℕ
ranks_by old new rs = ranks_after (fates_by (ids (table_of old)) (ids (table_of new))) rs

-- Ranks are good before a frame, and those after it will be; `slots` are those that it changes, and the display shows what the old table gives.
pub record Moving (n : ℕ) (old new : List Slot) (slots : ℕ) (last : Moved) : Type 0 where
  pub held : Unused n old
  pub made : Unused n new
  pub before : T (good_ranks (ids (table_of old)) last.ranks)
  pub after : T (good_ranks (ids (table_of new)) (ranks_by old new last.ranks))
  pub changed : slots ≡ changed_mask (table_of old) (table_of new)
  pub shown : pointer_of last.told ≡ pointed (table_of old) last.ranks (pointer_of last.told)

-- The answer r holds these ranks, and the numbers that they and the new table give where q was told last.
pub record MovesTo (old new : List Slot) (rs : List ℕ) (q : Pointer) (r : Moved) : Type 0 where
  pub ranks : r.ranks ≡ ranks_by old new rs
  pub told : pointer_of r.told ≡ pointed (table_of new) r.ranks (pointer_of q)

-- By the option: off, nothing is asked, and nothing moves.
abbrev pub MovingIf : Bool → ℕ → List Slot → List Slot → ℕ → Moved → Type 0
MovingIf true n old new slots last = Moving n old new slots last
MovingIf false n old new slots last = Unit {0}

abbrev pub MovesBy : Bool → List Slot → List Slot → List ℕ → Pointer → Moved → Type 0
MovesBy true old new rs q r = MovesTo old new rs q r
MovesBy false old new rs q r = r ≡ record { ranks = rs; told = q }

-- By the option: off, the display shows what it did.
abbrev pub StillIf : Bool → P.Pointer → P.Pointer → Type 0
StillIf true q z = Unit {0}
StillIf false q z = q ≡ z
