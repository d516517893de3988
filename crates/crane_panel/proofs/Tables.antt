-- The tests of a crane's table as a loop makes them: common's laws of any table, of the cranes'. Cited by the proofs of the loops here. Assumes nothing.
use mathlib.Core.Path.{◌≡◌, refl}
use mathlib.Core.Bool.{true, ◌&&◌}
use mathlib.Core.List.{List}
use Prim.Native.Nat.{ℕ, ◌+◌, ◌-◌, ◌≤◌, ◌<◌}
use lib.ListN.{take, drop, get_or, length}
use Rattle.model.specs.Panel.{Field, crane_records}
use Rattle.model.specs.Table.{eq_slot, eq_table, good_slot, good_records}
use Rattle.common.proofs.Tables as Any
use Rattle.crane_panel.specs.declared.Slot.{Slot}
use Rattle.crane_panel.specs.declared.Setup.{Setup}
use Rattle.crane_panel.specs.Seen.{slot_of, table_of, fields_of, panel_seen, blank, unused, unused_all, SameFrom}

pub slots-turn : (t : List Slot) (n : ℕ) → n ≤ length t → (i : ℕ) → i < n → (fs : List Field)
    → good_records fs (n - i) (table_of (drop i (take n t))) ≡ (good_slot fs (slot_of (get_or t i blank)) && good_records fs (n - (i + 1)) (table_of (drop (i + 1) (take n t))))
slots-turn = Any.slots-turn slot_of blank

pub rest-turn : (t : List Slot) → length t ≡ crane_records → (i : ℕ) → i < crane_records
    → eq_table (table_of (drop i t)) (table_of (drop i unused_all)) ≡ (eq_slot (slot_of (get_or t i blank)) (slot_of unused) && eq_table (table_of (drop (i + 1) t)) (table_of (drop (i + 1) unused_all)))
rest-turn t = Any.rest-turn slot_of blank t crane_records unused

pub same_over : (a b : List Slot) (i : ℕ) → SameFrom i a b → eq_table (table_of (drop i a)) (table_of (drop i b)) ≡ true
same_over = Any.same_over slot_of

-- What one turn of a loop over a table shows, and its end: cited by name at the loops of `src`.
pub ruleset turns = (slots-turn, rest-turn, same_over)

pub good_parts : (u : Setup) (t : List Slot) → length t ≡ crane_records
    → good_records (fields_of u) u.n (table_of t) ≡ (good_records (fields_of u) u.n (table_of (take u.n t)) && eq_table (table_of (drop u.n t)) (table_of (drop u.n unused_all)))
good_parts u t = Any.good_parts slot_of (panel_seen u) unused refl t
