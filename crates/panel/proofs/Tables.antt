-- The tests of a table as a loop makes them: common's laws of any table, of the panel's. Cited by the proofs of the loops here and in the writer's crates. Assumes nothing.
use mathlib.Core.Path.{◌≡◌, refl, sym, ap, ◌∙◌}
use native.Mathlib.Omega.{arith}
use mathlib.Core.Bool.{Bool, true, not, ◌&&◌}
use mathlib.Core.List.{List, [], ◌∷◌}
use Prim.Native.Nat.{ℕ, ◌+◌, ◌-◌, ◌≤◌, ◌<◌}
use native.Mathlib.Numerals.{add-one}
use lib.Dec.{T}
use lib.IntN.{ℤ}
use lib.ListN.{take, drop, get_or, get_or-replicate, length, length-replicate, drop_of_length-le}
use lib.Seq.{drop-cons}
use Rattle.model.specs.Numbers.{eq_z}
use Rattle.model.specs.Panel.{Field, records}
use Rattle.model.specs.Table.{Table, unheld, eq_slot, eq_table, good_slot, good_records, good_table}
use Rattle.common.proofs.Tables as Any
pub use Rattle.common.proofs.Tables.{unmapped}
use Rattle.panel.specs.declared.Slot as S
use Rattle.panel.specs.declared.Setup.{Setup}
use Rattle.panel.specs.Seen.{slot_of, table_of, fields_of, panel_seen, blank, unused, unused_all, SameFrom}

-- ---- a list of ids, from one of them on

module _ (l : List ℤ) (j : ℕ) (d : ℤ) where
  pub unheld-step : (v : ℤ) → j < length l → unheld v (drop j l) ≡ (not (eq_z v (get_or l j d)) && unheld v (drop (j + 1) l))
  unheld-step v h = rw (add-one, drop-cons l j d)

  pub unheld_end : (v : ℤ) → length l ≤ j → unheld v (drop j l) ≡ true
  unheld_end v h = rw (drop_of_length-le l h)

-- ---- a table that the code holds, from slot i on

pub rest-is : (t : List S.Slot) (i : ℕ) → i < length t → table_of (drop i t) ≡ slot_of (get_or t i blank) ∷ table_of (drop (i + 1) t)
rest-is = Any.rest-is slot_of blank

pub rest-none : (t : List S.Slot) (i : ℕ) → length t ≤ i → table_of (drop i t) ≡ []
rest-none = Any.rest-none slot_of

-- From slot i on among the first n.
abbrev front : List S.Slot → ℕ → ℕ → Table
front t n i = table_of (drop i (take n t))

module _ (t : List S.Slot) (n : ℕ) (h : n ≤ length t) where
  module _ (i : ℕ) (k : i < n) where
    pub slots-turn : (fs : List Field)
        → good_records fs (n - i) (front t n i) ≡ (good_slot fs (slot_of (get_or t i blank)) && good_records fs (n - (i + 1)) (front t n (i + 1)))
    slots-turn = Any.slots-turn slot_of blank t n h i k

  pub slots-over : (i : ℕ) → i ≡ n → (fs : List Field) → good_records fs (n - i) (front t n i) ≡ true
  slots-over = Any.slots-over slot_of t n

module _ (a b : List S.Slot) where
  -- The two are equal from slot i on.
  abbrev from : ℕ → Bool
  from i = eq_table (table_of (drop i a)) (table_of (drop i b))

  module _ (i : ℕ) where
    pub same_turn : i < length a → i < length b → from i ≡ (eq_slot (slot_of (get_or a i blank)) (slot_of (get_or b i blank)) && from (i + 1))
    same_turn = Any.same_turn slot_of blank a b i

    pub same_over : SameFrom i a b → from i ≡ true
    same_over = Any.same_over slot_of a b i

-- ---- the records that were never used

-- Whether those from i on were not.
abbrev pub rest_good : List S.Slot → ℕ → Bool
rest_good t i = from t unused_all i

module _ (t : List S.Slot) (full : length t ≡ records) (i : ℕ) where
  -- What the test of one says of it and of those after it.
  pub rest-turn : i < records → rest_good t i ≡ (eq_slot (slot_of (get_or t i blank)) (slot_of unused) && rest_good t (i + 1))
  rest-turn = Any.rest-turn slot_of blank t records unused full i

  pub rest-over : records ≤ i → rest_good t i ≡ true
  rest-over = Any.rest-over slot_of t records unused full i

-- ---- a whole table

module _ (u : Setup) (t : List S.Slot) where
  module _ (e : length t ≡ records) where
    pub good_parts : good_records (fields_of u) u.n (table_of t) ≡ (good_records (fields_of u) u.n (table_of (take u.n t)) && from t unused_all u.n)
    good_parts = Any.good_parts slot_of (panel_seen u) unused refl t e

    pub good-rest : good_records (fields_of u) u.n (table_of t) ≡ true → SameFrom u.n t unused_all
    good-rest = Any.good-rest slot_of (panel_seen u) unused refl t e

    pub table-good : good_table (panel_seen u) (table_of t) ≡ good_records (fields_of u) u.n (table_of t)
    table-good = Any.table-good slot_of (panel_seen u) t e

  pub table-rest : T (good_table (panel_seen u) (table_of t)) → SameFrom u.n t unused_all
  table-rest = Any.table-rest slot_of (panel_seen u) unused refl t

pub slot_at : (t : List S.Slot) (k : ℕ) → k < length t → get_or (table_of t) k [] ≡ slot_of (get_or t k blank)
slot_at = Any.slot_at slot_of blank

-- What one turn of a loop over a table shows, and its end: cited by name at the loops of `src`.
pub ruleset turns = (slots-turn, rest-turn, same_over)
