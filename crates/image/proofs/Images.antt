-- An image's rows one by one, and the table as it is filled: common's laws of any image, of the panel's. Cited by the proofs here. Assumes nothing.
use mathlib.Core.Path.{◌≡◌, refl}
use mathlib.Core.Bool.{true, false, ◌&&◌}
use mathlib.Core.List.{List}
use Prim.Native.Nat.{ℕ, ◌+◌, ◌-◌, ◌*◌, ◌≤◌, ◌<◌}
use lib.IntN.{ℤ}
use lib.ListN.{length, set}
use Rattle.model.specs.Panel.{Field, per_slot, records}
use Rattle.model.specs.Table as T
use Rattle.model.specs.Frame.{numbers_from, rows_from}
use Rattle.model.specs.Calls.{image_table, image_good}
use Rattle.common.proofs.Images as Any
use Rattle.panel.specs.Seen.{slot_of, table_of, slot_from, table_from, fields_of, panel_seen, unused, unused_all, SameFrom}
use Rattle.panel.specs.declared.Slot.{Slot}
use Rattle.panel.specs.declared.Setup.{Setup}

-- ---- the rows

pub good-next : (fs : List Field) (l : List ℤ) (n i : ℕ) → i < n
    → T.good_records fs (n - i) (rows_from per_slot (n - i) l (per_slot * i)) ≡ (T.good_slot fs (numbers_from per_slot l (per_slot * i)) && T.good_records fs (n - (i + 1)) (rows_from per_slot (n - (i + 1)) l (per_slot * (i + 1))))
good-next = Any.good-next per_slot

pub good_end : (fs : List Field) (l : List ℤ) (n i : ℕ) → n ≤ i → T.good_records fs (n - i) (rows_from per_slot (n - i) l (per_slot * i)) ≡ true
good_end = Any.good_end per_slot

-- ---- the table as it is filled

-- i slots filled
abbrev pub filled : List ℤ → ℕ → List Slot
filled l i = Any.filled slot_from unused per_slot records l i

pub filled_start : (l : List ℤ) → unused_all ≡ filled l 0
filled_start = Any.filled_start slot_from unused per_slot records

pub filled_next : (l : List ℤ) (i : ℕ) → i < records → set (filled l i) i (slot_from (numbers_from per_slot l (per_slot * i))) ≡ filled l (i + 1)
filled_next = Any.filled_next slot_from unused per_slot records

module _ (u : Setup) (l : List ℤ) where
  pub filled_end : filled l u.n ≡ table_from (image_table (panel_seen u) l)
  filled_end = Any.filled_end slot_from (panel_seen u) l

  -- Past the image's slots it was never used.
  pub filled_rest : u.n ≤ records → SameFrom u.n (table_from (image_table (panel_seen u) l)) unused_all
  filled_rest = Any.filled_rest slot_from (panel_seen u) l slot_of

  -- ---- the image's tests

  -- An image of another length is not good.
  pub other_length : (c : ℕ) → (length l ≡ per_slot * u.n → ⊥) → image_good (panel_seen u) l c ≡ false
  other_length = Any.other_length (panel_seen u) l

  -- Good rows make a good table.
  pub image-records : u.n ≤ records → T.good_table (panel_seen u) (image_table (panel_seen u) l) ≡ T.good_records (fields_of u) u.n (rows_from per_slot u.n l 0)
  image-records = Any.image-records (panel_seen u) l

-- The table that the code makes has the image's ids.
pub ids-held : (t : T.Table) → T.ids_differ (table_of (table_from t)) ≡ T.ids_differ t
ids-held = Any.ids-held slot_of slot_from (λ s. refl)

-- What a turn of each loop shows, and its end: cited by name at the loops of `src`.
pub ruleset turns = (good-next, good_end)

pub ruleset fills = (filled_start, filled_next, filled_end)

pub ruleset tests = (filled_rest, other_length, image-records, ids-held)
