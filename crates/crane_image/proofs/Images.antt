-- An image's rows one by one, and the table as it is filled: common's laws of any image, of the cranes'. Cited by the proofs here. Assumes nothing.
use mathlib.Core.Path.{◌≡◌, refl, sym}
use mathlib.Core.Bool.{true, false, ◌&&◌}
use mathlib.Core.List.{List, [], ◌∷◌}
use Prim.Native.Nat.{ℕ, ◌+◌, ◌-◌, ◌*◌, ◌≤◌, ◌<◌}
use native.Mathlib.Omega.{arith}
use lib.IntN.{ℤ, pos}
use lib.ListN.{length, get_or, set}
use mir.Syntax.{w32}
use mir.Val.{SFits, of_z, to_z}
use mir.ValLaws.{to_z-of_z}
use Rattle.model.specs.Panel.{Field, crane_per_slot, crane_records}
use Rattle.model.specs.Table as T
use Rattle.model.specs.Frame.{numbers_from, rows_from}
use Rattle.model.specs.Calls.{image_table, image_good}
use Rattle.common.proofs.Images as Any
use Rattle.crane_panel.specs.Seen.{slot_of, table_of, slot_from, table_from, fields_of, panel_seen, unused, unused_all, SameFrom}
use Rattle.crane_panel.specs.declared.Slot.{Slot}
use Rattle.crane_panel.specs.declared.Setup.{Setup}

-- ---- the rows

pub good-next : (fs : List Field) (l : List ℤ) (n i : ℕ) → i < n
    → T.good_records fs (n - i) (rows_from crane_per_slot (n - i) l (crane_per_slot * i)) ≡ (T.good_slot fs (numbers_from crane_per_slot l (crane_per_slot * i)) && T.good_records fs (n - (i + 1)) (rows_from crane_per_slot (n - (i + 1)) l (crane_per_slot * (i + 1))))
good-next = Any.good-next crane_per_slot

pub good_end : (fs : List Field) (l : List ℤ) (n i : ℕ) → n ≤ i → T.good_records fs (n - i) (rows_from crane_per_slot (n - i) l (crane_per_slot * i)) ≡ true
good_end = Any.good_end crane_per_slot

-- ---- the table as it is filled

-- i slots filled
abbrev pub filled : List ℤ → ℕ → List Slot
filled l i = Any.filled slot_from unused crane_per_slot crane_records l i

pub filled_start : (l : List ℤ) → unused_all ≡ filled l 0
filled_start = Any.filled_start slot_from unused crane_per_slot crane_records

pub filled_next : (l : List ℤ) (i : ℕ) → i < crane_records → set (filled l i) i (slot_from (numbers_from crane_per_slot l (crane_per_slot * i))) ≡ filled l (i + 1)
filled_next = Any.filled_next slot_from unused crane_per_slot crane_records

module _ (u : Setup) (l : List ℤ) where
  pub filled_end : filled l u.n ≡ table_from (image_table (panel_seen u) l)
  filled_end = Any.filled_end slot_from (panel_seen u) l

  -- Past the image's slots it was never used.
  pub filled_rest : u.n ≤ crane_records → SameFrom u.n (table_from (image_table (panel_seen u) l)) unused_all
  filled_rest = Any.filled_rest slot_from (panel_seen u) l slot_of

  -- ---- the image's tests

  -- An image of another length is not good.
  pub other_length : (c : ℕ) → (length l ≡ crane_per_slot * u.n → ⊥) → image_good (panel_seen u) l c ≡ false
  other_length = Any.other_length (panel_seen u) l

  -- Good rows make a good table.
  pub image-records : u.n ≤ crane_records → T.good_table (panel_seen u) (image_table (panel_seen u) l) ≡ T.good_records (fields_of u) u.n (rows_from crane_per_slot u.n l 0)
  image-records = Any.image-records (panel_seen u) l

-- The table that the code makes has the image's ids.
pub ids-held : (t : T.Table) → T.ids_differ (table_of (table_from t)) ≡ T.ids_differ t
ids-held = Any.ids-held slot_of slot_from (λ s. refl)

-- ---- a row of four numbers of a lent run, read through its bits

module _ (f : List ℤ) (at : ℕ) where
  -- A number, at the offset that code writes.
  abbrev number : ℕ → ℤ
  number i = get_or f i (pos 0)

  -- It, read through its bits.
  abbrev read : ℕ → ℤ
  read i = to_z w32 (of_z w32 (number i))

  row_of_four : numbers_from crane_per_slot f at ≡ number at ∷ number (at + 1) ∷ number (at + 2) ∷ number (at + 3) ∷ []
  row_of_four =
      let two : at + 1 + 1 ≡ at + 2 = omega arith in
      let three : at + 2 + 1 ≡ at + 3 = omega arith in
      rw (two, three)

  pub row_read : SFits w32 (number at) → SFits w32 (number (at + 1)) → SFits w32 (number (at + 2)) → SFits w32 (number (at + 3))
      → read at ∷ read (at + 1) ∷ read (at + 2) ∷ read (at + 3) ∷ [] ≡ numbers_from crane_per_slot f at
  row_read a b c d = rw (to_z-of_z w32 (number at) a, to_z-of_z w32 (number (at + 1)) b, to_z-of_z w32 (number (at + 2)) c, to_z-of_z w32 (number (at + 3)) d) (sym row_of_four)

-- What a turn of each loop shows, and its end: cited by name at the loops of `src`.
pub ruleset turns = (good-next, good_end)

pub ruleset fills = (filled_start, filled_next, filled_end)

pub ruleset tests = (filled_rest, other_length, image-records, ids-held)
