-- The table that lent bytes hold, as a loop reads it. Cited by the proofs of the loops here. Assumes nothing.
use mathlib.Core.Path.{◌≡◌, sym, ap, ◌∙◌}
use mathlib.Core.List.{List}
use Prim.Native.Nat.{ℕ, ◌+◌, ◌*◌, ◌<◌}
use native.Mathlib.Omega.{arith}
use lib.ListN.{get_or, length}
use Rattle.model.specs.Panel.{records}
use Rattle.panel.specs.Seen.{blank}
use Rattle.lent.specs.Lent.{slot_size, slot_in, table_in}
use Rattle.lent.proofs.Tables.{slots_length, slot-of}

module _ (b : List ℕ) where
  pub full : length (table_in b) ≡ records
  full = slots_length records b 0

  pub slot_is : (i : ℕ) → i < records → slot_in b (slot_size * i) ≡ get_or (table_in b) i blank
  slot_is i h =
      let z : 0 + slot_size * i ≡ slot_size * i = omega arith in
      ap (slot_in b) (sym z) ∙ sym (slot-of records b 0 i h)
