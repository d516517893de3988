-- Slots of a table that lies in bytes, stored. Cited by the proofs here. Assumes nothing.
use mathlib.Core.Path.{◌≡◌, sym, ap, ◌∙◌}
use mathlib.Core.List.{List}
use Prim.Native.Nat.{ℕ, ◌+◌, ◌*◌, ◌<◌}
use native.Mathlib.Omega.{arith}
use lib.ListN.{length, set}
use Rattle.model.specs.Panel.{records}
use Rattle.model.specs.Records.{lay}
use Rattle.panel.specs.declared.Slot.{Slot}
use Rattle.lent.specs.Lent.{slot_size, table_size, table_in, slot_bytes, SlotFits}
use Rattle.lent.proofs.Tables.{table-set}

pub slot_put : (b : List ℕ) (s : ℕ) → s < records → (w : Slot) → SlotFits w → length b ≡ table_size → table_in (lay (slot_size * s) (slot_bytes w) b) ≡ set (table_in b) s w
slot_put b s h w f e =
    let place : 0 + slot_size * s ≡ slot_size * s = omega arith in
    ap (λ k. table_in (lay k (slot_bytes w) b)) (sym place) ∙ table-set records b 0 s w f h (omega (arith, e))
