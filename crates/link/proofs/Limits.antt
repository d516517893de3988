-- Of any answer of `write`, accepted or refused: the changed-slot number's ones are the changed slots, bit s for slot s, and there are 228 events and 1_824
-- bytes at most. Cited by docs/PROMISES.md. Assumes nothing.
use mathlib.Core.Path.{◌≡◌, sym, ap, ◌∙◌, subst}
use mathlib.Core.List.{List, []}
use Prim.Native.Nat.{ℕ, ◌*◌, ◌≤◌}
use native.Mathlib.Omega.{arith}
use lib.Count.{ones}
use lib.IntN.{ℤ}
use lib.ListN.{length, get_or}
use Rattle.model.specs.Panel.{base}
use Rattle.model.specs.Sending.{one_unless, same_slot, changed_slots, changed_mask, bit_of}
use Rattle.model.specs.Pointing.{PointerState}
use Rattle.model.proofs.Instances.{base-good}
use Rattle.model.proofs.Ones.{mask_ones, mask_bit}
use Rattle.model.proofs.PointerCalls.{pointer_changed, pointer_limits}
use Rattle.panel.specs.Seen.{table_of}
use Rattle.writer.specs.declared.WriterState.{WriterState}
use Rattle.writer.specs.declared.Written.{Written}
use Rattle.writer.specs.Seen.{seen}
use Rattle.writer.proofs.Demands.{answer-seen}
use Rattle.link.specs.Promises.{Wrote}

module _ (s : WriterState) (f : List ℤ) (at : ℕ) (buf : List ℕ) (r : Written) (after : List ℕ) (w : Wrote s f at buf r after) where
  changed-is : r.changed ≡ changed_mask (table_of s.table) (table_of r.state.table)
  changed-is =
      let table = ap (λ (x : Written). table_of x.state.table) w.0 ∙ ap (λ (x : PointerState). x.base.writer.table) (answer-seen s f buf at) in
      ap (λ (x : Written). x.changed) w.0 ∙ pointer_changed base (seen s) f at (length buf) ∙ sym (ap (changed_mask (table_of s.table)) table)

  -- The count of the changed-slot number's ones is the number of slots that differ between the table handed in and the one answered.
  pub changed-ones : ones r.changed ≡ changed_slots (table_of s.table) (table_of r.state.table)
  changed-ones = ap ones changed-is ∙ mask_ones (table_of s.table) (table_of r.state.table)

  -- Bit k is 1 if slot k differs between them, and else 0.
  pub changed-bits : (k : ℕ) → bit_of k r.changed ≡ one_unless (same_slot (get_or (table_of s.table) k []) (get_or (table_of r.state.table) k []))
  changed-bits k = ap (bit_of k) changed-is ∙ mask_bit (table_of s.table) (table_of r.state.table) k

  -- At most 228 events, so 1_824 bytes, and a need of 1_824 bytes at most.
  pub most : (r.count ≤ 228) × (8 * r.count ≤ 1_824) × (r.need ≤ 1_824)
  most =
      let m = pointer_limits base (seen s) f at (length buf) base-good in
      let count : r.count ≤ 228 = subst (λ (x : Written). x.count ≤ 228) (sym w.0) m.0 in
      let need : r.need ≤ 1_824 = subst (λ (x : Written). x.need ≤ 1_824) (sym w.0) m.1 in
      (count, omega arith, need)
