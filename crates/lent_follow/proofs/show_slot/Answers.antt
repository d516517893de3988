-- `lent_follow::show_slot`: one slot of the pending table over the shown one's. Assumes nothing.
use mathlib.Core.Path.{◌≡◌, sym, ap, ◌∙◌}
use Prim.Native.Nat.{◌+◌, ◌*◌, ◌≤◌}
use native.Mathlib.Omega.{arith}
use lib.ListN.{length, set}
use Rattle.model.specs.Panel.{records}
use Rattle.model.specs.Records.{lay}
use Rattle.lent.specs.Lent.{slot_size, table_size, slot_in, slots_from, slot_bytes, SlotFits}
use Rattle.lent.proofs.Slots.{slot-fits, slot-length}
use Rattle.lent.proofs.Tables.{slot-of, slots-after, table-set}
use Rattle.lent_follow.specs.InPlace.{shown_in}
use Rattle.lent_follow.proofs.show_slot.Goals as goal

pub returns : goal.returns
returns c =
    let t = c.args.t.now in
    let s = c.args.s in
    let w = c.slot_at-w.result in
    let z : 0 + slot_size * s ≡ slot_size * s = omega arith in
    let is : w ≡ slot_in t (table_size + slot_size * s) = c.slot_at-w.ensures in
    let fits : SlotFits w = rw is (slot-fits t (table_size + slot_size * s) c.slice_known-1.given) in
    let room : slot_size * s ≤ length t = omega (arith, c.requires.0, c.requires.1) in
    let last = c.put_slot.ensures in
    record {
      shown =
          ap (λ b. slots_from records b 0) (last ∙ ap (λ k. lay k (slot_bytes w) t) (sym z))
          ∙ table-set records t 0 s w fits c.requires.0 (omega (arith, c.requires.1))
          ∙ ap (set (shown_in t) s) (is ∙ sym (slot-of records t table_size s c.requires.0));
      pending =
          ap (λ b. slots_from records b table_size) last
          ∙ slots-after (slot_size * s) (slot_bytes w) t room records table_size (omega (arith, slot-length w, c.requires.0));
    }
