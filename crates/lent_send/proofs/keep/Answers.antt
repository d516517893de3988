-- `lent_send::keep` stores the slots that changed, which makes t the new table. The loop has stored those whose bits `left` no longer has. Assumes nothing.
use borrow.Author.Rules.{rules}
use mathlib.Core.Path.{◌≡◌, ap, ◌∙◌}
use Prim.Native.Nat.{◌<◌, ◌%◌, ◌*◌}
use native.Mathlib.Omega.{arith}
use lib.Count.{count_trailing_zeros}
use Rattle.model.specs.Panel.{records}
use Rattle.model.specs.Records.{lay}
use Rattle.model.proofs.Order.{trailing_below}
use Rattle.lent.specs.Lent.{slot_size, slot_in, slot_bytes}
use Rattle.lent_send.proofs.Kept.{keeps_start, keeps_turn, keeps_over}
use Rattle.lent_send.proofs.keep.Goals as goal

pub loop-left-init : goal.loop-left-init
loop-left-init c =
    keeps_start c.args.new.now c.shared_slice_known-1.given c.requires.1 c.args.t.now c.args.slots (search rules) c.slice_known-1.given c.requires.0 c.requires.2

pub loop-left-preserved : goal.loop-left-preserved
loop-left-preserved c =
    let l = c.loop-left in
    let new = c.args.new.now in
    let k = count_trailing_zeros records l.left in
    let h : 0 < l.left = search rules in
    let below : k < records = trailing_below records l.left h l.invariant.bits in
    let place : k % records ≡ k = omega arith in
    -- What is stored is that slot of the new table.
    let stored : c.put_slot.new.b ≡ lay (slot_size * k) (slot_bytes (slot_in new (slot_size * k))) l.t =
    c.put_slot.ensures
    ∙ ap (λ w. lay (slot_size * (k % records)) (slot_bytes w) l.t) c.slot_at-w.ensures
    ∙ ap (λ s. lay (slot_size * s) (slot_bytes (slot_in new (slot_size * s))) l.t) place in
    keeps_turn new c.shared_slice_known-1.given c.requires.1 l.t l.left l.invariant c.put_slot.new.b h c.slice_known-in-loop-left-1.given stored

pub returns : goal.returns
returns c =
    let l = c.loop-left in
    keeps_over c.args.new.now c.shared_slice_known-1.given c.requires.1 l.t l.left l.invariant c.loop-left-test.false
