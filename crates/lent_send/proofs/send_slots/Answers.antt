-- `lent_send::send_slots` writes the current slot's changes and those of the others. The loop has written the slots whose bits m no longer has.
-- Assumes nothing.
use borrow.Author.Rules.{rules}
use mathlib.Core.Path.{◌≡◌, refl, sym, ap, ap₂, ◌∙◌, subst}
use mathlib.Core.List.{List, [], ◌∷◌, ◌++◌}
use Prim.Native.Nat.{ℕ, ◌<◌, ◌≤◌, ◌+◌, ◌-◌, ◌*◌, ◌%◌, ◌^◌}
use native.Mathlib.Omega.{arith}
use lib.Bits.{bit_and, and_le_r}
use lib.Count.{count_trailing_zeros}
use lib.ListN.{length, length-append, get_or}
use Rattle.model.specs.Panel.{records}
use Rattle.model.specs.Records.{lay}
use Rattle.model.specs.Sending.{Sent, send_slot, changes, last_opened}
use Rattle.model.specs.Order.{of_mask}
use Rattle.model.proofs.Follow.{last_append, last-changes}
use Rattle.model.proofs.Order.{mask_none, mask_next, trailing_below}
use Rattle.panel.specs.declared.Slot.{Slot}
use Rattle.panel.specs.Seen.{slot_of, blank}
use Rattle.records.proofs.Over.{lay_nil}
use Rattle.send.specs.Sent.{bytes_sent, opened_at, sent_by}
use Rattle.send.proofs.Parts.{sent_nil, sent_append, Begun, begins}
use Rattle.lent.specs.Lent.{slot_size, slot_in, table_in}
use Rattle.lent_send.proofs.Slots.{slot-in}
use Rattle.lent_send.proofs.send_slots.Invariants.{left}
use Rattle.lent_send.proofs.send_slots.Goals.{After-put_changes-end}
use Rattle.lent_send.proofs.send_slots.Goals as goal

-- ---- the slots by numbers

-- The lowest bit's slot, and the other bits.
abbrev low : ℕ → ℕ
low m = count_trailing_zeros records m

abbrev rest : ℕ → ℕ
rest m = bit_and m (m - 1)

module _ (old new : List Slot) where
  -- The events of the current slot.
  abbrev first : ℕ → List Sent
  first c = changes 0 (slot_of (get_or old c blank)) (slot_of (get_or new c blank))

  whole : (m c : ℕ) → bytes_sent (sent_by old new m c) ≡ bytes_sent (first c) ++ left old new m
  whole m c = sent_append (first c) (of_mask records m (opened_at old new))

  -- No bit is left, so nothing is.
  none : (m : ℕ) → m ≡ 0 → of_mask records m (opened_at old new) ≡ []
  none m z = ap (λ k. of_mask records k (opened_at old new)) z ∙ mask_none records (opened_at old new)

  module _ (m : ℕ) (h : 0 < m) (f : m < 2 ^ records) where
    place : low m % records ≡ low m
    place = let below : low m < records = trailing_below records m h f in omega arith

    named : low m % records < records
    named = omega (arith, place, trailing_below records m h f)

    split : of_mask records m (opened_at old new) ≡ opened_at old new (low m) ++ of_mask records (rest m) (opened_at old new)
    split = mask_next records m (opened_at old new) h f

    split-bytes : left old new m ≡ bytes_sent (opened_at old new (low m)) ++ left old new (rest m)
    split-bytes = ap bytes_sent split ∙ sent_append (opened_at old new (low m)) (of_mask records (rest m) (opened_at old new))

-- ---- what is read is that slot of either table

module _ (old new : List ℕ) (o v : Slot) where
  sent-first : (c : ℕ) → c < records → o ≡ slot_in old (slot_size * c) → v ≡ slot_in new (slot_size * c)
      → bytes_sent (changes 0 (slot_of o) (slot_of v)) ≡ bytes_sent (first (table_in old) (table_in new) c)
  sent-first c h was is = ap₂ (λ o v. bytes_sent (changes 0 (slot_of o) (slot_of v))) (was ∙ slot-in old c h) (is ∙ slot-in new c h)

  sent-opened : (m : ℕ) → 0 < m → m < 2 ^ records → o ≡ slot_in old (slot_size * (low m % records)) → v ≡ slot_in new (slot_size * (low m % records))
      → bytes_sent (send_slot (low m % records) ∷ changes 0 (slot_of o) (slot_of v)) ≡ bytes_sent (opened_at (table_in old) (table_in new) (low m))
  sent-opened m h f was is =
      let k = low m % records in
      let n = named (table_in old) (table_in new) m h f in
      ap₂ (λ o v. bytes_sent (send_slot k ∷ changes 0 (slot_of o) (slot_of v))) (was ∙ slot-in old k n) (is ∙ slot-in new k n)
      ∙ ap (λ j. bytes_sent (opened_at (table_in old) (table_in new) j)) (place (table_in old) (table_in new) m h f)

-- The current slot is written.
begun : (c : After-put_changes-end) → (let a = c.args in let t = table_in a.old.now in let u = table_in a.new.now in
    Begun a.at c.put_changes-end.result (bytes_sent (first t u a.current.0)) (left t u a.others) a.b.now c.put_changes-end.new.b)
begun c =
    let a = c.args in
    let e = sent-first a.old.now a.new.now _ _ a.current.0 c.requires.0 c.slot_at-o.ensures c.slot_at-v.ensures in
    let ends = subst (λ bs. c.put_changes-end.result ≡ a.at + length bs) e c.put_changes-end.ensures.0 in
    let bytes = subst (λ bs. c.put_changes-end.new.b ≡ lay a.at bs a.b.now) e c.put_changes-end.ensures.1 in
    begins ends bytes (rw (whole (table_in a.old.now) (table_in a.new.now) a.others a.current.0) at c.requires.3)

-- ---- the needs

pub put_changes-end-requires : goal.put_changes-end-requires
put_changes-end-requires c =
    let a = c.args in
    let t = table_in a.old.now in
    let u = table_in a.new.now in
    let e = sent-first a.old.now a.new.now _ _ a.current.0 c.requires.0 c.slot_at-o.ensures c.slot_at-v.ensures in
    let room = rw (whole t u a.others a.current.0) at c.requires.3 in
    subst (λ l. a.at + length l ≤ length a.b.now) (sym e) (omega (arith, length-append (bytes_sent (first t u a.current.0)) (left t u a.others), room))

pub loop-m-init : goal.loop-m-init
loop-m-init c = record { bits = search rules; size = refl; room = (begun (goal.at.loop-m-init c).After-put_changes-end).room; ends = refl; opened = refl; bytes = refl }

pub put_opened-end-requires : goal.put_opened-end-requires
put_opened-end-requires c =
    let l = c.loop-m in
    let t = table_in c.args.old.now in
    let u = table_in c.args.new.now in
    let h : 0 < l.m = search rules in
    let f = l.invariant.bits in
    let e = sent-opened c.args.old.now c.args.new.now _ _ l.m h f c.slot_at-was.ensures c.slot_at-is.ensures in
    let room = rw (split-bytes t u l.m h f) at l.invariant.room in
    (named t u l.m h f, subst (λ bs. l.end + length bs ≤ length l.b) (sym e) (omega (arith, length-append (bytes_sent (opened_at t u (low l.m))) (left t u (rest l.m)), room)))

pub loop-m-preserved : goal.loop-m-preserved
loop-m-preserved c =
    let l = c.loop-m in
    let i = l.invariant in
    let t = table_in c.args.old.now in
    let u = table_in c.args.new.now in
    let k = low l.m in
    let h : 0 < l.m = search rules in
    let e = sent-opened c.args.old.now c.args.new.now _ _ l.m h i.bits c.slot_at-was.ensures c.slot_at-is.ensures in
    let ends = subst (λ bs. c.put_opened-end.result ≡ l.end + length bs) e c.put_opened-end.ensures.0 in
    let bytes = subst (λ bs. c.put_opened-end.new.b ≡ lay l.end bs l.b) e c.put_opened-end.ensures.1 in
    let parts = split-bytes t u l.m h i.bits in
    let opened = begins ends bytes (rw parts at i.room) in
    let last = last-changes k 0 (slot_of (get_or t k blank)) (slot_of (get_or u k blank)) in
    record {
      bits = omega (arith, and_le_r l.m (l.m - 1), i.bits);
      size = opened.size ∙ i.size;
      room = opened.room;
      ends = i.ends ∙ ap (λ bs. l.end + length bs) parts ∙ sym opened.ends;
      opened =
          i.opened
          ∙ ap (last_opened l.last) (split t u l.m h i.bits)
          ∙ last_append l.last (opened_at t u k) (of_mask records (rest l.m) (opened_at t u))
          ∙ ap (λ s. last_opened s (of_mask records (rest l.m) (opened_at t u))) (last ∙ sym (place t u l.m h i.bits));
      bytes = i.bytes ∙ ap (λ bs. lay l.end bs l.b) parts ∙ sym opened.bytes;
    }

pub returns : goal.returns
returns c =
    let a = c.args in
    let l = c.loop-m in
    let t = table_in a.old.now in
    let u = table_in a.new.now in
    let q = begun (goal.at.returns c).After-put_changes-end in
    let all = whole t u a.others a.current.0 in
    let others = of_mask records a.others (opened_at t u) in
    let last = last-changes a.current.0 0 (slot_of (get_or t a.current.0 blank)) (slot_of (get_or u a.current.0 blank)) in
    let gone = none t u l.m c.loop-m-test.false in
    let left-gone : left t u l.m ≡ [] = ap bytes_sent gone ∙ sent_nil in
    record {
      ends = omega (arith, l.invariant.ends, ap length left-gone, q.ends, ap length all);
      last = sym (last_append a.current.0 (first t u a.current.0) others ∙ ap (λ k. last_opened k others) last ∙ l.invariant.opened ∙ ap (last_opened l.last) gone);
      bytes = sym (lay_nil l.end l.b) ∙ ap (λ bs. lay l.end bs l.b) (sym left-gone) ∙ sym l.invariant.bytes ∙ q.bytes ∙ ap (λ bs. lay a.at bs a.b.now) (sym all);
    }
