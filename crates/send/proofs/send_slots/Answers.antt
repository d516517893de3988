-- `send::send_slots` writes the current slot's changes and those of the others. The loop has written the slots whose bits m no longer has.
-- Assumes nothing.
use borrow.Author.Rules.{rules}
use mathlib.Core.Path.{◌≡◌, refl, sym, ap, ◌∙◌}
use mathlib.Core.List.{List, [], ◌++◌}
use Prim.Native.Nat.{ℕ, ◌<◌, ◌≤◌, ◌+◌, ◌-◌, ◌%◌}
use native.Mathlib.Omega.{arith}
use lib.Bits.{bit_and, and_le_r}
use lib.Count.{count_trailing_zeros}
use lib.ListN.{length, length-append, get_or}
use Rattle.model.specs.Panel.{records}
use Rattle.model.specs.Records.{lay}
use Rattle.model.specs.Sending.{Sent, changes, last_opened}
use Rattle.model.specs.Order.{of_mask}
use Rattle.model.proofs.Follow.{last_append, last-changes}
use Rattle.model.proofs.Order.{mask_none, mask_next, trailing_below}
use Rattle.panel.specs.Seen.{slot_of, blank}
use Rattle.records.proofs.Over.{lay_nil}
use Rattle.send.specs.Sent.{bytes_sent, opened_at, sent_by}
use Rattle.send.proofs.Parts.{sent_nil, sent_append, Begun, begins}
use Rattle.send.proofs.send_slots.Invariants.{left}
use Rattle.send.proofs.send_slots.Goals.{After-loop-m, After-put_changes-end, After-put_opened-end, In-loop-m, Start}
use Rattle.send.proofs.send_slots.Goals as goal

whole : (s : Start) → bytes_sent (sent_by s.args.old s.args.new s.args.others s.args.current.0) ≡ (bytes_sent (changes 0 (slot_of (get_or s.args.old s.args.current.0 blank)) (slot_of (get_or s.args.new s.args.current.0 blank)))) ++ (left s.args.old s.args.new s.args.others)
whole s = sent_append (changes 0 (slot_of (get_or s.args.old s.args.current.0 blank)) (slot_of (get_or s.args.new s.args.current.0 blank))) (of_mask records s.args.others (opened_at s.args.old s.args.new))

whole-at-After-put_changes-end : (s : After-put_changes-end) → bytes_sent (sent_by s.args.old s.args.new s.args.others s.args.current.0) ≡ (bytes_sent (changes 0 (slot_of (get_or s.args.old s.args.current.0 blank)) (slot_of (get_or s.args.new s.args.current.0 blank)))) ++ (left s.args.old s.args.new s.args.others)
whole-at-After-put_changes-end s = sent_append (changes 0 (slot_of (get_or s.args.old s.args.current.0 blank)) (slot_of (get_or s.args.new s.args.current.0 blank))) (of_mask records s.args.others (opened_at s.args.old s.args.new))

room : (s : Start) → s.args.at + length ((bytes_sent (changes 0 (slot_of (get_or s.args.old s.args.current.0 blank)) (slot_of (get_or s.args.new s.args.current.0 blank)))) ++ (left s.args.old s.args.new s.args.others)) ≤ length s.args.b.now
room s = rw (whole s) at s.requires.1

room-at-After-put_changes-end : (s : After-put_changes-end) → s.args.at + length ((bytes_sent (changes 0 (slot_of (get_or s.args.old s.args.current.0 blank)) (slot_of (get_or s.args.new s.args.current.0 blank)))) ++ (left s.args.old s.args.new s.args.others)) ≤ length s.args.b.now
room-at-After-put_changes-end s = rw (whole-at-After-put_changes-end s) at s.requires.1

begun : (c : After-put_changes-end) → (let s = c in
    Begun s.args.at c.put_changes-end.result (bytes_sent (changes 0 (slot_of (get_or s.args.old s.args.current.0 blank)) (slot_of (get_or s.args.new s.args.current.0 blank)))) (left s.args.old s.args.new s.args.others) s.args.b.now c.put_changes-end.new.b)
begun c = begins c.put_changes-end.ensures.0 c.put_changes-end.ensures.1 (room-at-After-put_changes-end c)

-- ---- a turn: the lowest set bit's slot, and the other bits

nonzero : (c : In-loop-m) → 0 < c.loop-m.m
nonzero c = search rules

nonzero-at-After-put_opened-end : (c : After-put_opened-end) → 0 < c.loop-m.m
nonzero-at-After-put_opened-end c = search rules

abbrev parts : In-loop-m → ℕ → List Sent
parts c = opened_at c.args.old c.args.new

abbrev parts-at-After-put_opened-end : After-put_opened-end → ℕ → List Sent
parts-at-After-put_opened-end c = opened_at c.args.old c.args.new

split : (c : In-loop-m) → of_mask records c.loop-m.m (parts c) ≡ parts c (count_trailing_zeros records c.loop-m.m) ++ (of_mask records (bit_and c.loop-m.m (c.loop-m.m - 1)) (parts c))
split c = mask_next records c.loop-m.m (parts c) (nonzero c) c.loop-m.invariant.bits

split-at-After-put_opened-end : (c : After-put_opened-end) → of_mask records c.loop-m.m (parts-at-After-put_opened-end c) ≡ parts-at-After-put_opened-end c (count_trailing_zeros records c.loop-m.m) ++ (of_mask records (bit_and c.loop-m.m (c.loop-m.m - 1)) (parts-at-After-put_opened-end c))
split-at-After-put_opened-end c = mask_next records c.loop-m.m (parts-at-After-put_opened-end c) (nonzero-at-After-put_opened-end c) c.loop-m.invariant.bits

split-bytes : (c : In-loop-m) → bytes_sent (of_mask records c.loop-m.m (parts c)) ≡ (bytes_sent (parts c (count_trailing_zeros records c.loop-m.m))) ++ (bytes_sent (of_mask records (bit_and c.loop-m.m (c.loop-m.m - 1)) (parts c)))
split-bytes c = ap bytes_sent (split c) ∙ sent_append (parts c (count_trailing_zeros records c.loop-m.m)) (of_mask records (bit_and c.loop-m.m (c.loop-m.m - 1)) (parts c))

split-bytes-at-After-put_opened-end : (c : After-put_opened-end) → bytes_sent (of_mask records c.loop-m.m (parts-at-After-put_opened-end c)) ≡ (bytes_sent (parts-at-After-put_opened-end c (count_trailing_zeros records c.loop-m.m))) ++ (bytes_sent (of_mask records (bit_and c.loop-m.m (c.loop-m.m - 1)) (parts-at-After-put_opened-end c)))
split-bytes-at-After-put_opened-end c = ap bytes_sent (split-at-After-put_opened-end c) ∙ sent_append (parts-at-After-put_opened-end c (count_trailing_zeros records c.loop-m.m)) (of_mask records (bit_and c.loop-m.m (c.loop-m.m - 1)) (parts-at-After-put_opened-end c))

more_room : (c : In-loop-m) → c.loop-m.end + length ((bytes_sent (parts c (count_trailing_zeros records c.loop-m.m))) ++ (bytes_sent (of_mask records (bit_and c.loop-m.m (c.loop-m.m - 1)) (parts c)))) ≤ length c.loop-m.b
more_room c = rw (split-bytes c) at c.loop-m.invariant.room

more_room-at-After-put_opened-end : (c : After-put_opened-end) → c.loop-m.end + length ((bytes_sent (parts-at-After-put_opened-end c (count_trailing_zeros records c.loop-m.m))) ++ (bytes_sent (of_mask records (bit_and c.loop-m.m (c.loop-m.m - 1)) (parts-at-After-put_opened-end c)))) ≤ length c.loop-m.b
more_room-at-After-put_opened-end c = rw (split-bytes-at-After-put_opened-end c) at c.loop-m.invariant.room

below : (c : In-loop-m) → (count_trailing_zeros records c.loop-m.m) < records
below c = trailing_below records c.loop-m.m (nonzero c) c.loop-m.invariant.bits

below-at-After-put_opened-end : (c : After-put_opened-end) → (count_trailing_zeros records c.loop-m.m) < records
below-at-After-put_opened-end c = trailing_below records c.loop-m.m (nonzero-at-After-put_opened-end c) c.loop-m.invariant.bits

place : (c : In-loop-m) → (count_trailing_zeros records c.loop-m.m) % records ≡ (count_trailing_zeros records c.loop-m.m)
place c = omega (arith, below c)

place-at-After-put_opened-end : (c : After-put_opened-end) → (count_trailing_zeros records c.loop-m.m) % records ≡ (count_trailing_zeros records c.loop-m.m)
place-at-After-put_opened-end c = omega (arith, below-at-After-put_opened-end c)

-- its slot is written
opened : (p : After-put_opened-end) → (let i = p in let l = i.loop-m in
    Begun l.end p.put_opened-end.result (bytes_sent (parts-at-After-put_opened-end i (count_trailing_zeros records i.loop-m.m))) (bytes_sent (of_mask records (bit_and i.loop-m.m (i.loop-m.m - 1)) (parts-at-After-put_opened-end i))) l.b p.put_opened-end.new.b)
opened p =
    let i = p in
    begins (rw (place-at-After-put_opened-end i) at p.put_opened-end.ensures.0) (rw (place-at-After-put_opened-end i) at p.put_opened-end.ensures.1) (more_room-at-After-put_opened-end i)

-- ---- after the loop: nothing is left

none : (c : After-loop-m) → (let s = c in of_mask records c.loop-m.m (opened_at s.args.old s.args.new) ≡ [])
none c =
    let f = opened_at c.args.old c.args.new in
    ap (λ m. of_mask records m f) c.loop-m-test.false ∙ mask_none records f

none_left : (c : After-loop-m) → left c.args.old c.args.new c.loop-m.m ≡ []
none_left c = ap bytes_sent (none c) ∙ sent_nil

pub put_changes-end-requires : goal.put_changes-end-requires
put_changes-end-requires c =
    let s = c in
    omega (arith, length-append (bytes_sent (changes 0 (slot_of (get_or s.args.old s.args.current.0 blank)) (slot_of (get_or s.args.new s.args.current.0 blank)))) (left s.args.old s.args.new s.args.others), room (goal.at.put_changes-end-requires s).Start)

pub loop-m-init : goal.loop-m-init
loop-m-init c = record { bits = search rules; size = refl; room = (begun (goal.at.loop-m-init c).After-put_changes-end).room; ends = refl; opened = refl; bytes = refl }

pub put_opened-end-requires : goal.put_opened-end-requires
put_opened-end-requires c =
    let here = (goal.at.put_opened-end-requires c).In-loop-m in
    let i = c in
    rw (place here) (below here, omega (arith, length-append (bytes_sent (parts here (count_trailing_zeros records i.loop-m.m))) (bytes_sent (of_mask records (bit_and i.loop-m.m (i.loop-m.m - 1)) (parts here))), more_room here))

pub loop-m-smaller : goal.loop-m-smaller
loop-m-smaller c =
    let i = c in
    omega (arith, and_le_r i.loop-m.m (i.loop-m.m - 1), nonzero (goal.at.loop-m-smaller i).In-loop-m)

pub loop-m-preserved : goal.loop-m-preserved
loop-m-preserved c =
    let at = goal.at.loop-m-preserved c in
    let p = c in
    let i = p in
    let l = i.loop-m in
    let s = i in
    let last = last-changes (count_trailing_zeros records i.loop-m.m) 0 (slot_of (get_or s.args.old (count_trailing_zeros records i.loop-m.m) blank)) (slot_of (get_or s.args.new (count_trailing_zeros records i.loop-m.m) blank)) in
    record {
      bits = omega (arith, and_le_r l.m (l.m - 1), l.invariant.bits);
      size = (opened at.After-put_opened-end).size ∙ l.invariant.size;
      room = (opened at.After-put_opened-end).room;
      ends = l.invariant.ends ∙ ap (λ bs. l.end + length bs) (split-bytes at.In-loop-m) ∙ sym (opened at.After-put_opened-end).ends;
      opened =
          l.invariant.opened ∙ ap (last_opened l.last) (split at.In-loop-m) ∙ last_append l.last (parts at.In-loop-m (count_trailing_zeros records i.loop-m.m)) (of_mask records (bit_and i.loop-m.m (i.loop-m.m - 1)) (parts at.In-loop-m))
          ∙ ap (λ k. last_opened k (of_mask records (bit_and i.loop-m.m (i.loop-m.m - 1)) (parts at.In-loop-m))) (last ∙ sym (place at.In-loop-m));
      bytes = l.invariant.bytes ∙ ap (λ bs. lay l.end bs l.b) (split-bytes at.In-loop-m) ∙ sym (opened at.After-put_opened-end).bytes;
    }

pub returns : goal.returns
returns c =
    let at = goal.at.returns c in
    let l = c.loop-m in
    let s = c in
    let q = begun at.After-put_changes-end in
    let first = last-changes s.args.current.0 0 (slot_of (get_or s.args.old s.args.current.0 blank)) (slot_of (get_or s.args.new s.args.current.0 blank)) in
    let last = last_append s.args.current.0 (changes 0 (slot_of (get_or s.args.old s.args.current.0 blank)) (slot_of (get_or s.args.new s.args.current.0 blank))) (of_mask records s.args.others (opened_at s.args.old s.args.new)) ∙ ap (λ k. last_opened k (of_mask records s.args.others (opened_at s.args.old s.args.new))) first in
    record {
      ends = omega (arith, l.invariant.ends, ap length (none_left at.After-loop-m), q.ends, ap length (whole at.Start));
      last = sym (last ∙ l.invariant.opened ∙ ap (last_opened l.last) (none at.After-loop-m));
      bytes =
          sym (lay_nil l.end l.b) ∙ ap (λ bs. lay l.end bs l.b) (sym (none_left at.After-loop-m)) ∙ sym l.invariant.bytes ∙ q.bytes
          ∙ ap (λ bs. lay s.args.at bs s.args.b.now) (sym (whole at.Start));
    }
