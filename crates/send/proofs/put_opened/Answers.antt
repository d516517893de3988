-- `send::put_opened` writes a slot's number and then its changed numbers. Assumes nothing.
use mathlib.Core.Path.{◌≡◌, sym, ap, ◌∙◌}
use mathlib.Core.List.{List, ◌∷◌, ◌++◌}
use Prim.Native.Nat.{ℕ, ◌+◌, ◌-◌, ◌≤◌}
use native.Mathlib.Omega.{arith}
use lib.ListN.{length, length-append}
use borrow.Rule.Slice.PartMut.{put_mid}
use Rattle.model.specs.Records.{record_bytes}
use Rattle.model.specs.Sending.{send_slot, changes}
use Rattle.panel.specs.Seen.{slot_of}
use Rattle.records.proofs.Over.{record_length, lay_put}
use Rattle.send.specs.Sent.{bytes_sent}
use Rattle.send.proofs.Parts.{opened-bytes, record_room, Begun, begins}
use Rattle.send.proofs.put_opened.Goals.{After-put, Start}
use Rattle.send.proofs.put_opened.Goals as goal

abbrev A : Start → List ℕ
A s = record_bytes 3 0x2f s.args.s.0

abbrev A-at-After-put : After-put → List ℕ
A-at-After-put s = record_bytes 3 0x2f s.args.s.0

eight : (s : Start) → length (A s) ≡ 8
eight s = record_length 3 0x2f s.args.s.0

eight-at-After-put : (s : After-put) → length (A-at-After-put s) ≡ 8
eight-at-After-put s = record_length 3 0x2f s.args.s.0

whole : (s : Start) → bytes_sent (send_slot s.args.s.0 ∷ changes 0 (slot_of s.args.old) (slot_of s.args.new)) ≡ A s ++ (bytes_sent (changes 0 (slot_of s.args.old) (slot_of s.args.new)))
whole s = opened-bytes s.args.s.0 (changes 0 (slot_of s.args.old) (slot_of s.args.new))

whole-at-After-put : (s : After-put) → bytes_sent (send_slot s.args.s.0 ∷ changes 0 (slot_of s.args.old) (slot_of s.args.new)) ≡ A-at-After-put s ++ (bytes_sent (changes 0 (slot_of s.args.old) (slot_of s.args.new)))
whole-at-After-put s = opened-bytes s.args.s.0 (changes 0 (slot_of s.args.old) (slot_of s.args.new))

room : (s : Start) → s.args.at + length (A s ++ (bytes_sent (changes 0 (slot_of s.args.old) (slot_of s.args.new)))) ≤ length s.args.b.now
room s = rw (whole s) at s.requires.1

room-at-After-put : (s : After-put) → s.args.at + length (A-at-After-put s ++ (bytes_sent (changes 0 (slot_of s.args.old) (slot_of s.args.new)))) ≤ length s.args.b.now
room-at-After-put s = rw (whole-at-After-put s) at s.requires.1

fits : (s : Start) → s.args.at + 8 ≤ length s.args.b.now
fits s = omega (arith, length-append (A s) (bytes_sent (changes 0 (slot_of s.args.old) (slot_of s.args.new))), room s, eight s)

fits-at-After-put : (s : After-put) → s.args.at + 8 ≤ length s.args.b.now
fits-at-After-put s = omega (arith, length-append (A-at-After-put s) (bytes_sent (changes 0 (slot_of s.args.old) (slot_of s.args.new))), room-at-After-put s, eight-at-After-put s)

abbrev W : After-put → List ℕ
W c = let a = c.args in put_mid a.at (length a.b.now - a.at) a.b.now c.put.new.b

begun : (c : After-put) → (let s = c in
    Begun s.args.at (s.args.at + 8) (A-at-After-put s) (bytes_sent (changes 0 (slot_of s.args.old) (slot_of s.args.new))) s.args.b.now (W c))
begun c =
    let s = c in
    let a = s.args in
    begins (ap (λ n. a.at + n) (sym (eight-at-After-put s))) (lay_put a.at (A-at-After-put s) a.b.now c.put.new.b (omega (arith, fits-at-After-put s)) c.put.ensures) (room-at-After-put s)

pub put-requires : goal.put-requires
put-requires c =
    let s = c in
    record_room s.args.at s.args.b.now (fits (goal.at.put-requires s).Start)

pub put_changes-requires : goal.put_changes-requires
put_changes-requires c = (begun (goal.at.put_changes-requires c).After-put).room

pub returns : goal.returns
returns c =
    let at = goal.at.returns c in
    let n = c.put_changes in
    rw (whole at.Start) (n.ensures.0 ∙ (begun at.After-put).ends, n.ensures.1 ∙ (begun at.After-put).bytes)
