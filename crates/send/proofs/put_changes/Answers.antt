-- `send::put_changes` writes a slot's changed numbers: the contact's, and then the rest. Assumes nothing.
use mathlib.Core.Path.{◌≡◌, ◌∙◌}
use mathlib.Core.List.{◌++◌}
use Prim.Native.Nat.{◌+◌, ◌≤◌}
use native.Mathlib.Omega.{arith}
use lib.ListN.{length, length-append}
use mir.Syntax.{w32}
use mir.Val.{SFits}
use Rattle.model.specs.Sending.{changes}
use Rattle.panel.specs.Seen.{slot_of}
use Rattle.send.specs.Sent.{bytes_sent, contact_bytes, rest_bytes}
use Rattle.send.proofs.Parts.{changes-bytes, Begun, begins}
use borrow.Author.Rules.{rules}
use Rattle.send.proofs.put_changes.Goals.{After-put_contact-i, Start}
use Rattle.send.proofs.put_changes.Goals as goal

whole : (s : Start) → bytes_sent (changes 0 (slot_of s.args.old) (slot_of s.args.new)) ≡ (contact_bytes s.args.old s.args.new) ++ (rest_bytes s.args.old s.args.new)
whole s =
    let f : SFits w32 s.args.old.id.0 = search rules in
    let g : SFits w32 s.args.new.id.0 = search rules in
    changes-bytes s.args.old s.args.new f g

whole-at-After-put_contact-i : (s : After-put_contact-i) → bytes_sent (changes 0 (slot_of s.args.old) (slot_of s.args.new)) ≡ (contact_bytes s.args.old s.args.new) ++ (rest_bytes s.args.old s.args.new)
whole-at-After-put_contact-i s =
    let f : SFits w32 s.args.old.id.0 = search rules in
    let g : SFits w32 s.args.new.id.0 = search rules in
    changes-bytes s.args.old s.args.new f g

room : (s : Start) → s.args.at + length ((contact_bytes s.args.old s.args.new) ++ (rest_bytes s.args.old s.args.new)) ≤ length s.args.b.now
room s = rw (whole s) at s.requires

room-at-After-put_contact-i : (s : After-put_contact-i) → s.args.at + length ((contact_bytes s.args.old s.args.new) ++ (rest_bytes s.args.old s.args.new)) ≤ length s.args.b.now
room-at-After-put_contact-i s = rw (whole-at-After-put_contact-i s) at s.requires

begun : (c : After-put_contact-i) → (let s = c in
    Begun s.args.at c.put_contact-i.result (contact_bytes s.args.old s.args.new) (rest_bytes s.args.old s.args.new) s.args.b.now c.put_contact-i.new.b)
begun c = begins c.put_contact-i.ensures.0 c.put_contact-i.ensures.1 (room-at-After-put_contact-i c)

pub put_contact-i-requires : goal.put_contact-i-requires
put_contact-i-requires c =
    let s = c in
    omega (arith, length-append (contact_bytes s.args.old s.args.new) (rest_bytes s.args.old s.args.new), room (goal.at.put_contact-i-requires s).Start)

pub put_rest-requires : goal.put_rest-requires
put_rest-requires c = (begun (goal.at.put_rest-requires c).After-put_contact-i).room

pub returns : goal.returns
returns c =
    let at = goal.at.returns c in
    let n = c.put_rest in
    rw (whole at.Start) (n.ensures.0 ∙ (begun at.After-put_contact-i).ends, n.ensures.1 ∙ (begun at.After-put_contact-i).bytes)
