-- `send::put_contact` writes a slot's changed id, x and y. Assumes nothing.
use mathlib.Core.Path.{◌≡◌, sym, ap₂, ◌∙◌}
use mathlib.Core.List.{List, ◌++◌}
use Prim.Native.Nat.{ℕ, ◌+◌, ◌≤◌}
use native.Mathlib.Omega.{arith}
use lib.ListN.{length, length-append}
use mir.Syntax.{w32}
use mir.Val.{SFits}
use mir.ValLaws.{to_z-of_z}
use Rattle.model.specs.Records.{bits_of}
use Rattle.panel.specs.declared.Slot.{Slot}
use Rattle.send.specs.Sent.{number_bytes, contact_bytes}
use Rattle.send.proofs.Parts.{Begun, begins}
use borrow.Author.Rules.{rules}
use Rattle.send.proofs.put_contact.Goals.{After-bits_of-2, After-put_number-i, After-put_number-j}
use Rattle.send.proofs.put_contact.Goals as goal

abbrev buf : After-bits_of-2 → List ℕ
buf c = c.args.b.now

abbrev buf-at-After-put_number-i : After-put_number-i → List ℕ
buf-at-After-put_number-i c = c.args.b.now

abbrev buf-at-After-put_number-j : After-put_number-j → List ℕ
buf-at-After-put_number-j c = c.args.b.now

abbrev old : After-bits_of-2 → Slot
old c = c.args.old

abbrev old-at-After-put_number-i : After-put_number-i → Slot
old-at-After-put_number-i c = c.args.old

abbrev old-at-After-put_number-j : After-put_number-j → Slot
old-at-After-put_number-j c = c.args.old

abbrev new : After-bits_of-2 → Slot
new c = c.args.new

abbrev new-at-After-put_number-i : After-put_number-i → Slot
new-at-After-put_number-i c = c.args.new

abbrev new-at-After-put_number-j : After-put_number-j → Slot
new-at-After-put_number-j c = c.args.new

whole : (c : After-bits_of-2) → contact_bytes (old c) (new c) ≡ (number_bytes 0x39 c.bits_of.result c.bits_of-2.result) ++ ((number_bytes 0x35 (old c).x (new c).x) ++ (number_bytes 0x36 (old c).y (new c).y))
whole c =
    let o = (old c).id.0 in
    let v = (new c).id.0 in
    let f : SFits w32 o = search rules in
    let g : SFits w32 v = search rules in
    let e : c.bits_of.result ≡ bits_of o = rw (to_z-of_z w32 o f) at c.bits_of.ensures in
    let h : c.bits_of-2.result ≡ bits_of v = rw (to_z-of_z w32 v g) at c.bits_of-2.ensures in
    sym (ap₂ (λ i j. number_bytes 0x39 i j ++ ((number_bytes 0x35 (old c).x (new c).x) ++ (number_bytes 0x36 (old c).y (new c).y))) e h)

whole-at-After-put_number-i : (c : After-put_number-i) → contact_bytes (old-at-After-put_number-i c) (new-at-After-put_number-i c) ≡ (number_bytes 0x39 c.bits_of.result c.bits_of-2.result) ++ ((number_bytes 0x35 (old-at-After-put_number-i c).x (new-at-After-put_number-i c).x) ++ (number_bytes 0x36 (old-at-After-put_number-i c).y (new-at-After-put_number-i c).y))
whole-at-After-put_number-i c =
    let o = (old-at-After-put_number-i c).id.0 in
    let v = (new-at-After-put_number-i c).id.0 in
    let f : SFits w32 o = search rules in
    let g : SFits w32 v = search rules in
    let e : c.bits_of.result ≡ bits_of o = rw (to_z-of_z w32 o f) at c.bits_of.ensures in
    let h : c.bits_of-2.result ≡ bits_of v = rw (to_z-of_z w32 v g) at c.bits_of-2.ensures in
    sym (ap₂ (λ i j. number_bytes 0x39 i j ++ ((number_bytes 0x35 (old-at-After-put_number-i c).x (new-at-After-put_number-i c).x) ++ (number_bytes 0x36 (old-at-After-put_number-i c).y (new-at-After-put_number-i c).y))) e h)

whole-at-After-put_number-j : (c : After-put_number-j) → contact_bytes (old-at-After-put_number-j c) (new-at-After-put_number-j c) ≡ (number_bytes 0x39 c.bits_of.result c.bits_of-2.result) ++ ((number_bytes 0x35 (old-at-After-put_number-j c).x (new-at-After-put_number-j c).x) ++ (number_bytes 0x36 (old-at-After-put_number-j c).y (new-at-After-put_number-j c).y))
whole-at-After-put_number-j c =
    let o = (old-at-After-put_number-j c).id.0 in
    let v = (new-at-After-put_number-j c).id.0 in
    let f : SFits w32 o = search rules in
    let g : SFits w32 v = search rules in
    let e : c.bits_of.result ≡ bits_of o = rw (to_z-of_z w32 o f) at c.bits_of.ensures in
    let h : c.bits_of-2.result ≡ bits_of v = rw (to_z-of_z w32 v g) at c.bits_of-2.ensures in
    sym (ap₂ (λ i j. number_bytes 0x39 i j ++ ((number_bytes 0x35 (old-at-After-put_number-j c).x (new-at-After-put_number-j c).x) ++ (number_bytes 0x36 (old-at-After-put_number-j c).y (new-at-After-put_number-j c).y))) e h)

room : (c : After-bits_of-2) → c.args.at + length ((number_bytes 0x39 c.bits_of.result c.bits_of-2.result) ++ ((number_bytes 0x35 (old c).x (new c).x) ++ (number_bytes 0x36 (old c).y (new c).y))) ≤ length (buf c)
room c = rw (whole c) at c.requires

room-at-After-put_number-i : (c : After-put_number-i) → c.args.at + length ((number_bytes 0x39 c.bits_of.result c.bits_of-2.result) ++ ((number_bytes 0x35 (old-at-After-put_number-i c).x (new-at-After-put_number-i c).x) ++ (number_bytes 0x36 (old-at-After-put_number-i c).y (new-at-After-put_number-i c).y))) ≤ length (buf-at-After-put_number-i c)
room-at-After-put_number-i c = rw (whole-at-After-put_number-i c) at c.requires

room-at-After-put_number-j : (c : After-put_number-j) → c.args.at + length ((number_bytes 0x39 c.bits_of.result c.bits_of-2.result) ++ ((number_bytes 0x35 (old-at-After-put_number-j c).x (new-at-After-put_number-j c).x) ++ (number_bytes 0x36 (old-at-After-put_number-j c).y (new-at-After-put_number-j c).y))) ≤ length (buf-at-After-put_number-j c)
room-at-After-put_number-j c = rw (whole-at-After-put_number-j c) at c.requires

-- Where the id is written, and where x is.
one : (c : After-put_number-i) → (let k = c in
    Begun k.args.at c.put_number-i.result (number_bytes 0x39 k.bits_of.result k.bits_of-2.result) ((number_bytes 0x35 (old-at-After-put_number-i k).x (new-at-After-put_number-i k).x) ++ (number_bytes 0x36 (old-at-After-put_number-i k).y (new-at-After-put_number-i k).y)) (buf-at-After-put_number-i k) c.put_number-i.new.b)
one c = begins c.put_number-i.ensures.0 c.put_number-i.ensures.1 (room-at-After-put_number-i c)

one-at-After-put_number-j : (c : After-put_number-j) → (let k = c in
    Begun k.args.at c.put_number-i.result (number_bytes 0x39 k.bits_of.result k.bits_of-2.result) ((number_bytes 0x35 (old-at-After-put_number-j k).x (new-at-After-put_number-j k).x) ++ (number_bytes 0x36 (old-at-After-put_number-j k).y (new-at-After-put_number-j k).y)) (buf-at-After-put_number-j k) c.put_number-i.new.b)
one-at-After-put_number-j c = begins c.put_number-i.ensures.0 c.put_number-i.ensures.1 (room-at-After-put_number-j c)

two : (c : After-put_number-j) → (let p = c in let k = p in
    Begun p.put_number-i.result c.put_number-j.result (number_bytes 0x35 (old-at-After-put_number-j k).x (new-at-After-put_number-j k).x) (number_bytes 0x36 (old-at-After-put_number-j k).y (new-at-After-put_number-j k).y) p.put_number-i.new.b c.put_number-j.new.b)
two c = begins c.put_number-j.ensures.0 c.put_number-j.ensures.1 (one-at-After-put_number-j c).room

pub put_number-j-requires : goal.put_number-j-requires
put_number-j-requires c =
    let at = goal.at.put_number-j-requires c in
    omega (arith, length-append (number_bytes 0x35 (old at.After-bits_of-2).x (new at.After-bits_of-2).x) (number_bytes 0x36 (old at.After-bits_of-2).y (new at.After-bits_of-2).y), (one at.After-put_number-i).room)

pub put_number-requires : goal.put_number-requires
put_number-requires c = (two (goal.at.put_number-requires c).After-put_number-j).room

pub returns : goal.returns
returns c =
    let at = goal.at.returns c in
    let n = c.put_number in
    let first = one at.After-put_number-i in
    rw (whole at.After-bits_of-2) (n.ensures.0 ∙ (two at.After-put_number-j).ends ∙ first.ends, n.ensures.1 ∙ (two at.After-put_number-j).bytes ∙ first.bytes)
