-- `send::put_number` writes a changed number's record. Assumes nothing.
use mathlib.Core.Path.{◌≡◌, sym, ap}
use mathlib.Core.Bool.{false}
use Prim.Native.Nat.{◌+◌, ◌≤◌}
use native.Mathlib.Omega.{arith}
use lib.Dec.{eqb}
use lib.ListN.{length}
use borrow.Author.Tests.{eq-eqb, ne_eqb}
use Rattle.model.specs.Records.{record_bytes}
use Rattle.records.proofs.Over.{record_length, lay_nil, lay_put}
use Rattle.send.specs.declared.Change.{Change}
use Rattle.send.proofs.Parts.{record_room}
use Rattle.send.proofs.put_number.Goals.{Else-c}
use Rattle.send.proofs.put_number.Goals as goal

abbrev change : Else-c → Change
change e = e.args.c

differs : (e : Else-c) → eqb (change e).old (change e).new ≡ false
differs e = ne_eqb (change e).old (change e).new e.if-c.false

eight : (e : Else-c) → length (record_bytes (change e).kind (change e).code (change e).new) ≡ 8
eight e = record_length (change e).kind (change e).code (change e).new

room : (e : Else-c) → e.args.at + 8 ≤ length e.args.b.now
room e = let h = rw (differs e) at e.requires in omega (arith, h, eight e)

pub returns-then-c : goal.returns-then-c
returns-then-c c =
    let a = c.args in
    rw (eq-eqb _ _ c.if-c.true) (omega arith, sym (lay_nil a.at a.b.now))

pub put-requires : goal.put-requires
put-requires c =
    let e = c in
    record_room e.args.at e.args.b.now (room (goal.at.put-requires e).Else-c)

pub returns : goal.returns
returns c =
    let here = (goal.at.returns c).Else-c in
    let p = c in
    let e = p in
    let a = e.args in
    let k = change here in
    rw (differs here) (
      sym (ap (λ n. a.at + n) (eight here)),
      lay_put a.at (record_bytes k.kind k.code k.new) a.b.now p.put.new.b (omega (arith, room here)) p.put.ensures,
    )
