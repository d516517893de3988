-- `force::write` answers as the model's call does, refusal by refusal. Assumes nothing.
use mathlib.Core.Path.{◌≡◌, sym, ◌∙◌}
use mathlib.Core.Bool.{true}
use Prim.Native.Nat.{ℕ, ◌+◌, ◌-◌, ◌≤◌}
use native.Mathlib.Omega.{arith}
use lib.Dec.{leb}
use borrow.Author.Tests.{leb-true}
use Rattle.model.specs.Calls.{room_for}
use Rattle.model.specs.Force.{stick_bytes, packet_of}
use Rattle.model.proofs.Bools.{and_left, and_right}
use Rattle.records.proofs.Over.{lay_put}
use Rattle.force.specs.Seen.{seen}
use Rattle.force.proofs.Outcome.{refused-value, refused-room, written}
use Rattle.force.proofs.write.Goals as goal

-- There is room from the position to the end.
fits : (at n : ℕ) → room_for stick_bytes at n ≡ true → at + stick_bytes ≤ n
fits at n h =
    let first = leb at n in
    let second = leb stick_bytes (n - at) in
    omega (arith, leb-true at n (and_left first second h), leb-true stick_bytes (n - at) (and_right first second h))

pub returns-then-not-report_ok : goal.returns-then-not-report_ok
returns-then-not-report_ok c =
    let a = c.args in
    refused-value a.report a.at a.buf.now (sym c.report_ok.ensures ∙ c.if-not-report_ok.true)

pub returns-then-not-has_room : goal.returns-then-not-has_room
returns-then-not-has_room c =
    let a = c.args in
    refused-room a.report a.at a.buf.now (sym c.report_ok.ensures ∙ c.if-not-report_ok.false) (sym c.has_room.ensures ∙ c.if-not-has_room.true)

pub returns : goal.returns
returns c =
    let a = c.args in
    let room = sym c.has_room.ensures ∙ c.if-not-has_room.false in
    written a.report a.at a.buf.now (sym c.report_ok.ensures ∙ c.if-not-report_ok.false) room _
    (lay_put a.at (packet_of (seen a.report)) a.buf.now _ (omega (arith, fits a.at _ room)) c.put.ensures)
