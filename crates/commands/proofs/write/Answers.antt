-- `commands::write` answers as the model's call does, refusal by refusal. Assumes nothing.
use mathlib.Core.Path.{◌≡◌, sym, ap, ◌∙◌}
use mathlib.Core.Bool.{Bool, true}
use Prim.Native.Nat.{ℕ, ◌+◌, ◌-◌, ◌≤◌}
use native.Mathlib.Omega.{arith}
use lib.Dec.{leb}
use lib.ListN.{length}
use borrow.Author.Tests.{leb-true}
use Rattle.model.specs.Calls.{room_for}
use Rattle.model.specs.Commands.{command_bytes, size_of}
use Rattle.model.proofs.Bools.{and_left, and_right}
use Rattle.common.specs.declared.Verdict.TheVariants as W
use Rattle.records.proofs.Over.{lay_put}
use Rattle.commands.specs.Seen.{seen}
use Rattle.commands.proofs.Outcome.{refused-state, refused-room, refused-command, written}
use Rattle.commands.proofs.write.Goals as goal

-- The test of the room is for the command's bytes,
room_is : (at n : ℕ) {need size : ℕ} {r t : Bool} → need ≡ size → r ≡ room_for need at n → r ≡ t → room_for size at n ≡ t
room_is at n e h q = sym (h ∙ ap (λ need. room_for need at n) e) ∙ q

-- from the position to the end.
fits : (size at n : ℕ) → room_for size at n ≡ true → at + size ≤ n
fits size at n h =
    let first = leb at n in
    let second = leb size (n - at) in
    omega (arith, leb-true at n (and_left first second h), leb-true size (n - at) (and_right first second h))

pub returns-then-not-well_formed : goal.returns-then-not-well_formed
returns-then-not-well_formed c =
    let a = c.args in
    refused-state a.state a.command a.at a.buf.now (sym c.well_formed-2.ensures ∙ c.if-not-well_formed.true) _
    c.refused.ensures

pub returns-then-not-has_room : goal.returns-then-not-has_room
returns-then-not-has_room c =
    let a = c.args in
    refused-room a.state a.command a.at a.buf.now
    (sym c.well_formed-2.ensures ∙ c.if-not-well_formed.false)
    (room_is a.at (length a.buf.now) c.size_of-need.ensures c.has_room.ensures c.if-not-has_room.true) _
    (c.refused-then-not-has_room.ensures ∙ ap (λ n. record { verdict = W.NoRoom; state = a.state; need = n }) c.size_of-need.ensures)

pub returns-then-not-command_ok : goal.returns-then-not-command_ok
returns-then-not-command_ok c =
    let a = c.args in
    refused-command a.state a.command a.at a.buf.now
    (sym c.well_formed-2.ensures ∙ c.if-not-well_formed.false)
    (room_is a.at (length a.buf.now) c.size_of-need.ensures c.has_room.ensures c.if-not-has_room.false)
    (sym c.command_ok.ensures ∙ c.if-not-command_ok.true) _
    c.refused-then-not-command_ok.ensures

pub returns : goal.returns
returns c =
    let a = c.args in
    let room : room_for (size_of (seen a.command)) a.at (length a.buf.now) ≡ true =
    room_is a.at (length a.buf.now) c.size_of-need.ensures c.has_room.ensures c.if-not-has_room.false in
    written a.state a.command a.at a.buf.now
    (sym c.well_formed-2.ensures ∙ c.if-not-well_formed.false)
    room
    (sym c.command_ok.ensures ∙ c.if-not-command_ok.false) _ _
    c.state_after.ensures
    (lay_put a.at (command_bytes (seen a.command)) a.buf.now _ (omega (arith, fits (size_of (seen a.command)) a.at (length a.buf.now) room)) c.put.ensures)
