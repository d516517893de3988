-- `recorder::lay_blocks` answers as the model's call does, refusal by refusal. Assumes nothing.
use mathlib.Core.Path.{◌≡◌, sym, ap, ◌∙◌}
use mathlib.Core.Bool.{false}
use Prim.Native.Nat.{◌*◌, ◌%◌}
use native.Mathlib.Omega.{arith}
use lib.ListN.{length}
use borrow.Author.Tests.{eq-eqb, ne_eqb}
use Rattle.model.specs.Records.{lay}
use Rattle.model.specs.Calls.{room_for}
use Rattle.model.specs.Recorder.{recording, joined, lay_need, blocks_for, have_laid, block_length}
use Rattle.common.specs.declared.Verdict.TheVariants.{NoRoom}
use Rattle.recorder.specs.Seen.{laid_from, not_laid}
use Rattle.recorder.proofs.Outcome.{lay-value, lay_no_room, lay_ragged, lay_done, unnumbered, past, numbers, past_end, too_short, room-is}
use Rattle.recorder.proofs.lay_blocks.Goals.{then-buf-at-via-then-buf-at, then-buf-at-via-else-buf-at+then-buf-at-2}
use Rattle.recorder.proofs.lay_blocks.Goals as goal

pub returns-then-not-between : goal.returns-then-not-between
returns-then-not-between c =
    let a = c.args in
    let said = lay-value a.number a.events.now a.at a.buf.now (unnumbered a.number a.events.now (sym c.between.ensures ∙ c.if-not-between.true)) in
    record { answer = c.not_laid.ensures ∙ said.answer; buffer = said.buffer }

pub returns-then-after : goal.returns-then-after
returns-then-after c =
    let a = c.args in
    let said = lay-value a.number a.events.now a.at a.buf.now (past a.number a.events.now (omega arith)) in
    record { answer = c.not_laid-then-after.ensures ∙ said.answer; buffer = said.buffer }

pub returns-then-buf-at : goal.returns-then-buf-at
returns-then-buf-at c =
    let a = c.args in
    let need = lay_need a.events.now in
    let n = length a.buf.now in
    let all = numbers a.number a.events.now (sym c.between.ensures ∙ c.if-not-between.false) (omega arith) in
    let count : c.div_ceil-blocks.result ≡ blocks_for (length a.events.now) = omega (arith, c.div_ceil-blocks.ensures) in
    let short : room_for need a.at n ≡ false =
    elim c.then-buf-at.branch [
      | then-buf-at-via-then-buf-at w ↦ past_end need a.at n w.if-buf-at.true
      | then-buf-at-via-else-buf-at+then-buf-at-2 w ↦ too_short need a.at n w.if-buf-at.false (omega arith)
    ] in
    let said = lay_no_room a.number a.events.now a.at a.buf.now all short in
    record {
      answer = c.not_laid-then-buf-at.ensures ∙ ap (λ k. not_laid NoRoom a.number (block_length * k)) count ∙ said.answer;
      buffer = said.buffer;
    }

pub returns-then-events-ne0 : goal.returns-then-events-ne0
returns-then-events-ne0 c =
    let a = c.args in
    let all = numbers a.number a.events.now (sym c.between.ensures ∙ c.if-not-between.false) (omega arith) in
    let room = room-is (lay_need a.events.now) a.at (length a.buf.now) (omega arith) (omega arith) in
    let said = lay_ragged a.number a.events.now a.at a.buf.now all room (ne_eqb (length a.events.now % 8) 0 c.if-events-ne0.true) in
    record { answer = c.not_laid-then-events-ne0.ensures ∙ said.answer; buffer = said.buffer }

pub returns : goal.returns
returns c =
    let a = c.args in
    let all = numbers a.number a.events.now (sym c.between.ensures ∙ c.if-not-between.false) (omega arith) in
    let room = room-is (lay_need a.events.now) a.at (length a.buf.now) (omega arith) (omega arith) in
    let said = lay_done a.number a.events.now a.at a.buf.now all room (eq-eqb (length a.events.now % 8) 0 c.if-events-ne0.false) in
    let laid = lay a.at (joined (recording a.number a.events.now)) a.buf.now in
    let count : c.div_ceil-blocks.result ≡ blocks_for (length a.events.now) = omega (arith, c.div_ceil-blocks.ensures) in
    record {
      answer = ap (λ n. laid_from (have_laid a.number n)) count ∙ said.answer;
      buffer = ◌∙◌ {b = laid} c.put_blocks.ensures said.buffer;
    }
