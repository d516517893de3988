-- `commands::read` answers as the model does: nothing from the end on, unfinished where a command is cut short, else the command judged. Assumes
-- nothing.
use mathlib.Core.Path.{◌≡◌, sym, ap, ap₂, ◌∙◌}
use Prim.Native.Nat.{◌+◌, ◌-◌, ◌≤◌, ◌<◌}
use lib.ListN.{length, drop}
use Rattle.model.specs.Commands.{length_of, judged}
use Rattle.model.proofs.CommandReads.{kind_at, read_none, read-cut, read_whole}
use Rattle.records.proofs.Over.{rest_all}
use Rattle.commands.specs.declared.ReadAnswer.{ReadAnswer}
use Rattle.commands.specs.Seen.{held_answer, held_read}
use Rattle.commands.proofs.Answers.{answers}
use Rattle.commands.proofs.read.Goals as goal

pub returns-then-bytes-at : goal.returns-then-bytes-at
returns-then-bytes-at c =
    let a = c.args in
    answers a.bytes.now a.at _ (c.answered.ensures ∙ sym (ap held_read (read_none a.bytes.now a.at c.if-bytes-at.true)))

pub returns-then-bytes-at-2 : goal.returns-then-bytes-at-2
returns-then-bytes-at-2 c =
    let length-is : c.length_of-length.result ≡ length_of (kind_at c.args.bytes.now c.args.at) = c.length_of-length.ensures ∙ ap length_of c.kind_of-kind.ensures in
    let few : length c.args.bytes.now - c.args.at < length_of (kind_at c.args.bytes.now c.args.at) = rw (← length-is) c.if-bytes-at-2.true in
    answers c.args.bytes.now c.args.at _ (c.answered-then-bytes-at-2.ensures ∙ sym (ap held_read (read-cut c.args.bytes.now c.args.at c.if-bytes-at.false few)))

pub returns : goal.returns
returns c =
    let length-is : c.length_of-length.result ≡ length_of (kind_at c.args.bytes.now c.args.at) = c.length_of-length.ensures ∙ ap length_of c.kind_of-kind.ensures in
    let many : length_of (kind_at c.args.bytes.now c.args.at) ≤ length c.args.bytes.now - c.args.at = rw (← length-is) c.if-bytes-at-2.false in
    let says : c.judge-answer.result ≡ held_answer (judged (kind_at c.args.bytes.now c.args.at) (drop c.args.at c.args.bytes.now)) =
    c.judge-answer.ensures ∙ ap₂ (λ q l. held_answer (judged q l)) c.kind_of-kind.ensures (rest_all c.args.at c.args.bytes.now) in
    answers c.args.bytes.now c.args.at _
    (c.answered-2.ensures
    ∙ ap₂ {C = ReadAnswer} (λ a n. record { answer = a; next = c.args.at + n }) says length-is
    ∙ sym (ap held_read (read_whole c.args.bytes.now c.args.at c.if-bytes-at.false many)))
