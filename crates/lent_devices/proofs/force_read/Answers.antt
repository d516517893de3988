-- `lent_devices::force_read`: the library's answer as numbers. Assumes nothing.
use mathlib.Core.Path.{ap, ◌∙◌}
use Rattle.model.specs.Force.{read_at}
use Rattle.force.specs.declared.ReadAnswer.{ReadAnswer}
use Rattle.force.specs.Seen.{answer_seen}
use Rattle.force.proofs.Answers.{answer-seen}
use Rattle.lent_devices.specs.Sticks.{force_told}
use Rattle.lent_devices.proofs.force_read.Goals as goal

pub returns : goal.returns
returns c =
    let e = c.read-a.ensures.answer in
    let q = ap (λ (x : ReadAnswer). answer_seen x.answer) e ∙ answer-seen (read_at c.args.bytes.now c.args.at).answer in
    record { next = ap (λ (x : ReadAnswer). x.next) e; answer = c.force_told.ensures ∙ ap force_told q }
