-- `replay::judged` answers as the model does at any place: past the last number no number is right. Assumes nothing.
use Rattle.std.proofs.Common.{ap, ◌∙◌, arith, rules}
use Rattle.std.specs.Prelude.{Err}
use Rattle.model.specs.Recorder.{AllBytes}
use Rattle.replay.specs.Heard.{past_last}
use Rattle.replay.proofs.Laws.{past-last}
use Rattle.replay.proofs.judged.Goals as goal

pub returns-then-place-gt-LAST_NUMBER : goal.returns-then-place-gt-LAST_NUMBER
returns-then-place-gt-LAST_NUMBER c =
    let a = c.args in
    let bytes : AllBytes a.piece.now = λ i. omega (arith, c.type_inv.piece i) in
    ap Err (c.past.ensures ∙ ap past_last c.read_block.ensures.answer)
    ∙ past-last 0 a.place a.piece.now bytes (search rules)
