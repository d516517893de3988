-- `recorder::read_block` answers as the model does: its tests are the model's, and `judged` names them. Assumes nothing.
use mathlib.Core.Path.{sym, ap, ap₂, ◌∙◌}
use Prim.Native.Nat.{◌+◌, ◌*◌}
use native.Mathlib.Omega.{arith}
use lib.Dec.{eqb}
use Rattle.model.specs.Pod.{zeros}
use Rattle.model.specs.Recorder.{header_length, check_place, part}
use Rattle.model.proofs.Blocks.{short-refused}
use Rattle.common.proofs.Signs.{join}
use Rattle.recorder.specs.Seen.{held_read}
use Rattle.recorder.proofs.Laws.{tests_are, answered}
use Rattle.recorder.proofs.read_block.Goals as goal

pub returns-then-block-ne-BLOCK : goal.returns-then-block-ne-BLOCK
returns-then-block-ne-BLOCK c =
    let a = c.args in
    answered a.number a.block.now _ (ap held_read (sym (short-refused a.number a.block.now (λ e. omega arith))))

pub returns : goal.returns
returns c =
    let a = c.args in
    let p = a.block.now in
    let right = ap₂ eqb c.sum_of.ensures c.four_at.ensures in
    let expected = ap (λ m. eqb m a.number) c.four_at-2.ensures in
    let clear = join c.clear.ensures (c.clear-2.ensures ∙ ap (λ m. zeros (part (header_length + 8 * m) check_place p)) c.count_of-count.ensures) in
    answered a.number p _
    (c.judged.ensures ∙ ap held_read (tests_are a.number p _ _ _ _ c.if-block-ne-BLOCK.false right expected c.count_of-count.ensures clear))
