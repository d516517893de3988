-- `LineState::fresh`: the reader's fresh answer, with nothing left over. Assumes nothing.
use mathlib.Core.Path.{ap}
use mathlib.Core.List.{[]}
use Rattle.model.specs.Pieces.{fresh_line_call, placed}
use Rattle.reader.specs.declared.FreshAnswer as R
use Rattle.pieces.specs.declared.FreshAnswer.{FreshAnswer}
use Rattle.pieces.proofs.LineState.fresh.Goals as goal

pub returns : goal.returns
unfolding fresh_line_call
returns c =
    ap {B = FreshAnswer} (λ (a : R.FreshAnswer). record { verdict = a.verdict; state = record { left = placed []; count = 0; reader = a.state } })
    c.fresh-made.ensures
