-- The promise of the frame's judge leaves no choice: the law is of the contract itself. Assumes nothing.
use mathlib.Core.Path.{sym, ◌∙◌}
use Rattle.model.specs.Unique.{OneAnswer}
use Rattle.frame.proofs.row_ok.Reads as row_ok

pub row_ok_one : OneAnswer row_ok.Learnt
row_ok_one κs a r q s t e g = e ∙ sym g
