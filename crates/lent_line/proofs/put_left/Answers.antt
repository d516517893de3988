-- `lent_line::put_left` stores the seven places and the 0 behind them. Assumes nothing.
use mathlib.Core.Path.{◌≡◌}
use lib.ListN.{length}
use Rattle.model.specs.Pieces.{places}
use Rattle.lent_line.proofs.Laid.{left-stored}
use borrow.Author.Rules.{rules}
use Rattle.lent_line.proofs.put_left.Goals.{Start}
use Rattle.lent_line.proofs.put_left.Goals as goal

whole : (c : Start) → length c.args.left ≡ places
whole c = search rules

pub returns : goal.returns
returns c = let a = c.args in left-stored a.left a.b.now (whole (goal.at.returns c).Start) c.requires
