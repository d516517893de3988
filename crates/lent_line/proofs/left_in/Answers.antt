-- `lent_line::left_in` reads the seven places. Assumes nothing.
use Rattle.lent_line.proofs.Laid.{left-read}
use Rattle.lent_line.proofs.left_in.Goals as goal

pub returns : goal.returns
returns c = let i = c in left-read i.args.b.now i.requires
