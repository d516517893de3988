-- `crane_reader::run_refused`: the state as it came in, and zeros. Assumes nothing.
use Rattle.common.proofs.Back.{none_counted}
use Rattle.crane_reader.proofs.run_refused.Goals as goal

pub returns : goal.returns
returns c = rw (none_counted _ c.default.ensures)
