-- `crane_reader::load_accepted`: the answer of an accepted load. Assumes nothing.
use Rattle.crane_reader.proofs.load_accepted.Goals as goal

pub returns : goal.returns
returns c = rw c.image_table-t.ensures
