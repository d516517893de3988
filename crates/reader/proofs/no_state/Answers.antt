-- `reader::no_state`: zeros and mode following. Assumes nothing.
use Rattle.reader.proofs.no_state.Goals as goal

pub returns : goal.returns
returns c = rw c.zero_table-t.ensures
