-- `records::word_at` reads the four bytes at a position. Assumes nothing.
use Rattle.records.proofs.word_at.Goals as goal

pub returns : goal.returns
returns c = c.join32.ensures
