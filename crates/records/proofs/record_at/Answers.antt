-- `records::record_at` reads the eight bytes at a position. Assumes nothing.
use Rattle.records.proofs.record_at.Goals as goal

pub returns : goal.returns
returns c = rw (c.join32-value.ensures, c.join16-code.ensures, c.join16-kind.ensures)
