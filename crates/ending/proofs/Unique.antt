-- What the one promise of this crate settles: the reader after a loss. What was said is a stream's, and of that nothing is promised. The law is of the contract itself. Assumes nothing.
use Rattle.model.specs.Unique.{Gives}
use Rattle.model.specs.Panel.{base}
use Rattle.model.specs.Calls.{run_call}
use Rattle.model.specs.Recorder.{loss}
use Rattle.reader.specs.States.{seen, held}
use Rattle.ending.proofs.lose.Reads as lose

pub lose-state : Gives lose.Learnt (λ κs r. r) (λ κs a. held (run_call base (seen a.0) loss).state)
lose-state κs a r s e = e
