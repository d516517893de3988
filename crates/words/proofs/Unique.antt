-- What the one promise of this crate settles: the state after the bytes. What was said is a stream's, and of that nothing is promised. The law is of the contract itself. Assumes nothing.
use Rattle.model.specs.Unique.{Gives}
use Rattle.pod.specs.Seen.{state_after}
use Rattle.words.proofs.feed.Reads as feed

pub feed_state : Gives feed.Learnt (λ κs r. r) (λ κs a. state_after a.1.0 a.1.1.0.now)
feed_state κs a r s e = e
