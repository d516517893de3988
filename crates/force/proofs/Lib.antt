-- The force stick's laws.
--   Bits: signed numbers and their bits, as the machine has them.
--   Answers: what is held of the model's answers is seen again.
--   Outcome: what a write promises, by the first test that fails.
-- Of the contracts themselves
--   Promises: what `read` settles: the place moves on, a reader of all packets ends, any packet is read, what a cut changes.
--   Packets: what `write` and `read` settle together: exact refusals, a written packet read back, one byte form, one altered byte.
--   Unique: the promises leave no choice.
pub mod Bits
pub mod Answers
pub mod Outcome
pub mod Promises
pub mod Packets
pub mod Unique
