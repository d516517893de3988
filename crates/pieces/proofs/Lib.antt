-- The laws behind the calls of a reader that takes pieces, and what their promises settle.
-- Laid: bytes laid over others, as left-over bytes in their places and as the record that was cut.
-- Held: what is seen of a state and held again is the state.
-- Runs: a run of a judged state over whole records, and two of them one after the other.
-- Promises: the state after each call.
-- Unique: any two answers that a promise allows are equal.
pub mod Laid
pub mod Held
pub mod Runs
pub mod Promises
pub mod Unique
