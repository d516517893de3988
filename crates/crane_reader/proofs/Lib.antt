-- The laws behind the calls of the cranes' reader, and what their promises settle.
-- Held: what is seen of a state and held again is the state, and what is held of a good one is seen again.
-- States: what a well-formed state gives, and a run by the mode that it finds.
-- Back: what is held of the model's answer to a question is seen again.
-- Promises: the number and the values of a question, and the state after a run.
-- Unique: any two answers that a promise allows are equal.
pub mod Held
pub mod States
pub mod Back
pub mod Promises
pub mod Unique
