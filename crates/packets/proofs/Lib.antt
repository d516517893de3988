-- The laws behind the reading of a type A frame.
--
-- Heads: what the model hears in a record by its head.
-- Steps: a packet by which of its numbers were told.
-- Walks: the walk in one pass is the model's reading.
-- Turns: what the loop knows after so many records, and what a record changes of it.
-- Held: what an answer holds of up to five contacts is all of them.
-- Unique: the promises leave no choice.
pub mod Heads
pub mod Steps
pub mod Walks
pub mod Turns
pub mod Held
pub mod Unique
