-- The laws of what a record asks.
-- Unique: the promises leave no choice.
pub mod Unique
