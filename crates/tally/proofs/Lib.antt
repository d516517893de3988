-- The laws behind the tally.
--
-- Told: nothing is told of a table that stays; a slot that is set is told, and one that stays need not be; the others and the events by what is told.
-- Unique: each contract of a function that other crates call leaves one answer.
pub mod Told
pub mod Unique
