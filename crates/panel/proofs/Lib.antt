-- The laws behind the panel's functions; other crates cite them too.
--
-- Slots: two tests of a number that are asked in other words than the model's.
-- Tables: a table is good, or the same, record by record; the rest of a table is one record and the rest after it.
-- Back: what is seen of a table or a setup and held again is that; and good records that are held are seen again.
-- Setups: the bounds that a good setup gives.
-- Unique: each contract of a function that other crates call leaves one answer.
pub mod Slots
pub mod Tables
pub mod Back
pub mod Setups
pub mod Unique
