-- The laws behind the cranes' panel; what holds of any slots is in common.
--
-- Slots: a slot is good, or the same, number by number up to the first that fails.
-- Tables: a turn of a loop over a table, and a table by its parts.
-- Back: what is seen of a table or a setup and held again is that; and good records that are held are seen again.
-- Setups: the bounds that a good setup gives.
pub mod Slots
pub mod Tables
pub mod Back
pub mod Setups
