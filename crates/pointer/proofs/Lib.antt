-- The laws behind an old display's numbers.
--
-- Turns: a walk over ids and ranks, one record further.
-- Ranked: ranks by flags and their sums; what a walk knows that finds ranks good or not.
-- Idle: records past a panel's slots, which have no live contact.
-- Numbers: touch and tool by how many contacts are live, zeros, X and Y of the oldest contact.
-- Fates: what becomes of each record, by the ids before a frame and after it.
-- Kept: ranks stay while every id does.
-- Covered: whether every id stays, by the bits of the changed slots.
-- Onward: what moves, by the ids taken out of two tables.
-- Unique: each contract of a function that other crates call leaves one answer.
-- Tops: live ranks that are marked, and the test for gaps.
pub mod Turns
pub mod Tops
pub mod Ranked
pub mod Idle
pub mod Numbers
pub mod Fates
pub mod Kept
pub mod Covered
pub mod Onward
pub mod Unique
