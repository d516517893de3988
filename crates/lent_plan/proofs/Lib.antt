-- The laws behind the plan in place.
--
-- Bytes: slots of a table that lies in bytes, stored.
-- Passed: rows that are passed over up to the next loud one.
-- Turned: one slot more of a walk: what is told, and what is left to plan.
-- Unique: the contract of `plan_frame` leaves one answer, and one table where the frame's values are good.
pub mod Bytes
pub mod Passed
pub mod Turned
pub mod Unique
