-- The laws behind the plan.
--
-- Still: a row that leaves its slot as it is is good since the slot is, begins nothing, and the slot stays.
-- Turn: a row that is good for a setup is plain; what a slot becomes by its fate; one row more is planned; no row is left.
-- Skipped: rows that are passed over leave what is to be judged and planned as it is.
-- Unique: the contracts of `first_loud` and `plan_frame` leave one answer each.
pub mod Still
pub mod Turn
pub mod Skipped
pub mod Unique
