-- The laws behind a run.
-- Agree: which slots may differ between the shown and the pending table.
-- Kept: what the loop keeps, and how each arm keeps it or ends the run.
-- Ends: the answers of the loop's ends.
-- Unique: the promises leave no choice.
pub mod Agree
pub mod Ends
pub mod Kept
pub mod Unique
