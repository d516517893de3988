-- The laws behind a run in place.
--
-- Copied: one table's bytes copied over the other's, byte by byte.
-- Words: one number of a pending slot stored where it lies.
-- Runs: what the loop keeps.
-- Back: two tables fix the bytes that hold them.
-- Unique: the promise leaves one answer, and one pair of tables.
pub mod Copied
pub mod Words
pub mod Runs
pub mod Back
pub mod Unique
