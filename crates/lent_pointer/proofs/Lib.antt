-- The laws behind what an old display is told of tables in lent bytes.
--
-- Unique: each contract of a function that other crates call leaves one answer.
pub mod Unique
