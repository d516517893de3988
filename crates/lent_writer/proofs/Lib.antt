-- The laws behind the writer over lent bytes.
--
-- Forms: bytes are a state's by their form, test by test.
-- Stored: what is stored part by part is stored as a whole.
-- Back: bytes to a state and back, a state to bytes and back, and what is stored in place.
-- Accepts: what is known of an accepted answer.
-- Told: what a call tells, from the answer by value.
-- Outcomes: what becomes of a frame in place, where the option is off.
-- Unique: the contracts of the three calls leave one number, one state, one answer and one buffer.
pub mod Forms
pub mod Stored
pub mod Back
pub mod Accepts
pub mod Told
pub mod Outcomes
pub mod Unique
