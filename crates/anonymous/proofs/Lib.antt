-- The laws that the proofs of this crate stand on.
--
-- Gathered: the contacts of a table, record by record.
-- Ranges: where the contacts of a good table and of a judged frame are.
-- Frames: the rows of a frame, slot by slot.
-- Places: the number of each record's contact, and the rows by them.
-- Outcome: the model's answer and buffer by the five tests; the frame that is handed on.
-- Landed: the laws of `write` as they landed.
-- Unique: the contracts of `read_frame` and `write` leave one answer and one buffer.
pub mod Gathered
pub mod Ranges
pub mod Frames
pub mod Places
pub mod Outcome
pub mod Landed
pub mod Unique
