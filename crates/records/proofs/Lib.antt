-- Laws on bits and on buffers.
-- Bits: a number of 32 bits and its sign, either way round.
-- Over: bytes laid over the start of a buffer, or from a position on, and what stays.
-- RoundTrip: a record that was put is the record that is read.
-- Words: a record by its two words.
-- Unique: the promises leave no choice.
pub mod Bits
pub mod Over
pub mod RoundTrip
pub mod Words
pub mod Unique
