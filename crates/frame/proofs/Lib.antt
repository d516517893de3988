-- The laws behind the judging of a row.
--
-- Ranges: a range is tested on a number's bits; what a frame may give is a range from the least; a kind of a contact is 1 to 2.
-- Unique: the contract of `row_ok` leaves one answer.
pub mod Ranges
pub mod Unique
