-- The laws behind the tests of a lent table.
--
-- Gathered: what is gathered of records is an unused record's where each of them is unused.
-- Read: a slot that is read from the bytes is the table's; the table has all its records.
-- Unique: the contract of each public function leaves one answer.
pub mod Gathered
pub mod Read
pub mod Unique
