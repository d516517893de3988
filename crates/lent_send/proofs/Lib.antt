-- The laws behind the sending from lent tables and the keeping.
--
-- Slots: a slot of a lent table is what lies at its place.
-- Kept: a table whose changed slots are stored one by one becomes the new one, and its bytes with it.
-- Unique: the contracts of `send_slots` and `keep` leave one answer and one buffer.
pub mod Slots
pub mod Kept
pub mod Unique
