-- The laws of slots, setups and tables in lent bytes; the crates above cite them.
--
-- Slots: words, slots and setups there and back, what stays when others are stored, and what fits.
-- Tables: slots one behind the other there and back, one of them stored, and what fits.
-- Unique: each promise leaves one answer, and one content of the lent bytes.
pub mod Slots
pub mod Tables
pub mod Unique
