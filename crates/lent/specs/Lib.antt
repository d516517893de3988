-- Slots, setups and tables as they lie in lent bytes.
pub mod Lent
