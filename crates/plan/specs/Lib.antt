-- What becomes of one slot, which rows leave theirs as it is, and a walk over all.
pub mod Row
pub mod Quiet
pub mod Walk
