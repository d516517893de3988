-- The tables of the cranes' reader as the model's, and how a run ends.
pub mod Seen
pub mod Runs
