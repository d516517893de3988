-- The reader's tables as the model's, and how a run ends.
pub mod Seen
pub mod Runs
