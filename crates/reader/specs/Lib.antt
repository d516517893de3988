-- The reader's answers as the model's.
pub mod States
pub mod Seen
