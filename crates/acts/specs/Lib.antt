-- The code's acts as the model's.
pub mod Seen
