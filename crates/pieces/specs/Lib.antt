-- A line's state and its answers as the model's.
pub mod Seen
