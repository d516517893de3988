-- The answers of the cranes' reader as the model's.
pub mod States
pub mod Seen
