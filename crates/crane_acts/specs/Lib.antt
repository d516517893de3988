-- The cranes' acts as the model's.
pub mod Seen
