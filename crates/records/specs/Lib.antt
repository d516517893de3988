-- A record as the model's event.
pub mod Seen
