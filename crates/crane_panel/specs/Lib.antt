-- How the cranes' types are seen by the model.
pub mod Seen
