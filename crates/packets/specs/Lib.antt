-- What the code holds of a type A frame as the model's, and the walk over its records.
pub mod Seen
pub mod Walk
