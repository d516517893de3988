-- What is told of the slots that changed.
pub mod Told
