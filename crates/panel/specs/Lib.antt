-- How the code's types are seen by the model, and what a walk over a state's table tells.
pub mod Seen
pub mod Judged
