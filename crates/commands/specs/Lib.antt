-- What the promises of the commands cite of their own: how their structs are seen as the model's values, and back. Assumes nothing.
pub mod Seen
