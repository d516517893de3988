-- What the force stick's promises cite of their own: how its structs are seen as the model's values, and back. Assumes nothing.
pub mod Seen
