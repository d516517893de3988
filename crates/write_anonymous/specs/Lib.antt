-- The size that the program's promises cite.
pub mod Room
