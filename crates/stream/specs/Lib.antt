-- What the promises of input cite.
pub mod Left
