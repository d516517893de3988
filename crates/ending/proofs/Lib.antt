-- What the promise of `lose` settles.
pub mod Unique
