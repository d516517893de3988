-- What the promise of `feed` settles.
pub mod Unique
