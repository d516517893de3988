-- What the walk over a lent table's slots tells.
pub mod Judged
