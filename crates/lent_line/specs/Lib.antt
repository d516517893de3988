-- The state of a line's reader as it lies in lent bytes, and what each call over them promises.
pub mod Layout
pub mod Seen
