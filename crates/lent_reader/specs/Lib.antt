-- A reader's state as it lies in lent bytes, and what each call over them promises.
pub mod Layout
pub mod Seen
pub mod Runs
