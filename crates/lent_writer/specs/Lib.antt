-- A writer's state in lent bytes: where each number lies, what the calls over it answer, and the way in place.
pub mod Layout
pub mod Seen
pub mod InPlace
