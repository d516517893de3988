-- Verdicts, modes and counts as the model's, the mode of a reader that lost track, and what is left of a run.
pub mod Seen
pub mod Lost
pub mod Runs
pub mod Marks
