-- The laws of the commands.
--   Answers: what is held of the model's commands and answers is seen again.
--   Outcome: what a write promises, by the first test that fails.
-- Of the contracts themselves
--   Promises: what `read` settles: the place moves on past the whole command, a reader of all commands ends, what comes later.
--   Back: what `write` and `read` settle together: exact refusals, the pod's state, a written command read back, one byte form.
--   Lists: commands written one after the other read back as the list.
--   Unique: the promises leave no choice.
pub mod Answers
pub mod Outcome
pub mod Promises
pub mod Back
pub mod Lists
pub mod Unique
