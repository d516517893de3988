-- The laws behind the writer, and the demands said of its answers.
--
-- Back: a state that is seen and held again is that state.
-- States: a state is well formed if its tests pass, and what is known of one that is.
-- Outcome: the model's answer and buffer by the four tests; a refusal is the model's.
-- Events: what the code sends by the changed-slot number is what the model sends, in its order and bytes.
-- Accepted: what becomes of a good frame: no room, nothing changed, or written.
-- Quiet: a frame that leaves every slot as it is hands the state back.
-- Demands: refusals hand back, states stay well formed, live ids differ.
-- Unique: the contracts of `fresh` and `write` leave one answer and one buffer.
pub mod Back
pub mod States
pub mod Outcome
pub mod Events
pub mod Accepted
pub mod Quiet
pub mod Demands
pub mod Unique
