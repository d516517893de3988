-- The recorder's laws.
-- Laws: one byte more that is summed, tested or copied; the answer to a block by its enum.
-- Built: what is stored from 512 zeros on is the model's block.
-- Left: what is left to lay, block by block.
-- Outcome: what the calls that write answer, by their tests.
-- Promises: what the promises settle of one call.
-- Replay: what they settle for a host that records and reads back.
-- Unique: the promises leave no choice.
pub mod Laws
pub mod Built
pub mod Left
pub mod Outcome
pub mod Promises
pub mod Replay
pub mod Unique
