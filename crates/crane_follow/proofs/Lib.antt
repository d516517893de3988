-- The laws behind a crane's run; what holds of any reader's is in common.
-- Ends: the answers of the loop's ends.
pub mod Ends
