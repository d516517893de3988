-- The laws of the lent devices: what the recorder's calls answer (Made), numbers that a report's types hold (Fits), what writing a report answers
-- (Written), that a report comes back from its numbers (Back), and that the promises leave no choice (Unique).
pub mod Made
pub mod Fits
pub mod Written
pub mod Back
pub mod Unique
