-- The laws of the lent pod: its form (Forms), its places written out (Lists), what its calls answer (Steps),
-- commands as numbers and what writing one answers (Orders), that a state and its bytes come
-- back from each other (Back), and that the promises leave no choice (Unique).
pub mod Forms
pub mod Lists
pub mod Steps
pub mod Orders
pub mod Back
pub mod Unique
