-- The laws behind a load's image.
-- Images: its rows judged one after the other, the table filled row by row, and what a good image is.
-- Unique: the promises leave no choice.
pub mod Images
pub mod Unique
