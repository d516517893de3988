-- The pairing's laws.
-- Sets: sets of new contacts as numbers, beside the model's lists.
-- Reach: the loop over the choices of one cell.
-- Offering: the five offers of one old contact.
-- Rows: one row of costs made in place.
-- Filled: the tables hold the model's costs and choices.
-- Walked: the walk through them is the best pairing.
-- Marks: what a pairing holds, number by number.
-- Laid: an array that is filled from the front.
-- Lefts: the contacts left over, one after the other.
-- Placing: the contact of each slot, slot by slot.
-- Promises: what is answered is the best of all pairings.
-- Unique: the promises leave no choice.
pub mod Sets
pub mod Reach
pub mod Offering
pub mod Rows
pub mod Filled
pub mod Walked
pub mod Marks
pub mod Laid
pub mod Lefts
pub mod Placing
pub mod Promises
pub mod Unique
