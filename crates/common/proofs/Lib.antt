-- The laws of what has no shape.
-- Signs: signed numbers by their bits and signs, and tests joined.
-- Back: what is seen of a verdict or a mode and held again is the same, and the other way round.
-- Lost: a reader that lost track hears type 0 alone, stays lost, and its mode goes on event by event.
-- Tables: a table of any slots is good, or the same, record by record; the rest of a table is one record and the rest after it.
-- Apart: ids that fall on different bits of 64 differ; a walk over a table that compares only ids that meet finds whether live ids differ.
-- Runs: what is left of a run, event by event, at its end, and once track is lost.
-- Firsts: the first record skipped, by its number.
-- Turns: a turn of a reader's loop, one law for each arm.
-- Values: what a slot number, an id or another number asks, by the 32 bits that it came in.
-- Images: a load's image, its rows judged one after the other, the table filled row by row, and what a good image is.
-- Unique: the promises leave no choice.
pub mod Signs
pub mod Back
pub mod Lost
pub mod Tables
pub mod Apart
pub mod Runs
pub mod Firsts
pub mod Turns
pub mod Values
pub mod Images
pub mod Unique
