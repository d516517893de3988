-- How the display's numbers are seen by the model, what becomes of a record by its ids, and how ranks are marked and summed up.
pub mod Seen
pub mod Marks
pub mod Moved
