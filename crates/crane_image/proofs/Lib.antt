-- The laws behind the image of a crane's load.
-- Images: its rows one by one, the table as it is filled, and a row of four numbers of a lent run.
pub mod Images
