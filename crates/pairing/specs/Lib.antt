-- What the pairing's inner promises cite of their own: sets of new contacts as numbers, and the tables that are filled. Assumes nothing.
pub mod Cells
