-- A frame planned in the bytes of a table.
pub mod InPlace
