-- What the program makes of a piece: the laws that its promises need.
pub mod Laws
