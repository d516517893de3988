-- The laws behind the line's reader over lent bytes.
-- Laid: the places of the bytes held, and a state laid over bytes part by part is laid there whole.
-- Calls: each call by value, stored and answered in numbers, is what the promise says.
-- Asked: a contact's numbers are small, so that each is a signed number too.
-- Back: what was stored is read again, and formed bytes are those of the state that they hold.
-- Unique: any two answers that a promise allows are equal.
pub mod Laid
pub mod Calls
pub mod Asked
pub mod Back
pub mod Unique
