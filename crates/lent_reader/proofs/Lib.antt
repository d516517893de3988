-- The laws behind the reader over lent bytes.
-- Laid: a state laid over bytes part by part is laid there whole.
-- Stored: what is stored by the verdict, and what a good state's bytes need.
-- Calls: each call by value, stored and answered in numbers, is what the promise says.
-- Asked: a contact's numbers are small, so that each is a signed number too.
-- Back: what was stored is read again, and formed bytes are those of the state that they hold.
-- Judged: the tests of a state where it lies.
-- InPlace: a run on it there leaves the bytes of the model's next state.
-- Fits: a good state has room in its bytes, so that calls over bytes go on as the model's.
-- Unique: any two answers that a promise allows are equal.
pub mod Laid
pub mod Stored
pub mod Calls
pub mod Asked
pub mod Back
pub mod Judged
pub mod InPlace
pub mod Fits
pub mod Unique
