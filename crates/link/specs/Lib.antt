-- What the calls promise, as claims of what is handed in and answered; what a host does, call after call; what K1 asks of the cranes' reader; what
-- K5 asks of one that takes pieces; what K6 asks of the writer; what K14 asks of a long shift; what K12's call promises; and what a C host does
-- over lent bytes (K11).
pub mod Promises
pub mod Host
pub mod Shift
pub mod Pointer
pub mod Cranes
pub mod Pieces
pub mod Long
pub mod Anonymous
pub mod Hosts
