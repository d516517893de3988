-- Two tables in lent bytes, and how a run over records leaves them.
pub mod InPlace
