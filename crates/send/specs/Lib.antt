-- What is sent, as bytes.
pub mod Sent
pub mod Told
