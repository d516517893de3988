-- What the key's promise is for.
pub mod Safe
