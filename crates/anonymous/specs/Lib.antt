-- What the inner promises cite, and the frame that records make.
pub mod Held
pub mod Framed
