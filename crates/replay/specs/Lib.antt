-- What the program makes of a piece of a recording, which its promises cite.
pub mod Heard
