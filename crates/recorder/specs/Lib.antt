-- How the recorder's structs are seen as the model's values, and back, which its promises cite; and what a host does with a recording.
pub mod Seen
pub mod Host
