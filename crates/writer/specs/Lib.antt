-- How the writer's types are seen by the model.
pub mod Seen
