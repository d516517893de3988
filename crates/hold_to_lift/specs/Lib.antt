-- When a hold-to-lift key lifts.
pub mod Key
