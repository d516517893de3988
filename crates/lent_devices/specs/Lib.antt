-- The calls of the recorder (Blocks) and of the force stick (Sticks) for a host that has every answer as numbers.
pub mod Blocks
pub mod Sticks
