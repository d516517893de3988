-- The laws behind the sending.
--
-- Parts: the bytes of what is sent are those of its parts, of a slot's changed numbers one by one, and of a record each; parts laid one after the other are laid as one.
-- Display: what an old display is told, as the model's events.
-- Unique: the contracts of `send_slots`, `send_touch` and `send_end` leave one answer and one buffer.
pub mod Parts
pub mod Display
pub mod Unique
