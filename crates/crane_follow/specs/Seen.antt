-- The parts that a crane's run works on as the model's reader. Assumes nothing.
use Rattle.std.specs.Prelude.{List, ℕ}
use Rattle.model.specs.Reader as R
use Rattle.crane_panel.specs.Seen.{table_of}
use Rattle.crane_panel.specs.declared.Slot.{Slot}

-- The machine's reader, of the parts that the code holds.
abbrev pub reader_of : List Slot → List Slot → ℕ → R.Mode → R.Reader
reader_of s p c m = record { shown = table_of s; pending = table_of p; current = c; mode = m }
