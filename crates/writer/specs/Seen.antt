-- The writer's state and answers as the model's, and back. The promises of `fresh` and `write` go through it. Assumes nothing.
use Rattle.std.specs.Prelude.{Bool, true, false, List, ℕ, replicate}
use Rattle.model.specs.Panel.{records}
use Rattle.model.specs.States as M
use Rattle.model.specs.Pointing as P
use Rattle.common.specs.declared.Verdict.{Verdict}
use Rattle.common.specs.declared.Verdict.TheVariants.{Accepted, NoRoom}
use Rattle.common.specs.declared.SlotNumber.{SlotNumber}
use Rattle.panel.specs.declared.Slot.{Slot}
use Rattle.panel.specs.declared.Setup.{Setup}
use Rattle.panel.specs.Seen.{table_of, table_from, setup_of, setup_from}
use Rattle.common.specs.Seen.{verdict_from}
use Rattle.pointer.specs.declared.Moved.{Moved}
use Rattle.pointer.specs.Seen.{pointer_from, pointing_of}
use Rattle.writer.specs.declared.WriterState.{WriterState}
use Rattle.writer.specs.declared.FreshWriter.{FreshWriter}
use Rattle.writer.specs.declared.Written.{Written}
use Rattle.writer.specs.declared.Own.{Own}

-- A writer without its option: the setup, the table, the current slot and the counter.
abbrev pub plain : WriterState → M.WriterState
plain s = record { setup = setup_of s.setup; writer = record { table = table_of s.table; current = s.current.0; counter = s.counter } }

-- A writer's state, whatever it holds.
abbrev pub seen : WriterState → P.PointerState
seen s = record { on = s.pointer; base = plain s; pointing = pointing_of s.ranks s.told }

-- The state of such a record; what is seen of a state and held again is the state (proofs/Back).
abbrev pub held : P.PointerState → WriterState
held s = record {
  table = table_from s.base.writer.table;
  ranks = s.pointing.ranks;
  setup = setup_from s.base.setup;
  current = record { 0 = s.base.writer.current };
  counter = s.base.writer.counter;
  told = pointer_from s.pointing.last;
  pointer = s.on;
}

-- The answer of a fresh writer.
abbrev pub fresh_from : P.FreshPointer → FreshWriter
fresh_from a = record { state = held a.state; verdict = verdict_from a.verdict }

-- The answer of a write.
abbrev pub written_from : P.PointerWritten → Written
written_from a = record { state = held a.state; count = a.count; need = a.need; changed = a.changed; verdict = verdict_from a.verdict }

-- A refused frame's answer.
abbrev pub not_written_by : Verdict → WriterState → ℕ → Written
not_written_by v s need = record { state = s; count = 0; need = need; changed = 0; verdict = v }

-- An accepted frame's answer.
abbrev pub written_by : WriterState → ℕ → ℕ → Written
written_by s count changed = record { state = s; count = count; need = 0; changed = changed; verdict = Accepted }

-- The answer to a frame that changes nothing, by whether there is room for no bytes.
abbrev pub still_by : WriterState → Bool → Written
still_by s true = written_by s 0 0
still_by s false = not_written_by NoRoom s 0

-- ---- a state's parts

-- Nothing ranked, nothing told.
abbrev pub unmoved_all : Moved
unmoved_all = record { ranks = replicate records 0; told = record { x = 0; y = 0; tool = 0; touch = 0 } }

-- A state's ranks and what it told.
abbrev pub last_of : WriterState → Moved
last_of s = record { ranks = s.ranks; told = s.told }

-- A state of its parts.
abbrev pub made_of : List Slot → Moved → Own → WriterState
made_of t m o = record { table = t; ranks = m.ranks; setup = o.setup; current = o.current; counter = o.counter; told = m.told; pointer = o.pointer }

-- The parts but for its table, its ranks and what it told.
abbrev pub own_of : Setup → SlotNumber → ℕ → Bool → Own
own_of u c n on = record { setup = u; current = c; counter = n; pointer = on }

-- With another current slot.
abbrev pub with_last : Own → SlotNumber → Own
with_last o c = record { setup = o.setup; current = c; counter = o.counter; pointer = o.pointer }

-- An accepted frame's answer, by the parts of its state.
abbrev pub taken_by : List Slot → Moved → Own → ℕ → ℕ → Written
taken_by t m o count changed = written_by (made_of t m o) count changed
