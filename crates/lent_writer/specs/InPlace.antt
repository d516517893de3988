-- The way in place: what each step is given and what it leaves. Cited by the contracts of the inner functions. Assumes nothing.
use Rattle.std.specs.Prelude.{◌≡◌, true, cond, List, ◌++◌, ℕ, ◌+◌, ◌-◌, ◌*◌, ◌^◌, ◌<◌, ◌≤◌, eqb, ℤ, length, take, drop}
use Rattle.std.specs.Int.Bits.{bit_and}
use Rattle.std.specs.Int.Count.{ones}
use Rattle.model.specs.Panel.{base, per_slot, records}
use Rattle.model.specs.Records.{low_bytes, lay}
use Rattle.model.specs.Sending as M
use Rattle.model.specs.Sending.{changed_mask}
use Rattle.model.specs.Pointer.{emulated}
use Rattle.model.specs.Pointing.{pointer_good}
use Rattle.panel.specs.declared.Slot.{Slot}
use Rattle.panel.specs.Seen.{table_of}
use Rattle.plan.specs.Quiet.{FirstLoud}
use Rattle.tally.specs.declared.Changed.{Changed}
use Rattle.pointer.specs.declared.Moved.{Moved}
use Rattle.pointer.specs.Seen.{pointer_of}
use Rattle.pointer.specs.Moved.{MovingIf, MovesBy}
use Rattle.send.specs.Sent.{bytes_sent, sent_by}
use Rattle.send.specs.Told.{touch_bytes, end_bytes}
use Rattle.writer.specs.declared.WriterState.{WriterState}
use Rattle.writer.specs.Seen.{seen, last_of}
use Rattle.lent.specs.Lent.{table_size, table_in}
use Rattle.lent_writer.specs.declared.Telling.{Telling}
use Rattle.lent_writer.specs.Layout.{state_size, option_at, x_at, y_at, table_at, ranks_at}
use Rattle.lent_writer.specs.Seen.{byte_at, formed, told_in, unpacked, head_bytes}

-- Bytes of a state, by their form and their size.
pub record InForm (b : List ℕ) : Type 0 where
  pub formed : formed b ≡ true
  pub size : length b ≡ state_size

-- And of a good one.
pub record GoodForm (b : List ℕ) : Type 0 where
  pub bytes : InForm b
  pub good : pointer_good base (seen (unpacked b)) ≡ true

-- A frame of the panel's size for a good state of such bytes, whose first row that does not leave its slot as it is is that of slot `from`.
pub record Loud (b : List ℕ) (f : List ℤ) (from : ℕ) : Type 0 where
  pub bytes : InForm b
  pub good : pointer_good base (seen (unpacked b)) ≡ true
  pub size : length f ≡ per_slot * (unpacked b).setup.n
  pub first : FirstLoud (unpacked b).setup.n (unpacked b).table f from

-- The table's bytes.
abbrev pub table_part : List ℕ → List ℕ
table_part b = take table_size (drop table_at b)

-- ---- ranks and display

-- The state of the bytes b goes on to the table of the bytes t, of which `slots` are the changed ones.
abbrev pub MovesOn : List ℕ → List ℕ → ℕ → ℕ → Type 0
MovesOn b t n slots = MovingIf (unpacked b).pointer n (unpacked b).table (table_in t) slots (last_of (unpacked b))

-- Its ranks and its display are then m's.
abbrev pub MovedOn : List ℕ → List ℕ → Moved → Type 0
MovedOn b t m = MovesBy (unpacked b).pointer (unpacked b).table (table_in t) (unpacked b).ranks (unpacked b).told m

-- ---- what is told

-- The same, with a current slot and so many changed numbers as a panel can have.
pub record ToTell (b t : List ℕ) (n : ℕ) (c : Changed) : Type 0 where
  pub size : length b ≡ state_size
  pub whole : length t ≡ table_size
  pub moves : MovesOn b t n c.slots
  pub current : (unpacked b).current.0 < records
  pub few : c.numbers ≤ per_slot * records

-- What r tells of it, where c is what changed.
pub record ToldBy (b t : List ℕ) (c : Changed) (r : Telling) : Type 0 where
  pub moved : MovedOn b t r.moved
  pub ranked : length r.moved.ranks ≡ records
  pub told : r.told ≡ told_in b
  pub current : r.current.0 ≡ (unpacked b).current.0
  pub others : r.others ≡ c.slots - bit_and c.slots (2 ^ r.current.0)
  pub events : r.events ≡ cond (eqb c.numbers 0) 0 (1 + c.numbers + ones r.others) + length (emulated (pointer_of r.told) (pointer_of r.moved.told))
  pub few : r.events ≤ 1 + per_slot * records + records + 5

-- ---- what is sent

-- BTN_TOUCH, the events from one table to another, what else the display is told, and the report.
abbrev pub sent_bytes : List Slot → List Slot → Telling → List ℕ
sent_bytes old new s = (touch_bytes s.told s.moved.told ++ bytes_sent (sent_by old new s.others s.current.0)) ++ end_bytes s.told s.moved.told

-- It is laid over a buffer from a position on; r is the slot last written.
pub record Sends (at : ℕ) (old new : List Slot) (s : Telling) (before : List ℕ) (r : ℕ) (after : List ℕ) : Type 0 where
  pub last : r ≡ M.last_opened s.current.0 (sent_by old new s.others s.current.0)
  pub bytes : after ≡ lay at (sent_bytes old new s) before

-- ---- what is stored

-- A state with another table, another current slot and another counter.
abbrev pub changed_to : WriterState → List Slot → ℕ → ℕ → WriterState
changed_to s t c k = record { table = t; ranks = s.ranks; setup = s.setup; current = record { 0 = c }; counter = k; told = s.told; pointer = s.pointer }

-- The bytes of a state and those of a new table, of which `slots` are the changed ones.
pub record Stores (b new : List ℕ) (slots : ℕ) : Type 0 where
  pub formed : formed b ≡ true
  pub size : length b ≡ state_size
  pub whole : length new ≡ table_size
  pub told : slots ≡ changed_mask (table_of (unpacked b).table) (table_of (table_in new))

-- A state with other ranks and another display.
abbrev pub moved_to : WriterState → Moved → WriterState
moved_to s m = record { table = s.table; ranks = m.ranks; setup = s.setup; current = s.current; counter = s.counter; told = m.told; pointer = s.pointer }

-- These stored in a state's bytes where its option is on.
abbrev pub moved_in : Moved → List ℕ → List ℕ
moved_in m b =
    cond (eqb (byte_at b option_at) 1)
    (lay ranks_at m.ranks (lay y_at (low_bytes 4 m.told.y) (lay x_at (low_bytes 4 m.told.x) (lay 0 (head_bytes true m.told) b)))) b
