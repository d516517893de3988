-- Where a writer's state lies in its bytes, version 1. docs/LAYOUT.md says the same for C hosts. Assumes nothing.
use Rattle.std.specs.Prelude.{ℕ}

-- How many bytes a state has.
abbrev pub state_size : ℕ
state_size = 848

-- What byte 0 is: the version.
abbrev pub version : ℕ
version = 1

-- What byte 1 is: the kind, a writer.
abbrev pub kind : ℕ
kind = 1

-- ---- positions

-- The version's byte.
abbrev pub version_at : ℕ
version_at = 0

-- The kind's byte.
abbrev pub kind_at : ℕ
kind_at = 1

-- The option's byte, 0 or 1.
abbrev pub option_at : ℕ
option_at = 2

-- BTN_TOUCH as it was told last, a byte.
abbrev pub touch_at : ℕ
touch_at = 3

-- The tool's code as it was told last, two bytes.
abbrev pub tool_at : ℕ
tool_at = 4

-- Two bytes that are 0.
abbrev pub zero_at : ℕ
zero_at = 6

-- The setup, 24 bytes.
abbrev pub setup_at : ℕ
setup_at = 8

-- The current slot, four bytes.
abbrev pub current_at : ℕ
current_at = 32

-- The id counter, four bytes.
abbrev pub counter_at : ℕ
counter_at = 36

-- X as it was told last, four bytes.
abbrev pub x_at : ℕ
x_at = 40

-- Y as it was told last, four bytes.
abbrev pub y_at : ℕ
y_at = 44

-- The table, 768 bytes.
abbrev pub table_at : ℕ
table_at = 48

-- The ranks, a byte for each of 32 records.
abbrev pub ranks_at : ℕ
ranks_at = 816
