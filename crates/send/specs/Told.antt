-- What an old display is told (K6), as the code lays it down. Cited by the contracts here and by the writer. Assumes nothing.
use Rattle.std.specs.Prelude.{Bool, true, false, ◌||◌, List, ◌++◌, ℕ, eqb}
use Rattle.model.specs.Records.{record_bytes}
use Rattle.model.specs.Sending.{one_unless}
use Rattle.pointer.specs.declared.Pointer.{Pointer}
use Rattle.send.specs.Sent.{told_bytes}

-- 1 where a test passes.
abbrev pub one_if : Bool → ℕ
one_if true = 1
one_if false = 0

-- BTN_TOUCH, unless it is the same.
abbrev pub touch_bytes : Pointer → Pointer → List ℕ
touch_bytes q z = told_bytes 1 0x14a q.touch z.touch

-- The old tool's 0 and the new tool's 1, unless they are one tool; code 0 is none.
abbrev pub tool_bytes : Pointer → Pointer → List ℕ
tool_bytes q z =
    told_bytes 1 q.tool (one_unless (eqb q.tool z.tool || eqb q.tool 0)) 0
    ++ told_bytes 1 z.tool (one_if (eqb q.tool z.tool || eqb z.tool 0)) 1

-- X and Y, unless they are the same.
abbrev pub place_bytes : Pointer → Pointer → List ℕ
place_bytes q z = told_bytes 3 0 q.x z.x ++ told_bytes 3 1 q.y z.y

-- These, and the report.
abbrev pub end_bytes : Pointer → Pointer → List ℕ
end_bytes q z = (tool_bytes q z ++ place_bytes q z) ++ record_bytes 0 0 0
