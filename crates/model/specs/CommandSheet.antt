-- Cases of document 02's K13 as tables, worked out by hand from its words: inputs with all that is read of them, and writes with all that they
-- leave. CommandSheet of proofs/ shows every row. Assumes nothing.
use Rattle.std.specs.Prelude.{true, false, List, [], ◌∷◌, ℕ, replicate}
use Rattle.model.specs.Calls as C
use Rattle.model.specs.Calls.{Verdict}
use Rattle.model.specs.Pod as P
use Rattle.model.specs.Bench.{clock}
use Rattle.model.specs.Commands.{Command, reset, buttons, relative, absolute, threshold, scale, interrogate, load, set_clock, ask_clock}
use Rattle.model.specs.Commands.{Answer, command, lost, not_for_us, refused, unfinished, nothing, Read, Written}

-- ---- inputs

-- An input, a position, and all answers from there on, each with where reading goes on.
pub record ReadRow : Type 0 where
  pub input : List ℕ
  pub at : ℕ
  pub gives : List Read

abbrev pub reading : List ℕ → ℕ → List Read → ReadRow
reading input at gives = record { input = input; at = at; gives = gives }

abbrev pub answers : Answer → ℕ → Read
answers a next = record { answer = a; next = next }

-- The ten commands one after the other, as a bench would send them.
abbrev pub ten_bytes : List ℕ
ten_bytes =
    0x80 ∷ 0x01 ∷ 0x07 ∷ 0x04 ∷ 0x08 ∷ 0x09 ∷ 0x02 ∷ 0x7f ∷ 0x01 ∷ 0x8f ∷ 0x0b ∷ 0x01 ∷ 0xff ∷ 0x0c ∷ 0xff ∷ 0x01
    ∷ 0x0d ∷ 0x0e ∷ 0x00 ∷ 0x01 ∷ 0x40 ∷ 0x00 ∷ 0xc8 ∷ 0x1b ∷ 0x26 ∷ 0x11 ∷ 0x16 ∷ 0x04 ∷ 0x59 ∷ 0x30 ∷ 0x1c ∷ []

abbrev pub ten_row : ReadRow
ten_row =
    reading ten_bytes 0
    (answers (command reset) 2 ∷ answers (command (buttons 4)) 4 ∷ answers (command relative) 5 ∷ answers (command (absolute 639 399)) 10
    ∷ answers (command (threshold 1 255)) 13 ∷ answers (command (scale 255 1)) 16 ∷ answers (command interrogate) 17
    ∷ answers (command (load 320 200)) 23 ∷ answers (command (set_clock (clock 0x26 0x11 0x16 0x04 0x59 0x30))) 30
    ∷ answers (command ask_clock) 31 ∷ answers nothing 31 ∷ [])

-- 0x80 with 0x02, with another 0x80 and with a command's first byte: both are lost; first bytes that are not for us, each alone; a position past
-- the end; no bytes.
abbrev pub other_rows : List ReadRow
other_rows =
    reading (0x80 ∷ 0x02 ∷ 0x08 ∷ []) 0 (answers lost 2 ∷ answers (command relative) 3 ∷ answers nothing 3 ∷ [])
    ∷ reading (0x80 ∷ 0x80 ∷ 0x01 ∷ []) 0 (answers lost 2 ∷ answers not_for_us 3 ∷ answers nothing 3 ∷ [])
    ∷ reading (0x80 ∷ 0x07 ∷ 0x0a ∷ 0x00 ∷ 0xff ∷ []) 0 (answers lost 2 ∷ answers not_for_us 3 ∷ answers not_for_us 4 ∷ answers not_for_us 5 ∷ answers nothing 5 ∷ [])
    ∷ reading (0x08 ∷ []) 7 (answers nothing 1 ∷ [])
    ∷ reading [] 0 (answers nothing 0 ∷ [])
    ∷ []

-- Refused, and gone past: button action 5; a threshold of 0 in x, a scale of 0 in y; a filler of 1; a low digit and a high one that are none.
abbrev pub refused_rows : List ReadRow
refused_rows =
    reading (0x07 ∷ 0x05 ∷ 0x0d ∷ []) 0 (answers refused 2 ∷ answers (command interrogate) 3 ∷ answers nothing 3 ∷ [])
    ∷ reading (0x0b ∷ 0x00 ∷ 0x08 ∷ 0x0c ∷ 0x08 ∷ 0x00 ∷ []) 0 (answers refused 3 ∷ answers refused 6 ∷ answers nothing 6 ∷ [])
    ∷ reading (0x0e ∷ 0x01 ∷ 0x08 ∷ 0x08 ∷ 0x08 ∷ 0x08 ∷ 0x1c ∷ []) 0 (answers refused 6 ∷ answers (command ask_clock) 7 ∷ answers nothing 7 ∷ [])
    ∷ reading (0x1b ∷ 0x26 ∷ 0x11 ∷ 0x16 ∷ 0x04 ∷ 0x5a ∷ 0x30 ∷ []) 0 (answers refused 7 ∷ answers nothing 7 ∷ [])
    ∷ reading (0x1b ∷ 0xa0 ∷ 0x11 ∷ 0x16 ∷ 0x04 ∷ 0x59 ∷ 0x30 ∷ []) 0 (answers refused 7 ∷ answers nothing 7 ∷ [])
    ∷ []

-- Cut short, at its first byte and behind another, also where a byte is wrong already.
abbrev pub unfinished_rows : List ReadRow
unfinished_rows =
    reading (0x80 ∷ []) 0 (answers unfinished 0 ∷ [])
    ∷ reading (0x08 ∷ 0x07 ∷ []) 0 (answers (command relative) 1 ∷ answers unfinished 1 ∷ [])
    ∷ reading (0x0e ∷ 0x01 ∷ 0x08 ∷ 0x08 ∷ 0x08 ∷ []) 0 (answers unfinished 0 ∷ [])
    ∷ reading (0x1b ∷ 0xff ∷ 0xff ∷ 0xff ∷ 0xff ∷ 0xff ∷ []) 0 (answers unfinished 0 ∷ [])
    ∷ []

-- ---- writes

-- A pod's state, a command, a buffer and a position; the verdict, the state and the need; the buffer afterwards.
pub record WriteRow : Type 0 where
  pub pod : P.State
  pub given : Command
  pub buffer : List ℕ
  pub at : ℕ
  pub answer : Written
  pub after : List ℕ

abbrev pub writing : P.State → Command → List ℕ → ℕ → Verdict → P.State → ℕ → List ℕ → WriteRow
writing pod c buffer at v state need after =
    record { pod = pod; given = c; buffer = buffer; at = at; answer = record { verdict = v; state = state; need = need }; after = after }

-- A pod that does not wait, and holds two bytes of a report.
abbrev pub amid : P.State
amid = P.holding false (0xf7 ∷ 0x05 ∷ [])

-- One that is not well formed: it says that it holds seven bytes.
abbrev pub broken : P.State
broken = record { waits = true; bytes = replicate 6 0; count = 7 }

-- A reset in the middle of a report; another command there; the high byte first; the filler; a clock; the ends of the ranges.
abbrev pub accepted_rows : List WriteRow
accepted_rows =
    writing amid reset (replicate 4 7) 1 C.accepted P.fresh 0 (7 ∷ 0x80 ∷ 0x01 ∷ 7 ∷ [])
    ∷ writing amid relative (replicate 2 7) 1 C.accepted amid 0 (7 ∷ 0x08 ∷ [])
    ∷ writing P.fresh (absolute 639 399) (replicate 5 7) 0 C.accepted P.fresh 0 (0x09 ∷ 0x02 ∷ 0x7f ∷ 0x01 ∷ 0x8f ∷ [])
    ∷ writing amid (load 65_535 0) (replicate 6 7) 0 C.accepted amid 0 (0x0e ∷ 0x00 ∷ 0xff ∷ 0xff ∷ 0x00 ∷ 0x00 ∷ [])
    ∷ writing amid (set_clock (clock 0x99 0x00 0x13 0x24 0x60 0x59)) (replicate 8 7) 0 C.accepted amid 0
    (0x1b ∷ 0x99 ∷ 0x00 ∷ 0x13 ∷ 0x24 ∷ 0x60 ∷ 0x59 ∷ 7 ∷ [])
    ∷ writing amid (buttons 4) (replicate 2 7) 0 C.accepted amid 0 (0x07 ∷ 0x04 ∷ [])
    ∷ writing amid (threshold 1 255) (replicate 3 7) 0 C.accepted amid 0 (0x0b ∷ 0x01 ∷ 0xff ∷ [])
    ∷ writing amid (scale 255 1) (replicate 3 7) 0 C.accepted amid 0 (0x0c ∷ 0xff ∷ 0x01 ∷ [])
    ∷ writing amid interrogate (replicate 1 7) 0 C.accepted amid 0 (0x0d ∷ [])
    ∷ writing amid ask_clock (replicate 1 7) 0 C.accepted amid 0 (0x1c ∷ [])
    ∷ []

-- STATE before all; NO ROOM before the command's numbers, with the need; then 11: button action 5, threshold 0, scale 0, a digit that is none.
abbrev pub refused_writes : List WriteRow
refused_writes =
    writing broken reset (replicate 2 7) 0 C.state broken 0 (replicate 2 7)
    ∷ writing broken (buttons 5) [] 1 C.state broken 0 []
    ∷ writing amid reset (replicate 2 7) 1 C.no_room amid 2 (replicate 2 7)
    ∷ writing amid (buttons 5) [] 1 C.no_room amid 2 []
    ∷ writing amid (set_clock (clock 0x26 0x11 0x16 0x04 0x5a 0x30)) (replicate 6 7) 0 C.no_room amid 7 (replicate 6 7)
    ∷ writing amid (buttons 5) (replicate 2 7) 0 C.command amid 0 (replicate 2 7)
    ∷ writing amid (threshold 1 0) (replicate 3 7) 0 C.command amid 0 (replicate 3 7)
    ∷ writing amid (scale 0 1) (replicate 3 7) 0 C.command amid 0 (replicate 3 7)
    ∷ writing amid (set_clock (clock 0x26 0x11 0x16 0x04 0x5a 0x30)) (replicate 7 7) 0 C.command amid 0 (replicate 7 7)
    ∷ []
