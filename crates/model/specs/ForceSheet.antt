-- Cases of document 02's K10 as tables, worked out by hand from its words: inputs with all that is read of them, and writes with all that they
-- leave. ForceSheet of proofs/ shows every row. Assumes nothing.
use Rattle.std.specs.Prelude.{List, [], ◌∷◌, ◌++◌, ℕ, ℤ, pos, negsuc, replicate}
use Rattle.model.specs.Calls.{Verdict, accepted, value, no_room}
use Rattle.model.specs.Force.{Report, Answer, report, not_for_us, length_over, wrong_check, unfinished, nothing, Read, Written}

-- ---- inputs

-- An input, a position, and all answers from there on, each with where reading goes on.
pub record ReadRow : Type 0 where
  pub input : List ℕ
  pub at : ℕ
  pub gives : List Read

abbrev pub reading : List ℕ → ℕ → List Read → ReadRow
reading input at gives = record { input = input; at = at; gives = gives }

abbrev pub answers : Answer → ℕ → Read
answers a next = record { answer = a; next = next }

abbrev pub stick : ℤ → ℤ → ℕ → ℕ → ℕ → ℤ → Report
stick x y throttle buttons hat rudder = record { x = x; y = y; throttle = throttle; buttons = buttons; hat = hat; rudder = rudder }

-- x 100, y -100, throttle 128, buttons 0, 2 and 8, hat 3, rudder -2.
abbrev pub held : Report
held = stick (pos 100) (negsuc 99) 128 261 3 (negsuc 1)

abbrev pub held_bytes : List ℕ
held_bytes = 0x2b ∷ 0x01 ∷ 0x08 ∷ 0x64 ∷ 0x00 ∷ 0x9c ∷ 0xff ∷ 0x80 ∷ 0x05 ∷ 0x31 ∷ 0xfe ∷ 0x6f ∷ []

-- The ends of every range.
abbrev pub far : Report
far = stick (negsuc 32_767) (pos 32_767) 255 4_095 15 (negsuc 127)

abbrev pub far_bytes : List ℕ
far_bytes = 0x2b ∷ 0x01 ∷ 0x08 ∷ 0x00 ∷ 0x80 ∷ 0xff ∷ 0x7f ∷ 0xff ∷ 0xff ∷ 0xff ∷ 0x80 ∷ 0x5d ∷ []

-- A report, bytes before it, and two one after the other; nothing at all; a position past the end.
abbrev pub report_rows : List ReadRow
report_rows =
    reading held_bytes 0 (answers (report held) 12 ∷ answers nothing 12 ∷ [])
    ∷ reading (0x00 ∷ 0x01 ∷ 0x08 ∷ held_bytes ++ far_bytes) 0 (answers (report held) 15 ∷ answers (report far) 27 ∷ answers nothing 27 ∷ [])
    ∷ reading (held_bytes ++ far_bytes) 12 (answers (report far) 24 ∷ answers nothing 24 ∷ [])
    ∷ reading [] 0 (answers nothing 0 ∷ [])
    ∷ reading (0x01 ∷ 0x08 ∷ []) 0 (answers nothing 2 ∷ [])
    ∷ reading (0x2b ∷ 0x08 ∷ []) 5 (answers nothing 2 ∷ [])
    ∷ []

-- Another OP, a wheel's; OP 01 with LEN 7; LEN 0; LEN 16.
abbrev pub other_rows : List ReadRow
other_rows =
    reading (0x2b ∷ 0x03 ∷ 0x08 ∷ replicate 8 0 ++ 0x20 ∷ []) 0 (answers (not_for_us 3 8) 12 ∷ answers nothing 12 ∷ [])
    ∷ reading (0x2b ∷ 0x01 ∷ 0x07 ∷ replicate 7 0 ++ 0x2d ∷ []) 0 (answers (not_for_us 1 7) 11 ∷ answers nothing 11 ∷ [])
    ∷ reading (0x2b ∷ 0x02 ∷ 0x00 ∷ 0x29 ∷ []) 0 (answers (not_for_us 2 0) 4 ∷ answers nothing 4 ∷ [])
    ∷ reading (0x2b ∷ 0x01 ∷ 0x10 ∷ replicate 16 0 ++ 0x3a ∷ []) 0 (answers (not_for_us 1 16) 20 ∷ answers nothing 20 ∷ [])
    ∷ []

-- LEN 17, where the input ends with it and where a packet stands inside; a wrong CS with a packet inside; a CS without the 0x2B.
abbrev pub refused_rows : List ReadRow
refused_rows =
    reading (0x2b ∷ 0x01 ∷ 0x11 ∷ []) 0 (answers length_over 1 ∷ answers nothing 3 ∷ [])
    ∷ reading (0x2b ∷ 0x01 ∷ 0x2b ∷ 0x02 ∷ 0x00 ∷ 0x29 ∷ []) 0 (answers length_over 1 ∷ answers (not_for_us 2 0) 6 ∷ answers nothing 6 ∷ [])
    ∷ reading (0x2b ∷ 0x01 ∷ 0x08 ∷ 0x2b ∷ 0x02 ∷ 0x00 ∷ 0x29 ∷ replicate 5 0) 0 (answers wrong_check 1 ∷ answers (not_for_us 2 0) 7 ∷ answers nothing 12 ∷ [])
    ∷ reading (0x2b ∷ 0x02 ∷ 0x00 ∷ 0x02 ∷ []) 0 (answers wrong_check 1 ∷ answers nothing 4 ∷ [])
    ∷ []

-- An input that ends inside a packet, at each of its parts; a packet inside it is not sought.
abbrev pub unfinished_rows : List ReadRow
unfinished_rows =
    reading (0x00 ∷ 0x2b ∷ []) 0 (answers unfinished 1 ∷ [])
    ∷ reading (0x00 ∷ 0x2b ∷ 0x01 ∷ []) 0 (answers unfinished 1 ∷ [])
    ∷ reading (0x00 ∷ 0x2b ∷ 0x01 ∷ 0x00 ∷ []) 0 (answers unfinished 1 ∷ [])
    ∷ reading (0x2b ∷ 0x01 ∷ 0x08 ∷ 0x2b ∷ 0x02 ∷ 0x00 ∷ 0x29 ∷ replicate 4 0) 0 (answers unfinished 0 ∷ [])
    ∷ []

-- ---- writes

-- A report, a buffer and a position; the verdict, the need and the buffer afterwards.
pub record WriteRow : Type 0 where
  pub given : Report
  pub buffer : List ℕ
  pub at : ℕ
  pub answer : Written
  pub after : List ℕ

abbrev pub writing : Report → List ℕ → ℕ → Verdict → ℕ → List ℕ → WriteRow
writing r buffer at v need after = record { given = r; buffer = buffer; at = at; answer = record { verdict = v; need = need }; after = after }

-- In the middle of a buffer; the ends of the ranges; buttons over 4,095 and a hat over 15, where there is room and where there is none; no room, and
-- a position past the end.
abbrev pub write_rows : List WriteRow
write_rows =
    writing held (replicate 14 7) 1 accepted 0 (7 ∷ held_bytes ++ 7 ∷ [])
    ∷ writing far (replicate 12 0) 0 accepted 0 far_bytes
    ∷ writing (stick (pos 0) (pos 0) 0 4_096 0 (pos 0)) (replicate 12 7) 0 value 0 (replicate 12 7)
    ∷ writing (stick (pos 0) (pos 0) 0 0 16 (pos 0)) (replicate 12 7) 0 value 0 (replicate 12 7)
    ∷ writing (stick (pos 0) (pos 0) 0 0 16 (pos 0)) [] 1 value 0 []
    ∷ writing held (replicate 12 7) 1 no_room 12 (replicate 12 7)
    ∷ writing held [] 1 no_room 12 []
    ∷ []
