-- Worked cases of the recorder (K2), as tables: pieces written out by their bytes with what each is answered, and what the calls that write
-- answer. Recorded of proofs/ shows every row. Assumes nothing.
use Rattle.std.specs.Prelude.{List, [], ◌∷◌, ◌++◌, ℕ, ◌-◌, length, take, set, replicate}
use Rattle.model.specs.Calls.{accepted, value, no_room, ragged}
use Rattle.model.specs.Bench.{bytes1}
use Rattle.model.specs.Recorder.{BlockRead, events_at, wrong_check, wrong_number, count_over, not_zero, Laid}

-- ---- pieces that are read

-- 512 bytes: the first ones, zeros up to byte 507, and the two lower bytes of the check.
abbrev pub image : List ℕ → ℕ → ℕ → List ℕ
image front low high = front ++ (replicate (508 - length front) 0 ++ low ∷ high ∷ 0 ∷ 0 ∷ [])

-- A block's first bytes: a number and a count below 256, and byte 6.
abbrev pub heading : ℕ → ℕ → ℕ → List ℕ
heading number count spare = number ∷ 0 ∷ 0 ∷ 0 ∷ count ∷ 0 ∷ spare ∷ 0 ∷ []

-- P1's five events as block 1; its check is 14,410.
abbrev pub first : List ℕ
first = image (heading 1 5 0 ++ bytes1) 74 56

pub record PieceCase : Type 0 where
  pub number : ℕ
  pub piece : List ℕ
  pub gives : BlockRead

abbrev pub reads : ℕ → List ℕ → BlockRead → PieceCase
reads number piece gives = record { number = number; piece = piece; gives = gives }

-- A good block, also of no event; pieces too short and too long, and a byte altered in the events and in the check; another number; 63 events,
-- and 261; bytes 6, 48 (the first behind five events) and 507. Then two faults at once: the earlier name is given. All but the wrong checks have
-- the check of their own bytes.
abbrev pub piece_cases : List PieceCase
piece_cases =
    reads 1 first (events_at 8 5)
    ∷ reads 3 (image (heading 3 0 0) 3 0) (events_at 8 0)
    ∷ reads 1 (take 511 first) wrong_check
    ∷ reads 1 (first ++ 0 ∷ []) wrong_check
    ∷ reads 1 [] wrong_check
    ∷ reads 1 (set first 20 101) wrong_check
    ∷ reads 1 (set first 511 1) wrong_check
    ∷ reads 2 first wrong_number
    ∷ reads 1 (image (heading 1 63 0 ++ bytes1) 108 57) count_over
    ∷ reads 1 (set (image (heading 1 5 0 ++ bytes1) 80 56) 5 1) count_over
    ∷ reads 1 (image (heading 1 5 9 ++ bytes1) 137 56) not_zero
    ∷ reads 1 (set (image (heading 1 5 0 ++ bytes1) 123 56) 48 1) not_zero
    ∷ reads 1 (set (image (heading 1 5 0 ++ bytes1) 70 58) 507 1) not_zero
    ∷ reads 2 (set first 20 101) wrong_check
    ∷ reads 1 (image (heading 1 63 0 ++ bytes1) 74 56) wrong_check
    ∷ reads 2 (image (heading 1 63 9 ++ bytes1) 171 57) wrong_number
    ∷ reads 1 (image (heading 1 63 9 ++ bytes1) 171 57) count_over
    ∷ []

-- ---- blocks that are laid

pub record LayCase : Type 0 where
  pub number : ℕ
  pub bytes : ℕ
  pub at : ℕ
  pub size : ℕ
  pub gives : Laid

-- So many bytes of zeros as records, from a block number, into a buffer of a size from a position.
abbrev pub lays : ℕ → ℕ → ℕ → ℕ → Laid → LayCase
lays number bytes at size gives = record { number = number; bytes = bytes; at = at; size = size; gives = gives }

-- 62 events are one block and 63 two; none make none. No room for the second, and a position past the end; 7 bytes, with and without room; number 0;
-- the last number, after which there is none.
abbrev pub lay_cases : List LayCase
lay_cases =
    lays 1 496 0 512 (record { verdict = accepted; blocks = 1; next = 2; need = 0 })
    ∷ lays 7 504 3 1_027 (record { verdict = accepted; blocks = 2; next = 9; need = 0 })
    ∷ lays 1 0 0 0 (record { verdict = accepted; blocks = 0; next = 1; need = 0 })
    ∷ lays 7 504 3 1_026 (record { verdict = no_room; blocks = 0; next = 7; need = 1_024 })
    ∷ lays 1 0 1 0 (record { verdict = no_room; blocks = 0; next = 1; need = 0 })
    ∷ lays 1 7 0 512 (record { verdict = ragged; blocks = 0; next = 1; need = 0 })
    ∷ lays 1 7 0 511 (record { verdict = no_room; blocks = 0; next = 1; need = 512 })
    ∷ lays 0 496 0 512 (record { verdict = value; blocks = 0; next = 0; need = 0 })
    ∷ lays 4_294_967_295 496 0 512 (record { verdict = accepted; blocks = 1; next = 0; need = 0 })
    ∷ lays 4_294_967_295 504 0 1_024 (record { verdict = value; blocks = 0; next = 4_294_967_295; need = 0 })
    ∷ []
