-- The shift recorder for a host that lends its blocks and has every answer as numbers: what the calls answer by the library's. Assumes nothing.
use Rattle.std.specs.Prelude.{◌≡◌, cond, List, [], ◌∷◌, ℕ, eqb, length}
use Rattle.model.specs.Calls as C
use Rattle.model.specs.Calls.{Verdict, verdict_number, check, is_accepted}
use Rattle.model.specs.Recorder as M

-- ---- a block that is made

-- Refused by 2 where the lent block has not its 512 bytes, else judged as the library does.
abbrev pub make_verdict : ℕ → List ℕ → List ℕ → Verdict
make_verdict number events block = check (eqb (length block) M.block_length) C.state (M.block_call number events).verdict

-- The lent block afterwards: a refusal leaves it as it was.
abbrev pub block_after : ℕ → List ℕ → List ℕ → List ℕ
block_after number events block = cond (is_accepted (make_verdict number events block)) (M.block_call number events).block block

-- What `make_block` promises of the block n: of its number r and of the lent block after it.
pub record BlockMade (n : ℕ) (events before : List ℕ) (r : ℕ) (after : List ℕ) : Type 0 where
  pub number : r ≡ verdict_number (make_verdict n events before)
  pub block : after ≡ block_after n events before

-- ---- a recording's next blocks

-- An answer as three numbers: how many blocks, the number of the block after them, which with a refusal is the first's, and the need.
abbrev pub laid_told : M.Laid → List ℕ
laid_told a = a.blocks ∷ a.next ∷ a.need ∷ []

-- What `lay_blocks` promises from the block n on: of its number r, of its answer and of the buffer after it.
pub record BlocksLaid (n : ℕ) (events : List ℕ) (at : ℕ) (before : List ℕ) (r : ℕ) (told after : List ℕ) : Type 0 where
  pub number : r ≡ verdict_number (M.lay_call n events at (length before)).verdict
  pub answer : told ≡ laid_told (M.lay_call n events at (length before))
  pub buffer : after ≡ M.lay_buffer n events at before

-- ---- a block that is read

-- An answer as two numbers: the place and the count of the events, and zeros of a refused block.
abbrev pub read_told : M.BlockRead → List ℕ
read_told (M.events_at at count) = at ∷ count ∷ []
read_told M.wrong_check = 0 ∷ 0 ∷ []
read_told M.wrong_number = 0 ∷ 0 ∷ []
read_told M.count_over = 0 ∷ 0 ∷ []
read_told M.not_zero = 0 ∷ 0 ∷ []

-- What `read_block` promises where the block n is expected: of its number r, which is the name's of document 02's order, and of its answer.
pub record BlockRead (n : ℕ) (piece : List ℕ) (r : ℕ) (told : List ℕ) : Type 0 where
  pub number : r ≡ M.read_number (M.read_block n piece)
  pub answer : told ≡ read_told (M.read_block n piece)
