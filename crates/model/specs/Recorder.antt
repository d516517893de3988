-- The shift recorder: the definitions of document 02's K2, in its words and order. Cited by the laws of proofs/Weights, proofs/Blocks and
-- proofs/Recordings and by the promises of the crate recorder. Assumes nothing.
--
-- In this file: a block's places and its check (check_of); a block that is written (block_of) and a whole recording (recording); a block that
-- is read (read_block), with its answer's number and values; a recording that is read piece by piece (answers, read_back); the calls that
-- write, with their refusals (block_call, lay_call); the tables of what is refused when.
use Rattle.std.specs.Prelude.{◌≡◌, Bool, true, false, cond, ◌&&◌, List, [], ◌∷◌, ◌++◌, ℕ, zero, suc, ◌+◌, ◌-◌, ◌*◌, ◌/◌, ◌%◌, ◌<◌, leb, eqb, length, get_or, take, drop, replicate}
use Rattle.model.specs.Numbers.{between}
use Rattle.model.specs.Records.{low_bytes, join16, join32, record_bytes, lay}
use Rattle.model.specs.Calls.{Verdict, accepted, value, no_room, ragged, verdict_number, check, is_accepted, room_for}
use Rattle.model.specs.Pod.{zeros}
use Rattle.model.specs.Refusals.{Row, unless}

-- ---- a block's places

-- The bytes of a block.
abbrev pub block_length : ℕ
block_length = 512

-- Block number (0-3), event count (4-5) and two zeros (6-7) stand before the events.
abbrev pub header_length : ℕ
header_length = 8

-- The check stands from here to the block's end, and is over the bytes before.
abbrev pub check_place : ℕ
check_place = 508

-- The most events of a block, and their bytes.
abbrev pub most_in_block : ℕ
most_in_block = 62

abbrev pub full_run : ℕ
full_run = 496

-- How many block numbers of 32 bits there are, with 0, which no block has: they go from 1 to one less.
abbrev pub number_limit : ℕ
number_limit = 4_294_967_296

-- Each number of a list is a byte, as it is of every lent slice of bytes.
abbrev pub AllBytes : List ℕ → Type 0
AllBytes l = (i : ℕ) → get_or l i 0 < 256

-- The sum of bytes, each times its weight; the first has weight w, each later one weighs one more.
abbrev pub weighed : ℕ → List ℕ → ℕ
weighed w [] = 0
weighed w (b ∷ bs) = b * w + weighed (suc w) bs

-- The check of a block: the sum over bytes 0 to 507 of the byte times its position plus one.
abbrev pub check_of : List ℕ → ℕ
check_of block = weighed 1 (take check_place block)

-- ---- a block that is written

-- What stands before the events: the number, their count and two zeros. Numbers are little-endian.
abbrev pub header : ℕ → ℕ → List ℕ
header number count = low_bytes 4 number ++ (low_bytes 2 count ++ low_bytes 2 0)

-- All before the check, from a block's number and the bytes of its events: the header, the events, and zeros up to byte 507.
abbrev pub unchecked : ℕ → List ℕ → List ℕ
unchecked number events = header number (length events / 8) ++ (events ++ replicate (check_place - header_length - length events) 0)

-- The block: that, and the check.
unfoldable pub block_of : ℕ → List ℕ → List ℕ
block_of number events = unchecked number events ++ low_bytes 4 (weighed 1 (unchecked number events))

-- As many blocks as so many bytes of events fill: 62 events to each but the last, which has at least 1. Of no events, none.
abbrev pub blocks_for : ℕ → ℕ
blocks_for n = (n + (full_run - 1)) / full_run

-- So many blocks of the bytes of events; a block's number is its place, counted on from the first one's.
abbrev pub blocks_from : ℕ → ℕ → List ℕ → List (List ℕ)
blocks_from zero number events = []
blocks_from (suc k) number events = block_of number (take full_run events) ∷ blocks_from k (suc number) (drop full_run events)

-- The blocks of a recording, or of its next part, from a block number on.
abbrev pub recording : ℕ → List ℕ → List (List ℕ)
recording number events = blocks_from (blocks_for (length events)) number events

-- Blocks one after the other.
abbrev pub joined : List (List ℕ) → List ℕ
joined [] = []
joined (b ∷ bs) = b ++ joined bs

-- ---- a block that is read

-- The number whose four bytes stand from a place on.
abbrev pub four_at : ℕ → List ℕ → ℕ
four_at at b = join32 (get_or b at 0) (get_or b (at + 1) 0) (get_or b (at + 2) 0) (get_or b (at + 3) 0)

-- The number, the event count and the check that stand in a block.
abbrev pub number_in : List ℕ → ℕ
number_in b = four_at 0 b

abbrev pub count_in : List ℕ → ℕ
count_in b = join16 (get_or b 4 0) (get_or b 5 0)

abbrev pub check_in : List ℕ → ℕ
check_in b = four_at check_place b

-- The bytes from one place to before another.
abbrev pub part : ℕ → ℕ → List ℕ → List ℕ
part from to b = drop from (take to b)

-- The check is right: a short piece's is wrong, and so is that of any other length but 512.
abbrev pub check_good : List ℕ → Bool
check_good b = eqb (length b) block_length && eqb (check_of b) (check_in b)

-- The bytes that should be zero are: 6 and 7, and those behind the events up to byte 507.
abbrev pub zero_good : List ℕ → Bool
zero_good b = zeros (part 6 header_length b) && zeros (part (header_length + 8 * count_in b) check_place b)

-- What a block is answered: its events' place and count; or the name that it is refused by.
pub data BlockRead : Type 0 where
  events_at : ℕ → ℕ → BlockRead
  wrong_check wrong_number count_over not_zero : BlockRead

-- Document 02's names in its order, from 1; 0 where the block is not refused.
abbrev pub read_number : BlockRead → ℕ
read_number (events_at at count) = 0
read_number wrong_check = 1
read_number wrong_number = 2
read_number count_over = 3
read_number not_zero = 4

-- The numbers that come with an answer: the events' place and count.
abbrev pub read_values : BlockRead → List ℕ
read_values (events_at at count) = at ∷ count ∷ []
read_values wrong_check = []
read_values wrong_number = []
read_values count_over = []
read_values not_zero = []

-- Refused by this name unless the test passes; then the later tests decide.
abbrev pub test : Bool → BlockRead → BlockRead → BlockRead
test true why more = more
test false why more = why

-- The check, the number, the count and the zeros, judged in this order.
abbrev pub judged_block : Bool → Bool → ℕ → Bool → BlockRead
judged_block right expected count clear =
    test right wrong_check
    (test expected wrong_number (test (leb count most_in_block) count_over (test clear not_zero (events_at header_length count))))

-- What a block is answered where a number is expected.
unfoldable pub read_block : ℕ → List ℕ → BlockRead
read_block number b = judged_block (check_good b) (eqb (number_in b) number) (count_in b) (zero_good b)

-- ---- a recording that is read

-- So many pieces of 512 bytes; the last may be short.
abbrev pub pieces_from : ℕ → List ℕ → List (List ℕ)
pieces_from zero s = []
pieces_from (suc k) s = take block_length s ∷ pieces_from k (drop block_length s)

-- All pieces of a run of bytes.
abbrev pub pieces : List ℕ → List (List ℕ)
pieces s = pieces_from ((length s + (block_length - 1)) / block_length) s

-- What pieces are answered, each expected to carry its place, refused ones before it or not.
abbrev pub answers : ℕ → List (List ℕ) → List BlockRead
answers number [] = []
answers number (p ∷ ps) = read_block number p ∷ answers (suc number) ps

-- No piece is refused.
abbrev pub NoneRefused : List BlockRead → Type 0
NoneRefused [] = Unit {0}
NoneRefused (a ∷ rest) = (read_number a ≡ 0) × NoneRefused rest

-- Pieces are answered as those of a whole recording up to place j, and there one is refused by this name: of what came after it nothing is said.
pub record RefusedAt (j : ℕ) (why : BlockRead) (number : ℕ) (whole ps : List (List ℕ)) : Type 0 where
  pub before : take j (answers number ps) ≡ take j (answers number whole)
  pub there : take 1 (drop j (answers number ps)) ≡ why ∷ []

-- SYN_DROPPED as a record: what a refused block is read as.
abbrev pub loss : List ℕ
loss = record_bytes 0 3 0

-- The records that a piece says, by its answer.
abbrev pub said : BlockRead → List ℕ → List ℕ
said (events_at at count) p = part at (at + 8 * count) p
said wrong_check p = loss
said wrong_number p = loss
said count_over p = loss
said not_zero p = loss

-- The records of a recording, piece by piece.
abbrev pub read_back : ℕ → List (List ℕ) → List ℕ
read_back number [] = []
read_back number (p ∷ ps) = said (read_block number p) p ++ read_back (suc number) ps

-- ---- the calls that write

-- One block: VALUE where its number is none or its events are not 1 to 62; RAGGED where they are not whole records.
abbrev pub block_good : ℕ → List ℕ → Bool
block_good number events = between 1 (number_limit - 1) number && between 1 full_run (length events)

-- Whole records.
abbrev pub whole_records : List ℕ → Bool
whole_records events = eqb (length events % 8) 0

unfoldable pub block_verdict : ℕ → List ℕ → Verdict
block_verdict number events = check (block_good number events) value (check (whole_records events) ragged accepted)

-- The answer: the verdict and the block, which is 512 zeros where it is refused.
pub record Made : Type 0 where
  pub verdict : Verdict
  pub block : List ℕ

unfoldable pub block_call : ℕ → List ℕ → Made
block_call number events = record {
  verdict = block_verdict number events;
  block = cond (is_accepted (block_verdict number events)) (block_of number events) (replicate block_length 0);
}

-- A recording's next blocks: VALUE where the first number is none, or where a block's would be past the last one.
abbrev pub numbers_good : ℕ → List ℕ → Bool
numbers_good number events = between 1 (number_limit - 1) number && leb (number + blocks_for (length events)) number_limit

-- The bytes that they take.
abbrev pub lay_need : List ℕ → ℕ
lay_need events = block_length * blocks_for (length events)

-- In rising number: the block numbers, the room in a buffer of so many bytes, whole records.
unfoldable pub lay_verdict : ℕ → List ℕ → ℕ → ℕ → Verdict
lay_verdict number events at size =
    check (numbers_good number events) value (check (room_for (lay_need events) at size) no_room (check (whole_records events) ragged accepted))

-- The answer: the verdict, how many blocks, the number of the block after them, and the need.
pub record Laid : Type 0 where
  pub verdict : Verdict
  pub blocks : ℕ
  pub next : ℕ
  pub need : ℕ

-- Refused: no blocks, the number as it came in, and the need only with NO ROOM.
abbrev pub not_laid : Verdict → ℕ → ℕ → Laid
not_laid v number need = record { verdict = v; blocks = 0; next = number; need = cond (eqb (verdict_number v) 5) need 0 }

-- Accepted. After the last block number comes 0, which is none: the next call is refused.
abbrev pub have_laid : ℕ → ℕ → Laid
have_laid number blocks = record { verdict = accepted; blocks = blocks; next = (number + blocks) % number_limit; need = 0 }

unfoldable pub lay_call : ℕ → List ℕ → ℕ → ℕ → Laid
lay_call number events at size =
    let v = lay_verdict number events at size in
    cond (is_accepted v) (have_laid number (blocks_for (length events))) (not_laid v number (lay_need events))

-- What is in the buffer afterwards: a refusal touches no byte.
unfoldable pub lay_buffer : ℕ → List ℕ → ℕ → List ℕ → List ℕ
lay_buffer number events at buf = cond (is_accepted (lay_verdict number events at (length buf))) (lay at (joined (recording number events)) buf) buf

-- ---- what is refused when, as tables: document 01's numbers of the calls that write, document 02's order of the one that reads

abbrev pub block_rows : ℕ → List ℕ → List Row
block_rows number events = unless 4 (block_good number events) ∷ unless 6 (whole_records events) ∷ []

abbrev pub lay_rows : ℕ → List ℕ → ℕ → ℕ → List Row
lay_rows number events at size =
    unless 4 (numbers_good number events) ∷ unless 5 (room_for (lay_need events) at size) ∷ unless 6 (whole_records events) ∷ []

abbrev pub read_rows : ℕ → List ℕ → List Row
read_rows number b =
    unless 1 (check_good b) ∷ unless 2 (eqb (number_in b) number) ∷ unless 3 (leb (count_in b) most_in_block) ∷ unless 4 (zero_good b) ∷ []
