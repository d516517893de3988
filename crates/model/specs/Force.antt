-- The force stick on the serial port: document 02's K10, in its words and order, over the packets of source document 000, section 3.11.
-- Cited by the laws of proofs/Force.. and by the promises of the crate force. Assumes nothing.
--
-- In this file: a packet and its CS (check_of, packet); signed numbers (signed_in, bits_in); a report, its data bytes and its packet (Report,
-- report_of, data_of, packet_of); what reading answers and where it goes on (Answer, Read), a packet at the start of bytes (packet_in), reading
-- at a position (read_at), and all packets of an input (reads); writing (write_call, write_buffer) and its refusals (force_rows).
use Rattle.std.specs.Prelude.{◌≡◌, Bool, true, false, cond, not, ◌&&◌, List, [], ◌∷◌, ◌++◌, ℕ, zero, suc, ◌+◌, ◌-◌, ◌*◌, ◌/◌, ◌%◌, ◌≤◌, ◌<◌, leb, ltb, eqb, ℤ, pos, negsuc, length, get_or, take, drop}
use Rattle.std.specs.Int.Bits.{bit_xor}
use Rattle.model.specs.Numbers.{between_z}
use Rattle.model.specs.Records.{low_bytes, join16, lay}
use Rattle.model.specs.Calls.{Verdict, accepted, value, no_room, verdict_number, check, is_accepted, room_for}
use Rattle.model.specs.Refusals.{Row, unless}

-- Numbers that are bytes; past the end stands 0.
abbrev pub Bytes : List ℕ → Type 0
Bytes l = (i : ℕ) → get_or l i 0 < 256

-- ---- a packet: 0x2B, OP, LEN, LEN data bytes, CS

-- The byte that begins a packet.
abbrev pub mark : ℕ
mark = 0x2b

-- The OP of a stick's report,
abbrev pub stick_op : ℕ
stick_op = 0x01

-- and how many data bytes it has.
abbrev pub stick_data : ℕ
stick_data = 8

-- The most data bytes that a packet may have.
abbrev pub most_data : ℕ
most_data = 16

-- How many bytes stand before the data: 0x2B, OP and LEN.
abbrev pub head_bytes : ℕ
head_bytes = 3

-- How many bytes a packet with so many data bytes has.
abbrev pub packet_bytes : ℕ → ℕ
packet_bytes len = head_bytes + len + 1

-- How many bytes a written packet has.
abbrev pub stick_bytes : ℕ
stick_bytes = packet_bytes stick_data

-- The exclusive or of a number and bytes.
abbrev pub xor_after : ℕ → List ℕ → ℕ
xor_after sum [] = sum
xor_after sum (b ∷ bs) = xor_after (bit_xor sum b) bs

-- CS: the exclusive or of all bytes before it, the 0x2B included.
unfoldable pub check_of : List ℕ → ℕ
check_of before = xor_after 0 before

-- What stands before CS in a packet of this OP and these data bytes.
abbrev pub before_check : ℕ → List ℕ → List ℕ
before_check op bytes = mark ∷ op ∷ length bytes ∷ bytes

-- The packet of this OP and these data bytes.
abbrev pub packet : ℕ → List ℕ → List ℕ
packet op bytes = before_check op bytes ++ check_of (before_check op bytes) ∷ []

-- ---- signed numbers: two's complement in as many values as the bits have

-- The values of 16 bits, and of a byte.
abbrev pub word_values : ℕ
word_values = 65_536

abbrev pub byte_values : ℕ
byte_values = 256

-- Bits read as a signed number: the upper half is negative.
unfoldable pub signed_in : ℕ → ℕ → ℤ
signed_in values n = cond (ltb n (values / 2)) (pos n) (negsuc (values - 1 - n))

-- The bits of a signed number.
unfoldable pub bits_in : ℕ → ℤ → ℕ
bits_in values (pos n) = n
bits_in values (negsuc n) = values - 1 - n

-- The number has such bits.
abbrev pub fits_in : ℕ → ℤ → Bool
fits_in values z = between_z (negsuc (values / 2 - 1)) (pos (values / 2 - 1)) z

-- ---- a report: OP 01 with LEN 8

-- x and y are signed 16-bit numbers, throttle is unsigned and rudder a signed byte.
pub record Report : Type 0 where
  pub x : ℤ
  pub y : ℤ
  pub throttle : ℕ
  pub buttons : ℕ
  pub hat : ℕ
  pub rudder : ℤ

-- Its numbers have the widths that document 02 gives them; that buttons and hat fit their bits is `good_report`'s to say.
pub record Sized (r : Report) : Type 0 where
  pub x : fits_in word_values r.x ≡ true
  pub y : fits_in word_values r.y ≡ true
  pub throttle : r.throttle < byte_values
  pub rudder : fits_in byte_values r.rudder ≡ true

-- A packet has 12 bits for the buttons and 4 for the hat.
abbrev pub most_buttons : ℕ
most_buttons = 4_095

abbrev pub most_hat : ℕ
most_hat = 15

-- So buttons over 4,095 or a hat over 15 cannot be written.
abbrev pub good_report : Report → Bool
good_report r = leb r.buttons most_buttons && leb r.hat most_hat

-- Byte 06 is shared: its lower 4 bits are the buttons' upper ones,
abbrev pub upper_buttons : ℕ → ℕ
upper_buttons shared = shared % 16

-- its upper 4 bits the hat.
abbrev pub hat_of : ℕ → ℕ
hat_of shared = shared / 16

-- So it is made of both.
abbrev pub shared_byte : ℕ → ℕ → ℕ
shared_byte buttons hat = 16 * hat + buttons / 256

-- The report of eight data bytes: X lsb, X msb, Y lsb, Y msb, throttle, buttons, buttons and hat, rudder.
abbrev pub report_of : List ℕ → Report
report_of bytes = record {
  x = signed_in word_values (join16 (get_or bytes 0 0) (get_or bytes 1 0));
  y = signed_in word_values (join16 (get_or bytes 2 0) (get_or bytes 3 0));
  throttle = get_or bytes 4 0;
  buttons = get_or bytes 5 0 + 256 * upper_buttons (get_or bytes 6 0);
  hat = hat_of (get_or bytes 6 0);
  rudder = signed_in byte_values (get_or bytes 7 0);
}

-- The eight data bytes of a report.
unfoldable pub data_of : Report → List ℕ
data_of r =
    low_bytes 2 (bits_in word_values r.x)
    ++ (low_bytes 2 (bits_in word_values r.y)
    ++ (r.throttle ∷ r.buttons % 256 ∷ shared_byte r.buttons r.hat ∷ bits_in byte_values r.rudder ∷ []))

-- The packet of a report.
unfoldable pub packet_of : Report → List ℕ
packet_of r = packet stick_op (data_of r)

-- ---- what reading answers

-- A report; "not for us", with OP and LEN; LEN over 16; a wrong CS; "unfinished", where the input ends inside a packet; nothing, where no
-- 0x2B is left.
pub data Answer : Type 0 where
  report : Report → Answer
  not_for_us : ℕ → ℕ → Answer
  length_over wrong_check unfinished nothing : Answer

-- What a packet with a good CS says: OP 01 with LEN 8 is a report, other OPs, or OP 01 with another LEN, are not for us.
abbrev pub meant : ℕ → ℕ → List ℕ → Answer
meant op len bytes = cond (eqb op stick_op && eqb len stick_data) (report (report_of bytes)) (not_for_us op len)

-- Document 02 names the answers and numbers none: here they are numbered in the order above.
abbrev pub answer_number : Answer → ℕ
answer_number (report r) = 0
answer_number (not_for_us op len) = 1
answer_number length_over = 2
answer_number wrong_check = 3
answer_number unfinished = 4
answer_number nothing = 5

-- The numbers that come with an answer: those of a report in document 02's order, or OP and LEN.
abbrev pub answer_values : Answer → List ℤ
answer_values (report r) = r.x ∷ r.y ∷ pos r.throttle ∷ pos r.buttons ∷ pos r.hat ∷ r.rudder ∷ []
answer_values (not_for_us op len) = pos op ∷ pos len ∷ []
answer_values length_over = []
answer_values wrong_check = []
answer_values unfinished = []
answer_values nothing = []

-- "Unfinished" and "nothing" wait for more bytes; after every other answer reading goes on.
abbrev pub waits : Answer → Bool
waits (report r) = false
waits (not_for_us op len) = false
waits length_over = false
waits wrong_check = false
waits unfinished = true
waits nothing = true

-- LEN over 16 and a wrong CS are refused.
abbrev pub refuses : Answer → Bool
refuses (report r) = false
refuses (not_for_us op len) = false
refuses length_over = true
refuses wrong_check = true
refuses unfinished = false
refuses nothing = false

-- An answer and the place where reading goes on.
pub record Read : Type 0 where
  pub answer : Answer
  pub next : ℕ

-- ---- a packet at the start of bytes: places are counted from its 0x2B

-- OP and LEN of bytes that begin with a packet; 0 where they are not there yet.
abbrev pub op_in : List ℕ → ℕ
op_in bytes = get_or bytes 1 0

abbrev pub len_in : List ℕ → ℕ
len_in bytes = get_or bytes 2 0

-- Its data bytes.
abbrev pub data_in : List ℕ → List ℕ
data_in bytes = take (len_in bytes) (drop head_bytes bytes)

-- How many bytes it takes to answer: a LEN over 16 is refused as soon as it is there, every other packet is judged when all of it is.
abbrev pub judged_by : ℕ → ℕ
judged_by len = cond (ltb most_data len) head_bytes (packet_bytes len)

-- An unfinished packet: reading stays at its 0x2B.
abbrev pub staying : Read
staying = record { answer = unfinished; next = 0 }

-- A refused one: reading resumes at the very next byte after the 0x2B.
abbrev pub refusing : Answer → Read
refusing why = record { answer = why; next = 1 }

-- A packet with a good CS: reading goes on after it.
abbrev pub passing : ℕ → Answer → Read
passing len what = record { answer = what; next = packet_bytes len }

-- What a packet with a good CS says.
abbrev pub contents : List ℕ → Answer
contents bytes = meant (op_in bytes) (len_in bytes) (data_in bytes)

-- CS is the exclusive or of all bytes before it.
abbrev pub good_check : List ℕ → Bool
good_check bytes = eqb (get_or bytes (head_bytes + len_in bytes) 0) (check_of (take (head_bytes + len_in bytes) bytes))

-- A packet of which all bytes are there: CS is judged first.
abbrev pub checked : ℕ → Bool → Answer → Read
checked len good what = cond good (passing len what) (refusing wrong_check)

-- A packet of which so many bytes are there.
abbrev pub judged : ℕ → ℕ → Bool → Answer → Read
judged size len good what = cond (ltb size (judged_by len)) staying (cond (ltb most_data len) (refusing length_over) (checked len good what))

-- The answer to bytes that begin with a 0x2B.
unfoldable pub packet_in : List ℕ → Read
packet_in bytes = judged (length bytes) (len_in bytes) (good_check bytes) (contents bytes)

-- ---- reading at a position of an input

-- How many bytes stand before the first 0x2B: all of them where there is none.
abbrev pub before_mark : List ℕ → ℕ
before_mark [] = 0
before_mark (b ∷ bs) = cond (eqb b mark) 0 (suc (before_mark bs))

-- No byte of these is a 0x2B.
abbrev pub no_mark : List ℕ → Bool
no_mark [] = true
no_mark (b ∷ bs) = not (eqb b mark) && no_mark bs

-- The place of the first 0x2B from a position on: the bytes before it are skipped. Where there is none it is the input's end, or the position
-- if that is past it.
abbrev pub mark_from : List ℕ → ℕ → ℕ
mark_from input at = at + before_mark (drop at input)

-- An answer whose place was counted from another one.
abbrev pub moved_by : ℕ → Read → Read
moved_by place r = record { answer = r.answer; next = place + r.next }

-- What is read at a position: the packet at the first 0x2B from there on, or nothing, at the input's end, also where the position is past it.
unfoldable pub read_at : List ℕ → ℕ → Read
read_at input at =
    let place = mark_from input at in
    cond (ltb place (length input)) (moved_by place (packet_in (drop place input))) (record { answer = nothing; next = length input })

-- The place up to which the bytes must be there for the answer at a position.
abbrev pub judged_up_to : List ℕ → ℕ → ℕ
judged_up_to input at = mark_from input at + judged_by (len_in (drop (mark_from input at) input))

-- Up to a place of an input stand the bytes of a report's packet, and the report is one that can be written.
pub record Stands (r : Report) (input : List ℕ) (end : ℕ) : Type 0 where
  pub sized : Sized r
  pub good : good_report r ≡ true
  pub room : stick_bytes ≤ end
  pub form : take stick_bytes (drop (end - stick_bytes) input) ≡ packet_of r

-- ---- all packets of an input

-- At most so many answers, from a position on, each from where the one before it says, up to the first that waits.
abbrev pub reads_by : ℕ → List ℕ → ℕ → List Read
reads_by zero input at = []
reads_by (suc turns) input at = read_at input at ∷ cond (waits (read_at input at).answer) [] (reads_by turns input (read_at input at).next)

-- All answers, from a position on: one turn for each byte, and one that waits, are enough.
abbrev pub reads : List ℕ → ℕ → List Read
reads input at = reads_by (suc (length input)) input at

-- The last answer waits, and no other does.
abbrev pub ends_waiting : List Read → Bool
ends_waiting [] = false
ends_waiting (r ∷ []) = waits r.answer
ends_waiting (r ∷ (q ∷ rs)) = not (waits r.answer) && ends_waiting (q ∷ rs)

-- The answers without the one that waits.
abbrev pub told : List Read → List Read
told [] = []
told (r ∷ rs) = cond (waits r.answer) [] (r ∷ told rs)

-- Where reading goes on after answers from a position on.
abbrev pub place_after : ℕ → List Read → ℕ
place_after at [] = at
place_after at (r ∷ rs) = place_after r.next rs

-- ---- writing: refusals 4, 5

-- In rising number: the report's values, the room in a buffer of so many bytes.
unfoldable pub write_verdict : Report → ℕ → ℕ → Verdict
write_verdict r at size = check (good_report r) value (check (room_for stick_bytes at size) no_room accepted)

-- The answer of a write: the verdict, and the need with NO ROOM.
pub record Written : Type 0 where
  pub verdict : Verdict
  pub need : ℕ

-- What `write` answers.
unfoldable pub write_call : Report → ℕ → ℕ → Written
write_call r at size =
    let v = write_verdict r at size in
    record { verdict = v; need = cond (eqb (verdict_number v) 5) stick_bytes 0 }

-- What is in the buffer afterwards: a refusal touches no byte.
unfoldable pub write_buffer : Report → ℕ → List ℕ → List ℕ
write_buffer r at buf = cond (is_accepted (write_verdict r at (length buf))) (lay at (packet_of r) buf) buf

-- Document 01's table for it: VALUE, NO ROOM.
abbrev pub force_rows : Report → ℕ → ℕ → List Row
force_rows r at size = unless 4 (good_report r) ∷ unless 5 (room_for stick_bytes at size) ∷ []
