-- Talking to the pod: document 02's K13, in its words and order, over the ikbd commands of source document 000, section 3.4.
-- Cited by the laws of proofs/Command.. and by the promises of the crate commands. Assumes nothing.
--
-- In this file: the ten commands, their numbers and which are good (Command, good_command); their bytes (command_bytes); the table of first bytes
-- (Kind, kind_of, length_of); what reading answers and where it goes on (Answer, Read), a command at the start of bytes (command_in), reading at a
-- position (read_at), commands one after the other (reads_by); writing (write_call, write_buffer) and its refusals (command_rows).
use Rattle.std.specs.Prelude.{◌≡◌, Bool, true, false, cond, not, ◌&&◌, List, [], ◌∷◌, ◌++◌, ℕ, zero, suc, ◌+◌, ◌/◌, ◌%◌, ◌≤◌, leb, ltb, eqb, ℤ, pos, length, take, drop}
use Rattle.model.specs.Numbers.{between}
use Rattle.model.specs.Records.{lay}
use Rattle.model.specs.Calls as C
use Rattle.model.specs.Calls.{Verdict, verdict_number, check, is_accepted, room_for}
use Rattle.model.specs.Refusals.{Row, unless}
use Rattle.model.specs.Pod as P
use Rattle.model.specs.Pod.{Clock, good_clock, clock_in, word, byte_at}

-- ---- the ten commands

-- Reset; mouse button action; relative mode; absolute mode with its limits; threshold; scale; interrogate and load position; time-of-day set and
-- ask.
pub data Command : Type 0 where
  reset : Command
  buttons : ℕ → Command
  relative : Command
  absolute threshold scale : ℕ → ℕ → Command
  interrogate : Command
  load : ℕ → ℕ → Command
  set_clock : Clock → Command
  ask_clock : Command

-- Document 02 numbers none of them: here they are numbered in its order.
abbrev pub command_number : Command → ℕ
command_number reset = 0
command_number (buttons action) = 1
command_number relative = 2
command_number (absolute x y) = 3
command_number (threshold x y) = 4
command_number (scale x y) = 5
command_number interrogate = 6
command_number (load x y) = 7
command_number (set_clock c) = 8
command_number ask_clock = 9

-- The numbers that a command carries, in the order of its bytes.
abbrev pub command_values : Command → List ℤ
command_values reset = []
command_values (buttons action) = pos action ∷ []
command_values relative = []
command_values (absolute x y) = pos x ∷ pos y ∷ []
command_values (threshold x y) = pos x ∷ pos y ∷ []
command_values (scale x y) = pos x ∷ pos y ∷ []
command_values interrogate = []
command_values (load x y) = pos x ∷ pos y ∷ []
command_values (set_clock c) = pos c.year ∷ pos c.month ∷ pos c.day ∷ pos c.hour ∷ pos c.minute ∷ pos c.second ∷ []
command_values ask_clock = []

-- The largest button action.
abbrev pub most_action : ℕ
most_action = 4

-- Threshold and scale are 1 to 255, each in x and in y.
abbrev pub ticks : ℕ → ℕ → Bool
ticks x y = between 1 255 x && between 1 255 y

-- A command is good: button action 0 to 4, threshold and scale 1 to 255, each clock byte two decimal digits. Any other is refused with 11.
abbrev pub good_command : Command → Bool
good_command reset = true
good_command (buttons action) = leb action most_action
good_command relative = true
good_command (absolute x y) = true
good_command (threshold x y) = ticks x y
good_command (scale x y) = ticks x y
good_command interrogate = true
good_command (load x y) = true
good_command (set_clock c) = good_clock c
good_command ask_clock = true

-- Absolute limits and positions are any 16 bits; every other number of a good command fits its byte.
abbrev pub wide : ℕ → ℕ → Bool
wide x y = ltb x 65_536 && ltb y 65_536

abbrev pub sized : Command → Bool
sized reset = true
sized (buttons action) = true
sized relative = true
sized (absolute x y) = wide x y
sized (threshold x y) = true
sized (scale x y) = true
sized interrogate = true
sized (load x y) = wide x y
sized (set_clock c) = true
sized ask_clock = true

-- ---- the byte form

-- A number of 16 bits as two bytes, the high one first, and what follows.
abbrev pub high : ℕ → ℕ
high n = n / 256 % 256

abbrev pub low : ℕ → ℕ
low n = n % 256

-- The byte that follows 0x80 in a reset,
abbrev pub reset_byte : ℕ
reset_byte = 0x01

-- and the filler of a load, which is no number of the command.
abbrev pub filler : ℕ
filler = 0

-- The bytes of a command, its first byte and what follows.
abbrev pub command_bytes : Command → List ℕ
command_bytes reset = 0x80 ∷ reset_byte ∷ []
command_bytes (buttons action) = 0x07 ∷ action ∷ []
command_bytes relative = 0x08 ∷ []
command_bytes (absolute x y) = 0x09 ∷ high x ∷ low x ∷ high y ∷ low y ∷ []
command_bytes (threshold x y) = 0x0b ∷ x ∷ y ∷ []
command_bytes (scale x y) = 0x0c ∷ x ∷ y ∷ []
command_bytes interrogate = 0x0d ∷ []
command_bytes (load x y) = 0x0e ∷ filler ∷ high x ∷ low x ∷ high y ∷ low y ∷ []
command_bytes (set_clock c) = 0x1b ∷ c.year ∷ c.month ∷ c.day ∷ c.hour ∷ c.minute ∷ c.second ∷ []
command_bytes ask_clock = 0x1c ∷ []

-- ---- the table of first bytes

-- The kinds of command, one for each, and the first bytes that are none's.
pub data Kind : Type 0 where
  reset_kind buttons_kind relative_kind absolute_kind threshold_kind scale_kind interrogate_kind load_kind set_clock_kind ask_clock_kind other_kind : Kind

-- What a first byte begins: one decision, in which any other first byte is not for us.
unfoldable pub kind_of : ℕ → Kind
kind_of b =
    cond (eqb b 0x80) reset_kind
    (cond (eqb b 0x07) buttons_kind
    (cond (eqb b 0x08) relative_kind
    (cond (eqb b 0x09) absolute_kind
    (cond (eqb b 0x0b) threshold_kind
    (cond (eqb b 0x0c) scale_kind
    (cond (eqb b 0x0d) interrogate_kind
    (cond (eqb b 0x0e) load_kind
    (cond (eqb b 0x1b) set_clock_kind
    (cond (eqb b 0x1c) ask_clock_kind
    other_kind)))))))))

-- The length of a command of each kind, its first byte included; a byte that is not for us stands alone.
abbrev pub length_of : Kind → ℕ
length_of reset_kind = 2
length_of buttons_kind = 2
length_of relative_kind = 1
length_of absolute_kind = 5
length_of threshold_kind = 3
length_of scale_kind = 3
length_of interrogate_kind = 1
length_of load_kind = 6
length_of set_clock_kind = 7
length_of ask_clock_kind = 1
length_of other_kind = 1

-- The kind of a command.
abbrev pub kind_is : Command → Kind
kind_is reset = reset_kind
kind_is (buttons action) = buttons_kind
kind_is relative = relative_kind
kind_is (absolute x y) = absolute_kind
kind_is (threshold x y) = threshold_kind
kind_is (scale x y) = scale_kind
kind_is interrogate = interrogate_kind
kind_is (load x y) = load_kind
kind_is (set_clock c) = set_clock_kind
kind_is ask_clock = ask_clock_kind

-- How many bytes a command has.
abbrev pub size_of : Command → ℕ
size_of c = length_of (kind_is c)

-- ---- what reading answers

-- A command; "lost", 0x80 and another byte; "not for us"; refused with 11; "unfinished", a command cut short; nothing, at the end of the input.
pub data Answer : Type 0 where
  command : Command → Answer
  lost not_for_us refused unfinished nothing : Answer

-- Document 02 names the answers and numbers none: here they are numbered in the order above.
abbrev pub answer_number : Answer → ℕ
answer_number (command c) = 0
answer_number lost = 1
answer_number not_for_us = 2
answer_number refused = 3
answer_number unfinished = 4
answer_number nothing = 5

-- The refusal number of an answer: 11 for a whole command that is not good, else 0.
abbrev pub answer_refusal : Answer → ℕ
answer_refusal (command c) = 0
answer_refusal lost = 0
answer_refusal not_for_us = 0
answer_refusal refused = 11
answer_refusal unfinished = 0
answer_refusal nothing = 0

-- The numbers that come with an answer: a command's own number, and then those that it carries.
abbrev pub answer_values : Answer → List ℤ
answer_values (command c) = pos (command_number c) ∷ command_values c
answer_values lost = []
answer_values not_for_us = []
answer_values refused = []
answer_values unfinished = []
answer_values nothing = []

-- "Unfinished" and "nothing" wait for more bytes; after every other answer reading goes on.
abbrev pub waits : Answer → Bool
waits (command c) = false
waits lost = false
waits not_for_us = false
waits refused = false
waits unfinished = true
waits nothing = true

-- An answer and the place where reading goes on.
pub record Read : Type 0 where
  pub answer : Answer
  pub next : ℕ

-- ---- a command at the start of bytes: places are counted from its first byte

-- A command is taken if it is good.
abbrev pub taken : Command → Answer
taken c = cond (good_command c) (command c) refused

-- 0x80 followed by 0x01 is a reset, and by any other byte loses both.
abbrev pub judged_reset : ℕ → Answer
judged_reset second = cond (eqb second reset_byte) (command reset) lost

-- What a whole command says, by its kind; a load's filler is judged too.
abbrev pub judged : Kind → List ℕ → Answer
judged reset_kind b = judged_reset (byte_at b 1)
judged buttons_kind b = taken (buttons (byte_at b 1))
judged relative_kind b = command relative
judged absolute_kind b = command (absolute (word (byte_at b 1) (byte_at b 2)) (word (byte_at b 3) (byte_at b 4)))
judged threshold_kind b = taken (threshold (byte_at b 1) (byte_at b 2))
judged scale_kind b = taken (scale (byte_at b 1) (byte_at b 2))
judged interrogate_kind b = command interrogate
judged load_kind b = cond (eqb (byte_at b 1) filler) (command (load (word (byte_at b 2) (byte_at b 3)) (word (byte_at b 4) (byte_at b 5)))) refused
judged set_clock_kind b = taken (set_clock (clock_in b))
judged ask_clock_kind b = command ask_clock
judged other_kind b = not_for_us

-- By a kind: cut short it is unfinished, and reading stays at its first byte, even where a byte is wrong already; else reading goes past it, also
-- where it is refused or lost.
abbrev pub read_by : Kind → List ℕ → Read
read_by k bytes = cond (ltb (length bytes) (length_of k)) (record { answer = unfinished; next = 0 }) (record { answer = judged k bytes; next = length_of k })

-- The answer to bytes of which there is at least one.
unfoldable pub command_in : List ℕ → Read
command_in bytes = read_by (kind_of (byte_at bytes 0)) bytes

-- ---- reading at a position of an input

-- An answer whose place was counted from another one.
abbrev pub moved_by : ℕ → Read → Read
moved_by place r = record { answer = r.answer; next = place + r.next }

-- What is read at a position: the command that begins there, or nothing, at the input's end, also where the position is past it.
unfoldable pub read_at : List ℕ → ℕ → Read
read_at input at = cond (ltb at (length input)) (moved_by at (command_in (drop at input))) (record { answer = nothing; next = length input })

-- The bytes of commands, one after the other.
abbrev pub all_bytes : List Command → List ℕ
all_bytes [] = []
all_bytes (c ∷ cs) = command_bytes c ++ all_bytes cs

-- Every command of a list is good and fits its bytes.
abbrev pub all_good : List Command → Bool
all_good [] = true
all_good (c ∷ cs) = (good_command c && sized c) && all_good cs

-- At a place of an input stand the bytes of a command, and it is one that can be written.
pub record Stands (c : Command) (input : List ℕ) (at : ℕ) : Type 0 where
  pub good : good_command c ≡ true
  pub fits : sized c ≡ true
  pub room : at + size_of c ≤ length input
  pub form : take (size_of c) (drop at input) ≡ command_bytes c

-- At most so many answers, from a position on, each from where the one before it says, up to the first that waits.
abbrev pub reads_by : ℕ → List ℕ → ℕ → List Read
reads_by zero input at = []
reads_by (suc turns) input at = read_at input at ∷ cond (waits (read_at input at).answer) [] (reads_by turns input (read_at input at).next)

-- All answers, from a position on: one turn for each byte, and one that waits, are enough.
abbrev pub reads : List ℕ → ℕ → List Read
reads input at = reads_by (suc (length input)) input at

-- The last answer waits, and no other does.
abbrev pub ends_waiting : List Read → Bool
ends_waiting [] = false
ends_waiting (r ∷ []) = waits r.answer
ends_waiting (r ∷ (q ∷ rs)) = not (waits r.answer) && ends_waiting (q ∷ rs)

-- The answers that are these commands, one after the other from a place on.
abbrev pub standing : ℕ → List Command → List Read
standing at [] = []
standing at (c ∷ cs) = record { answer = command c; next = at + size_of c } ∷ standing (at + size_of c) cs

-- ---- writing, with the pod's state in hand: refusals 2, 5, 11

-- In rising number: the pod's state, the room in a buffer of so many bytes, the command.
unfoldable pub write_verdict : P.State → Command → ℕ → ℕ → Verdict
write_verdict s c at size =
    check (P.well_formed s) C.state (check (room_for (size_of c) at size) C.no_room (check (good_command c) C.command C.accepted))

-- The pod's state after a command was written: a reset puts it back to the fresh one of K3, every other leaves it as it came.
abbrev pub state_after : Command → P.State → P.State
state_after reset s = P.after_reset s
state_after (buttons action) s = s
state_after relative s = s
state_after (absolute x y) s = s
state_after (threshold x y) s = s
state_after (scale x y) s = s
state_after interrogate s = s
state_after (load x y) s = s
state_after (set_clock c) s = s
state_after ask_clock s = s

-- The answer of a write: the verdict, the pod's state, and the need with NO ROOM.
pub record Written : Type 0 where
  pub verdict : Verdict
  pub state : P.State
  pub need : ℕ

-- What `write` answers.
unfoldable pub write_call : P.State → Command → ℕ → ℕ → Written
write_call s c at size =
    let v = write_verdict s c at size in
    record { verdict = v; state = cond (is_accepted v) (state_after c s) s; need = cond (eqb (verdict_number v) 5) (size_of c) 0 }

-- What is in the buffer afterwards: a refusal touches no byte.
unfoldable pub write_buffer : P.State → Command → ℕ → List ℕ → List ℕ
write_buffer s c at buf = cond (is_accepted (write_verdict s c at (length buf))) (lay at (command_bytes c) buf) buf

-- Document 01's table for it, with 02's 11: STATE, NO ROOM, COMMAND.
abbrev pub command_rows : P.State → Command → ℕ → ℕ → List Row
command_rows s c at size = unless 2 (P.well_formed s) ∷ unless 5 (room_for (size_of c) at size) ∷ unless 11 (good_command c) ∷ []
