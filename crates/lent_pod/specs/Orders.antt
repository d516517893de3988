-- The commands to the pod as numbers, for a host that lends the pod's state as bytes: what the calls answer by the library's. Assumes nothing.
use Rattle.std.specs.Prelude.{◌≡◌, Bool, true, false, cond, ◌&&◌, List, [], ◌∷◌, map, ℕ, leb, eqb, length, get_or}
use Rattle.model.specs.Calls as C
use Rattle.model.specs.Calls.{verdict_number, is_accepted}
use Rattle.model.specs.Pod as P
use Rattle.model.specs.Commands as M
use Rattle.common.specs.Seen.{natural}
use Rattle.pod.specs.declared.PodState.{PodState}
use Rattle.pod.specs.Seen.{seen as pod_seen, held as pod_held}
use Rattle.commands.specs.declared.Command.{Command}
use Rattle.commands.specs.Seen.{seen, held}
use Rattle.lent_pod.specs.declared.Named.{Named}
use Rattle.lent_pod.specs.declared.Named.TheVariants as N
use Rattle.lent_pod.specs.Pods.{formed, unpacked, packed, padded}

-- ---- a command's seven numbers

-- The largest number of a byte, and of 16 bits.
abbrev pub most_byte : ℕ
most_byte = 255

abbrev pub most_word : ℕ
most_word = 65_535

-- The largest number of a command.
abbrev pub last_command : ℕ
last_command = 9

-- A command as seven numbers: its own number, and then those that it carries.
abbrev pub command_told : M.Command → List ℕ
command_told c = padded 0 7 (M.command_number c ∷ map natural (M.command_values c))

-- The clock of the numbers at places 1 to 6.
abbrev pub clock_of : List ℕ → P.Clock
clock_of ns = record {
  year = get_or ns 1 0;
  month = get_or ns 2 0;
  day = get_or ns 3 0;
  hour = get_or ns 4 0;
  minute = get_or ns 5 0;
  second = get_or ns 6 0;
}

-- The command of a number, with what it carries at places 1 to 6; numbers past its own are not looked at. Of a number over 9 it is not looked at.
unfoldable pub command_by : ℕ → List ℕ → M.Command
command_by k ns =
    cond (eqb k 0) M.reset
    (cond (eqb k 1) (M.buttons (get_or ns 1 0))
    (cond (eqb k 2) M.relative
    (cond (eqb k 3) (M.absolute (get_or ns 1 0) (get_or ns 2 0))
    (cond (eqb k 4) (M.threshold (get_or ns 1 0) (get_or ns 2 0))
    (cond (eqb k 5) (M.scale (get_or ns 1 0) (get_or ns 2 0))
    (cond (eqb k 6) M.interrogate
    (cond (eqb k 7) (M.load (get_or ns 1 0) (get_or ns 2 0))
    (cond (eqb k 8) (M.set_clock (clock_of ns))
    M.ask_clock))))))))

-- The command that numbers name.
abbrev pub command_in : List ℕ → M.Command
command_in ns = command_by (get_or ns 0 0) ns

-- Both numbers are at most a top.
abbrev pub both_up_to : ℕ → ℕ → ℕ → Bool
both_up_to top x y = leb x top && leb y top

-- All three are bytes.
abbrev pub three_bytes : ℕ → ℕ → ℕ → Bool
three_bytes a b c = leb a most_byte && both_up_to most_byte b c

-- Each number that a command carries is one that its type holds: limits and positions have 16 bits, every other is a byte.
abbrev pub typed : M.Command → Bool
typed M.reset = true
typed (M.buttons action) = leb action most_byte
typed M.relative = true
typed (M.absolute x y) = both_up_to most_word x y
typed (M.threshold x y) = both_up_to most_byte x y
typed (M.scale x y) = both_up_to most_byte x y
typed M.interrogate = true
typed (M.load x y) = both_up_to most_word x y
typed (M.set_clock c) = three_bytes c.year c.month c.day && three_bytes c.hour c.minute c.second
typed M.ask_clock = true

-- Numbers name a command: there is one of that number, and its types hold what it carries.
abbrev pub named_by : ℕ → List ℕ → Bool
named_by k ns = leb k last_command && typed (command_by k ns)

abbrev pub named : List ℕ → Bool
named ns = named_by (get_or ns 0 0) ns

-- A command as the code has it where numbers name it, and none where they do not.
abbrev pub held_named : Bool → M.Command → Named
held_named true c = N.Command (held c)
held_named false c = N.Nothing

-- ---- writing

-- A write that is refused before the library is asked: the pod's state as it came, and no need.
abbrev pub unwritten : C.Verdict → P.State → M.Written
unwritten v s = record { verdict = v; state = s; need = 0 }

-- What the library answers of the state that bytes hold and the command that numbers name. Bytes without the form, and a state that is not well
-- formed, are refused by 2; then numbers that name no command by 11, before the room is judged.
abbrev pub write_of : List ℕ → List ℕ → ℕ → ℕ → M.Written
write_of b ns at size =
    let s = pod_seen (unpacked b) in
    cond (formed b && P.well_formed s) (cond (named ns) (M.write_call s (command_in ns) at size) (unwritten C.command s)) (unwritten C.state s)

-- The state's bytes after it: the packed state where it is accepted, else as they were.
abbrev pub write_bytes : List ℕ → M.Written → List ℕ
write_bytes b w = cond (is_accepted w.verdict) (packed (pod_held w.state)) b

-- The buffer after it.
abbrev pub buffer_after : List ℕ → List ℕ → ℕ → List ℕ → List ℕ
buffer_after b ns at buf =
    let s = pod_seen (unpacked b) in
    cond (formed b && P.well_formed s) (cond (named ns) (M.write_buffer s (command_in ns) at buf) buf) buf

-- What the library's write of a command promises with the pod's state in these bytes, which are packed anew where it is accepted.
pub record Asked (s : PodState) (c : Command) (at : ℕ) (before buf : List ℕ) (r : ℕ) (after told left : List ℕ) : Type 0 where
  pub number : r ≡ verdict_number (M.write_call (pod_seen s) (seen c) at (length buf)).verdict
  pub state : after ≡ write_bytes before (M.write_call (pod_seen s) (seen c) at (length buf))
  pub answer : told ≡ (M.write_call (pod_seen s) (seen c) at (length buf)).need ∷ []
  pub buffer : left ≡ M.write_buffer (pod_seen s) (seen c) at buf

-- What `command_write` promises of its number r, of the state's bytes after it, of its answer, which is the need alone, and of the buffer after it.
pub record CommandWritten (before ns : List ℕ) (at : ℕ) (buf : List ℕ) (r : ℕ) (after told left : List ℕ) : Type 0 where
  pub number : r ≡ verdict_number (write_of before ns at (length buf)).verdict
  pub state : after ≡ write_bytes before (write_of before ns at (length buf))
  pub answer : told ≡ (write_of before ns at (length buf)).need ∷ []
  pub buffer : left ≡ buffer_after before ns at buf

-- ---- reading

-- An answer as eight numbers, of which the first is its name's: 0 nothing, 1 a command with its seven, 2 lost, 3 not for us, 4 refused by 11, 5
-- unfinished.
abbrev pub order_told : M.Answer → List ℕ
order_told M.nothing = padded 0 8 (0 ∷ [])
order_told (M.command c) = 1 ∷ command_told c
order_told M.lost = padded 0 8 (2 ∷ [])
order_told M.not_for_us = padded 0 8 (3 ∷ [])
order_told M.refused = padded 0 8 (4 ∷ [])
order_told M.unfinished = padded 0 8 (5 ∷ [])

-- What `command_read` promises of its result r, which is where reading goes on, and of its answer.
pub record CommandRead (input : List ℕ) (at : ℕ) (r : ℕ) (told : List ℕ) : Type 0 where
  pub next : r ≡ (M.read_at input at).next
  pub answer : told ≡ order_told (M.read_at input at).answer
