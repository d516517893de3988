-- Pod reports: the definitions of document 01's part of that name, in its words and order, with 02's K3: a fresh state waits for
-- the pod's "self-test passed", and K13's report of the time of day. Cited by the laws of proofs/Pod and proofs/SelfTest and by the promises of the crate pod. Assumes nothing.
--
-- In this file: 01's table of first bytes (Kind, kind_of, length_of) and K3's (amended); the state (State, held_in, holding, fresh) and
-- when it is well formed (well_formed); a clock (Clock, good_clock); the answer (Report) with its refusal number and its numbers; the judging of a whole report
-- (judged); a byte after the bytes held (fed), a step of a state (step_by, step), a run over bytes (run_by, run, answers_by). The machine
-- is one, over any table of first bytes: 01's reads by `unamended`, K3's by `amended`.
use Rattle.std.specs.Prelude.{◌≡◌, Bool, true, false, cond, not, ◌&&◌, List, [], ◌∷◌, ◌++◌, ℕ, suc, ◌+◌, ◌-◌, ◌*◌, ◌/◌, ◌%◌, leb, ltb, eqb, ℤ, pos, negsuc, length, get_or, take, drop, set, replicate}
use Rattle.model.specs.Numbers.{between}

-- ---- the table of first bytes

-- The kinds of report, one for each row of the table, with what the first byte alone says: the key; left and right; which stick.
pub data Kind : Type 0 where
  key_down_report key_up_report : ℕ → Kind
  absolute_report : Kind
  relative_report : Bool → Bool → Kind
  time_report both_sticks_report : Kind
  one_stick_report : ℕ → Kind
  self_test_report bad_byte_report : Kind

-- The report that a first byte opens in document 01, with the row that K13 adds: one decision by ranges, in which bit 1 is left and bit 0
-- right, 0xFC is the time of day, 0xFE is stick 0, and a byte in no range is a bad byte.
unfoldable pub kind_of : ℕ → Kind
kind_of b =
    cond (between 0x01 0x75 b) (key_down_report b)
    (cond (between 0x81 0xf5 b) (key_up_report (b - 0x80))
    (cond (between 0xf7 0xf7 b) absolute_report
    (cond (between 0xf8 0xfb b) (relative_report (eqb (b / 2 % 2) 1) (eqb (b % 2) 1))
    (cond (between 0xfc 0xfc b) time_report
    (cond (between 0xfd 0xfd b) both_sticks_report
    (cond (between 0xfe 0xff b) (one_stick_report (b - 0xfe))
    bad_byte_report))))))

-- The byte that a pod sends after power-up or reset where its self-test passed.
abbrev pub self_test : ℕ
self_test = 0xf0

-- The report that a first byte opens in K3, where the state waits or does not: a 0xF0 while waiting is the passed self-test, every
-- other byte goes by 01's table.
unfoldable pub amended : Bool → ℕ → Kind
amended waits b = cond (waits && eqb b self_test) self_test_report (kind_of b)

-- 01's table in the same form: it does not look at the wait.
abbrev pub unamended : Bool → ℕ → Kind
unamended waits b = kind_of b

-- The length of a report of each kind, its first byte included.
abbrev pub length_of : Kind → ℕ
length_of (key_down_report key) = 1
length_of (key_up_report key) = 1
length_of absolute_report = 6
length_of (relative_report left right) = 3
length_of time_report = 7
length_of both_sticks_report = 3
length_of (one_stick_report which) = 2
length_of self_test_report = 1
length_of bad_byte_report = 1

-- ---- the state

-- The number of places for held bytes: one fewer than the longest report has, since its last byte is never held.
abbrev pub places : ℕ
places = 6

-- A state: whether it waits for "self-test passed", the bytes in all its places, and how many of them, from the first on, are used.
-- What matters besides the wait is the list of the bytes held: `held_in` reads it off a state, `holding` lays it out with 0 in the unused
-- places, and on well-formed states each undoes the other (held-holding and holding-held, in proofs/Pod).
pub record State : Type 0 where
  pub waits : Bool
  pub bytes : List ℕ
  pub count : ℕ

-- The bytes that a state holds: those in its used places.
abbrev pub held_in : State → List ℕ
held_in s = take s.count s.bytes

-- The bytes in the places that a state does not use.
abbrev pub unused_in : State → List ℕ
unused_in s = drop s.count s.bytes

-- The state that waits or does not and holds these bytes, with 0 in its unused places.
abbrev pub holding : Bool → List ℕ → State
holding waits held = record { waits = waits; bytes = held ++ replicate (places - length held) 0; count = length held }

-- The state that holds nothing.
abbrev pub emptied : Bool → State
emptied waits = holding waits []

-- The fresh state holds nothing and waits.
abbrev pub fresh : State
fresh = emptied true

-- The state after a reset of the pod, whatever it was before: the fresh one, since the pod then says again that its self-test passed.
abbrev pub after_reset : State → State
after_reset s = fresh

-- The first byte held, if any, opens a longer report, and fewer bytes are held than its length.
abbrev pub unfinished : List ℕ → Bool
unfinished [] = true
unfinished (first ∷ rest) = ltb 1 (length_of (kind_of first)) && ltb (length (first ∷ rest)) (length_of (kind_of first))

-- Every byte of the list is 0.
abbrev pub zeros : List ℕ → Bool
zeros [] = true
zeros (b ∷ bs) = eqb b 0 && zeros bs

-- A state is well formed: it has its places, it holds 0 to 6 bytes, these begin a longer report, and unused places are 0. It may wait
-- or not.
unfoldable pub well_formed : State → Bool
well_formed s = eqb (length s.bytes) places && (leb s.count places && (unfinished (held_in s) && zeros (unused_in s)))

-- ---- the clock of K13

-- A time of day: six clock bytes, as they stand on the line.
pub record Clock : Type 0 where
  pub year : ℕ
  pub month : ℕ
  pub day : ℕ
  pub hour : ℕ
  pub minute : ℕ
  pub second : ℕ

-- A clock byte is two decimal digits, packed: 0x59 is fifty-nine, and 0x5A is none.
abbrev pub good_digits : ℕ → Bool
good_digits b = leb (b / 16) 9 && leb (b % 16) 9

-- Three clock bytes.
abbrev pub good_three : ℕ → ℕ → ℕ → Bool
good_three a b c = good_digits a && (good_digits b && good_digits c)

-- Each clock byte has two decimal digits; the ranges of months and hours are not judged.
abbrev pub good_clock : Clock → Bool
good_clock c = good_three c.year c.month c.day && good_three c.hour c.minute c.second

-- ---- the answer

-- What a byte is answered: flags, x and y of an absolute report; left, right, dx and dy of a relative one; the time of day; trigger and
-- position of stick 0 and of stick 1; the number of a single stick with its trigger and position.
pub data Report : Type 0 where
  more : Report
  key_down key_up : ℕ → Report
  absolute : ℕ → ℕ → ℕ → Report
  relative : Bool → Bool → ℤ → ℤ → Report
  time_of_day : Clock → Report
  both_sticks : Bool → ℕ → Bool → ℕ → Report
  one_stick : ℕ → Bool → ℕ → Report
  self_test_passed bad_byte bad_report refused : Report

-- The refusal number of each answer: 2 (STATE) for a state that is not well formed, else 0.
abbrev pub report_refusal : Report → ℕ
report_refusal more = 0
report_refusal (key_down key) = 0
report_refusal (key_up key) = 0
report_refusal (absolute flags x y) = 0
report_refusal (relative left right dx dy) = 0
report_refusal (time_of_day c) = 0
report_refusal (both_sticks t0 p0 t1 p1) = 0
report_refusal (one_stick which t p) = 0
report_refusal self_test_passed = 0
report_refusal bad_byte = 0
report_refusal bad_report = 0
report_refusal refused = 2

-- A button or trigger as a number: 1 if set, else 0.
abbrev pub digit : Bool → ℤ
digit b = cond b (pos 1) (pos 0)

-- The numbers of each answer, in the order of the table.
abbrev pub report_numbers : Report → List ℤ
report_numbers more = []
report_numbers (key_down key) = pos key ∷ []
report_numbers (key_up key) = pos key ∷ []
report_numbers (absolute flags x y) = pos flags ∷ pos x ∷ pos y ∷ []
report_numbers (relative left right dx dy) = digit left ∷ digit right ∷ dx ∷ dy ∷ []
report_numbers (time_of_day c) = pos c.year ∷ pos c.month ∷ pos c.day ∷ pos c.hour ∷ pos c.minute ∷ pos c.second ∷ []
report_numbers (both_sticks t0 p0 t1 p1) = digit t0 ∷ pos p0 ∷ digit t1 ∷ pos p1 ∷ []
report_numbers (one_stick which t p) = pos which ∷ digit t ∷ pos p ∷ []
report_numbers self_test_passed = []
report_numbers bad_byte = []
report_numbers bad_report = []
report_numbers refused = []

-- An answer ends its report: each but "more", and but a refusal, which reads no byte.
abbrev pub ends : Report → Bool
ends more = false
ends (key_down key) = true
ends (key_up key) = true
ends (absolute flags x y) = true
ends (relative left right dx dy) = true
ends (time_of_day c) = true
ends (both_sticks t0 p0 t1 p1) = true
ends (one_stick which t p) = true
ends self_test_passed = true
ends bad_byte = true
ends bad_report = true
ends refused = false

-- An answer says that the self-test passed.
abbrev pub passed : Report → Bool
passed more = false
passed (key_down key) = false
passed (key_up key) = false
passed (absolute flags x y) = false
passed (relative left right dx dy) = false
passed (time_of_day c) = false
passed (both_sticks t0 p0 t1 p1) = false
passed (one_stick which t p) = false
passed self_test_passed = true
passed bad_byte = false
passed bad_report = false
passed refused = false

-- Whether a state waits after an answer: "self-test passed" ends the wait, and nothing else touches it.
abbrev pub waits_after : Bool → Report → Bool
waits_after waits r = not (passed r) && waits

-- ---- the judging of a whole report

-- Two bytes as one number, the high one first.
abbrev pub word : ℕ → ℕ → ℕ
word high low = 256 * high + low

-- A byte in two's complement: from 0x80 up it is negative, 0x80 itself is -128.
unfoldable pub signed : ℕ → ℤ
signed b = cond (ltb b 0x80) (pos b) (negsuc (0xff - b))

-- A flag byte is 0000dcba: its upper four bits are 0.
abbrev pub good_flags : ℕ → Bool
good_flags b = eqb (b / 16) 0

-- A stick byte is x000yyyy: bits 4, 5 and 6 are 0.
abbrev pub good_stick : ℕ → Bool
good_stick b = eqb (b / 16 % 8) 0

-- The trigger of a stick byte, x of x000yyyy.
abbrev pub trigger : ℕ → Bool
trigger b = eqb (b / 128) 1

-- The position of a stick byte, yyyy of x000yyyy.
abbrev pub position : ℕ → ℕ
position b = b % 16

-- An absolute report: a set upper flag bit makes it bad.
abbrev pub judged_absolute : ℕ → ℕ → ℕ → Report
judged_absolute flags x y = cond (good_flags flags) (absolute flags x y) bad_report

-- A report of the time of day: a wrong digit makes it bad.
abbrev pub judged_time : Clock → Report
judged_time c = cond (good_clock c) (time_of_day c) bad_report

-- A report of both sticks, by their stick bytes: a set bit 4, 5 or 6 in one of them makes it bad.
abbrev pub judged_both : ℕ → ℕ → Report
judged_both s0 s1 = cond (good_stick s0 && good_stick s1) (both_sticks (trigger s0) (position s0) (trigger s1) (position s1)) bad_report

-- A report of one stick, by its stick byte, judged likewise.
abbrev pub judged_stick : ℕ → ℕ → Report
judged_stick which s = cond (good_stick s) (one_stick which (trigger s) (position s)) bad_report

-- The byte at a place of a report, the first byte at place 0.
abbrev pub byte_at : List ℕ → ℕ → ℕ
byte_at report i = get_or report i 0

-- The clock of six bytes after the first.
abbrev pub clock_in : List ℕ → Clock
clock_in r = record {
  year = byte_at r 1;
  month = byte_at r 2;
  day = byte_at r 3;
  hour = byte_at r 4;
  minute = byte_at r 5;
  second = byte_at r 6;
}

-- A whole report of a kind, by its bytes.
abbrev pub judged : Kind → List ℕ → Report
judged (key_down_report key) r = key_down key
judged (key_up_report key) r = key_up key
judged absolute_report r = judged_absolute (byte_at r 1) (word (byte_at r 2) (byte_at r 3)) (word (byte_at r 4) (byte_at r 5))
judged (relative_report left right) r = relative left right (signed (byte_at r 1)) (signed (byte_at r 2))
judged time_report r = judged_time (clock_in r)
judged both_sticks_report r = judged_both (byte_at r 1) (byte_at r 2)
judged (one_stick_report which) r = judged_stick which (byte_at r 1)
judged self_test_report r = self_test_passed
judged bad_byte_report r = bad_byte

-- ---- a byte, and a run of bytes

-- The bytes held after a byte, with its answer.
pub record Fed : Type 0 where
  pub held : List ℕ
  pub report : Report

-- The first byte of the report to which a byte belongs: the byte itself where nothing is held.
abbrev pub first_of : List ℕ → ℕ → ℕ
first_of [] b = b
first_of (first ∷ rest) b = first

-- A byte that is not its report's last one is held too, and the answer is "more".
abbrev pub keeping : List ℕ → Fed
keeping bytes = record { held = bytes; report = more }

-- A report's last byte has it judged, and nothing is held: the next byte is a first byte, also after a bad one.
abbrev pub ending : Report → Fed
ending r = record { held = []; report = r }

-- A byte after the bytes held, by the kind of the report that it belongs to.
abbrev pub fed_to : Kind → List ℕ → Fed
fed_to k bytes = cond (ltb (length bytes) (length_of k)) (keeping bytes) (ending (judged k bytes))

-- A byte after the bytes held, by a table of first bytes.
unfoldable pub fed : (ℕ → Kind) → List ℕ → ℕ → Fed
fed table held b = fed_to (table (first_of held b)) (held ++ b ∷ [])

-- A state after a byte, with the byte's answer.
pub record Stepped : Type 0 where
  pub state : State
  pub report : Report

-- What was held and answered after a state that waited or did not, as a state and an answer.
abbrev pub accepted : Bool → Fed → Stepped
accepted waits f = record { state = holding (waits_after waits f.report) f.held; report = f.report }

-- A state that is not well formed is refused: it comes back as it is, and the byte is not read.
abbrev pub refusing : State → Stepped
refusing s = record { state = s; report = refused }

-- One byte, by a table of first bytes for states that wait and for those that do not.
unfoldable pub step_by : (Bool → ℕ → Kind) → State → ℕ → Stepped
step_by table s b = cond (well_formed s) (accepted s.waits (fed (table s.waits) (held_in s) b)) (refusing s)

-- One byte.
abbrev pub step : State → ℕ → Stepped
step = step_by amended

-- The state after a run over bytes, and the answers other than "more", in order.
pub record Ran : Type 0 where
  pub state : State
  pub reports : List Report

-- An answer as it counts in a run: "more" is none.
abbrev pub told : Report → List Report
told more = []
told (key_down key) = key_down key ∷ []
told (key_up key) = key_up key ∷ []
told (absolute flags x y) = absolute flags x y ∷ []
told (relative left right dx dy) = relative left right dx dy ∷ []
told (time_of_day c) = time_of_day c ∷ []
told (both_sticks t0 p0 t1 p1) = both_sticks t0 p0 t1 p1 ∷ []
told (one_stick which t p) = one_stick which t p ∷ []
told self_test_passed = self_test_passed ∷ []
told bad_byte = bad_byte ∷ []
told bad_report = bad_report ∷ []
told refused = refused ∷ []

-- A run's answers with others before them.
abbrev pub after : List Report → Ran → Ran
after earlier r = record { state = r.state; reports = earlier ++ r.reports }

-- A run over bytes, one step for each, by a table of first bytes.
abbrev pub run_by : (Bool → ℕ → Kind) → State → List ℕ → Ran
run_by table s [] = record { state = s; reports = [] }
run_by table s (b ∷ bs) = after (told (step_by table s b).report) (run_by table (step_by table s b).state bs)

-- A run over bytes.
abbrev pub run : State → List ℕ → Ran
run = run_by amended

-- ---- K3 beside document 01

-- The answers to bytes, one for each byte, "more" too.
abbrev pub answers_by : (Bool → ℕ → Kind) → State → List ℕ → List Report
answers_by table s [] = []
answers_by table s (b ∷ bs) = (step_by table s b).report ∷ answers_by table (step_by table s b).state bs

-- Those of them that count in a run.
abbrev pub told_of : List Report → List Report
told_of [] = []
told_of (r ∷ rs) = told r ++ told_of rs

-- Nothing is held: the next byte stands as a first byte.
abbrev pub nothing_held : List ℕ → Bool
nothing_held [] = true
nothing_held (first ∷ rest) = false

-- A byte is a 0xF0 that stands as a first byte.
abbrev pub self_test_here : State → ℕ → Bool
self_test_here s b = nothing_held (held_in s) && eqb b self_test

-- How many bytes come before the first 0xF0 that stands as a first byte: all of them where there is none.
abbrev pub before_self_test : State → List ℕ → ℕ
before_self_test s [] = 0
before_self_test s (b ∷ bs) = cond (self_test_here s b) 0 (suc (before_self_test (step_by unamended s b).state bs))

-- A state with this wait, otherwise as it was.
abbrev pub waiting : Bool → State → State
waiting w s = record { waits = w; bytes = s.bytes; count = s.count }

-- What a state makes of bytes is what document 01's machine does, but for one answer: the first 0xF0 that stands as a first byte, if there
-- is one, says that the self-test passed. The same bytes are held at the end, and the state waits on where there was none.
pub record DiffersOnce (s : State) (bs : List ℕ) : Type 0 where
  pub answers : answers_by amended s bs ≡ set (answers_by unamended s bs) (before_self_test s bs) self_test_passed
  pub state : (run s bs).state ≡ waiting (leb (length bs) (before_self_test s bs)) (run_by unamended s bs).state
