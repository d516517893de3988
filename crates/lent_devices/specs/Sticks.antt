-- The force stick for a host that has reports and answers as numbers: what the calls answer by the library's. Assumes nothing.
use Rattle.std.specs.Prelude.{◌≡◌, Bool, cond, ◌&&◌, List, [], ◌∷◌, ℕ, ℤ, pos, length, get_or}
use Rattle.model.specs.Numbers.{between_z}
use Rattle.model.specs.Calls.{value, verdict_number}
use Rattle.model.specs.Force as M
use Rattle.common.specs.Seen.{natural}

-- ---- a report's six numbers: x, y, throttle, buttons, hat, rudder

-- The number at a place; 0 where there is none.
abbrev pub number_at : List ℤ → ℕ → ℤ
number_at l i = get_or l i (pos 0)

-- A number of 0 to a top.
abbrev pub up_to : ℕ → ℤ → Bool
up_to top z = between_z (pos 0) (pos top) z

-- The largest number of an unsigned byte, and of 16 bits.
abbrev pub most_byte : ℕ
most_byte = 255

abbrev pub most_word : ℕ
most_word = 65_535

-- Each number is one that the report's type holds: x and y signed 16 bits, buttons 16 bits, throttle and hat a byte, rudder a signed byte.
unfoldable pub typed : List ℤ → Bool
typed l =
    M.fits_in M.word_values (number_at l 0)
    && (M.fits_in M.word_values (number_at l 1)
    && (up_to most_byte (number_at l 2)
    && (up_to most_word (number_at l 3)
    && (up_to most_byte (number_at l 4)
    && M.fits_in M.byte_values (number_at l 5)))))

-- The report of six numbers; of numbers that its type does not hold it is not looked at.
abbrev pub report_in : List ℤ → M.Report
report_in l = record {
  x = number_at l 0;
  y = number_at l 1;
  throttle = natural (number_at l 2);
  buttons = natural (number_at l 3);
  hat = natural (number_at l 4);
  rudder = number_at l 5;
}

-- ---- writing

-- What the library answers of the report; a number that its type does not hold is refused by 4, as buttons over 4,095 are.
abbrev pub write_of : List ℤ → ℕ → ℕ → M.Written
write_of l at size = cond (typed l) (M.write_call (report_in l) at size) (record { verdict = value; need = 0 })

-- The buffer after it.
abbrev pub buffer_after : List ℤ → ℕ → List ℕ → List ℕ
buffer_after l at buf = cond (typed l) (M.write_buffer (report_in l) at buf) buf

-- What `force_write` promises of its number r, of its answer, which is the need alone, and of the buffer after it.
pub record ForceWritten (l : List ℤ) (at : ℕ) (before : List ℕ) (r : ℕ) (told after : List ℕ) : Type 0 where
  pub number : r ≡ verdict_number (write_of l at (length before)).verdict
  pub answer : told ≡ (write_of l at (length before)).need ∷ []
  pub buffer : after ≡ buffer_after l at before

-- ---- reading

-- A name and two numbers as seven.
abbrev pub short : ℕ → ℕ → ℕ → List ℤ
short name a b = pos name ∷ pos a ∷ pos b ∷ pos 0 ∷ pos 0 ∷ pos 0 ∷ pos 0 ∷ []

-- An answer as seven numbers, of which the first is its name's: 0 nothing, 1 a report, 2 not for us with OP and LEN, 3 a length over 16, 4 a wrong
-- check, 5 unfinished.
abbrev pub force_told : M.Answer → List ℤ
force_told M.nothing = short 0 0 0
force_told (M.report r) = pos 1 ∷ r.x ∷ r.y ∷ pos r.throttle ∷ pos r.buttons ∷ pos r.hat ∷ r.rudder ∷ []
force_told (M.not_for_us op len) = short 2 op len
force_told M.length_over = short 3 0 0
force_told M.wrong_check = short 4 0 0
force_told M.unfinished = short 5 0 0

-- What `force_read` promises of its result r, which is where reading goes on, and of its answer.
pub record ForceRead (input : List ℕ) (at : ℕ) (r : ℕ) (told : List ℤ) : Type 0 where
  pub next : r ≡ (M.read_at input at).next
  pub answer : told ≡ force_told (M.read_at input at).answer
