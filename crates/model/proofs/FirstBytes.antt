-- The table of first bytes: all 256 as one list, by computing, document 01's and K3's; and rows by their bounds, for the proofs of the crate
-- pod's decisions over a first byte. Assumes nothing.
use mathlib.Core.Path.{◌≡◌, refl}
use mathlib.Core.Bool.{Bool, true, false, and-false}
use mathlib.Core.List.{List, [], ◌∷◌, ◌++◌, map}
use Prim.Native.Nat.{ℕ, zero, suc, ◌-◌, ◌/◌, ◌%◌, ◌≤◌, ◌<◌}
use native.Mathlib.Omega.{arith}
use lib.Dec.{leb, eqb}
use lib.ListN.{set, replicate}
use borrow.Author.Tests.{le-leb, lt-leb, ne_eqb}
use Rattle.model.specs.Numbers.{between}
use Rattle.model.specs.Pod.{kind_of, self_test, amended, key_down_report, key_up_report, absolute_report, relative_report, time_report}
use Rattle.model.specs.Pod.{both_sticks_report, one_stick_report, self_test_report, bad_byte_report}

-- ---- all 256

-- n numbers, from k on.
abbrev from : ℕ → ℕ → List ℕ
from k zero = []
from k (suc n) = k ∷ from (suc k) n

-- What each first byte opens, from 0x00 to 0xFF.
pub all_first-bytes : map kind_of (from 0x00 256)
    ≡ bad_byte_report ∷ map key_down_report (from 0x01 0x75)
    ++ replicate 11 bad_byte_report
    ++ map key_up_report (from 0x01 0x75)
    ++ bad_byte_report ∷ absolute_report
    ∷ relative_report false false ∷ relative_report false true ∷ relative_report true false ∷ relative_report true true
    ∷ time_report ∷ both_sticks_report ∷ one_stick_report 0 ∷ one_stick_report 1 ∷ []
unfolding kind_of
all_first-bytes = refl

-- In a state that waits each opens the same, but for 0xF0.
pub all_while_waiting : map (amended true) (from 0x00 256) ≡ set (map kind_of (from 0x00 256)) self_test self_test_report
unfolding kind_of amended
all_while_waiting = refl

-- In a state that does not wait all of them do.
pub all_after_wait : map (amended false) (from 0x00 256) ≡ map kind_of (from 0x00 256)
unfolding amended
all_after_wait = refl

-- ---- rows by their bounds

-- A byte within a range is in it.
within : (low high b : ℕ) → low ≤ b → b ≤ high → between low high b ≡ true
within low high b l h = rw (le-leb low b l, le-leb b high h)

-- A byte under a range is not in it.
under : (low high b : ℕ) → b < low → between low high b ≡ false
under low high b h = rw (lt-leb low b h)

-- A byte over a range is not in it.
over : (low high b : ℕ) → high < b → between low high b ≡ false
over low high b h = rw (lt-leb b high h) (and-false (leb low b))

module _ (b : ℕ) where
  -- 0x01 to 0x75 are keys going down.
  pub key_down_row : 0x01 ≤ b → b ≤ 0x75 → kind_of b ≡ key_down_report b
  unfolding kind_of
  key_down_row l h = rw (within 0x01 0x75 b l h)

  -- 0x76 to 0x80, between the keys going down and those coming up, are bad bytes.
  pub gap_row : 0x76 ≤ b → b ≤ 0x80 → kind_of b ≡ bad_byte_report
  unfolding kind_of
  gap_row l h =
      rw (
        over 0x01 0x75 b (omega arith),
        under 0x81 0xf5 b (omega arith),
        under 0xf7 0xf7 b (omega arith),
        under 0xf8 0xfb b (omega arith),
        under 0xfc 0xfc b (omega arith),
        under 0xfd 0xfd b (omega arith),
        under 0xfe 0xff b (omega arith),
      )

  -- 0x81 to 0xF5 are keys coming up.
  pub key_up_row : 0x81 ≤ b → b ≤ 0xf5 → kind_of b ≡ key_up_report (b - 0x80)
  unfolding kind_of
  key_up_row l h = rw (over 0x01 0x75 b (omega arith), within 0x81 0xf5 b l h)

  -- 0xF8 to 0xFB open relative reports.
  pub relative_row : 0xf8 ≤ b → b ≤ 0xfb → kind_of b ≡ relative_report (eqb (b / 2 % 2) 1) (eqb (b % 2) 1)
  unfolding kind_of
  relative_row l h =
      rw (
        over 0x01 0x75 b (omega arith),
        over 0x81 0xf5 b (omega arith),
        over 0xf7 0xf7 b (omega arith),
        within 0xf8 0xfb b l h,
      )

  -- 0xFE and 0xFF open reports of one stick.
  pub one_stick_row : 0xfe ≤ b → b ≤ 0xff → kind_of b ≡ one_stick_report (b - 0xfe)
  unfolding kind_of
  one_stick_row l h =
      rw (
        over 0x01 0x75 b (omega arith),
        over 0x81 0xf5 b (omega arith),
        over 0xf7 0xf7 b (omega arith),
        over 0xf8 0xfb b (omega arith),
        over 0xfc 0xfc b (omega arith),
        over 0xfd 0xfd b (omega arith),
        within 0xfe 0xff b l h,
      )

  -- Without a wait every byte goes by 01's table.
  pub unwaited_row : amended false b ≡ kind_of b
  unfolding amended
  unwaited_row = refl

  -- While waiting a 0xF0 is the passed self-test.
  pub self_test_row : b ≡ self_test → amended true b ≡ self_test_report
  unfolding amended
  self_test_row e = rw e

  -- Every other byte goes by 01's table there too.
  pub other_row : (w : Bool) → (b ≡ self_test → ⊥) → amended w b ≡ kind_of b
  unfolding amended
  other_row w h = rw (ne_eqb b self_test h, and-false w)
