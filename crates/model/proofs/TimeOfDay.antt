-- The time of day of 02's K13, whatever its six bytes: told where each has two decimal digits, else a bad report, and nothing is held after it.
-- Cited by the crate pod. Assumes nothing.
use mathlib.Core.Path.{◌≡◌, refl}
use mathlib.Core.Bool.{Bool, true, false}
use mathlib.Core.List.{List, [], ◌∷◌}
use Prim.Native.Nat.{ℕ}
use Rattle.model.specs.Pod.{kind_of, amended, emptied, well_formed, Clock, good_clock, time_of_day, bad_report, waits_after, judged_time, fed, step_by}
use Rattle.model.specs.Pod.{told, after, run}

-- The bytes of a report of the time of day.
pub time_bytes : Clock → List ℕ
time_bytes c = 0xfc ∷ c.year ∷ c.month ∷ c.day ∷ c.hour ∷ c.minute ∷ c.second ∷ []

module _ (w : Bool) (c : Clock) where
  -- Its seven bytes are one report.
  time_judged : run (emptied w) (time_bytes c) ≡ after (told (judged_time c)) (record { state = emptied (waits_after w (judged_time c)); reports = [] })
  unfolding time_bytes step_by well_formed fed amended kind_of
  time_judged = by_wait w
    where
      by_wait : (v : Bool)
          → run (emptied v) (time_bytes c) ≡ after (told (judged_time c)) (record { state = emptied (waits_after v (judged_time c)); reports = [] })
      by_wait true = refl
      by_wait false = refl

  -- It tells the time,
  pub time_told : good_clock c ≡ true → run (emptied w) (time_bytes c) ≡ record { state = emptied w; reports = time_of_day c ∷ [] }
  time_told g = rw g at time_judged

  -- or a wrong digit makes it a bad report.
  pub time_bad : good_clock c ≡ false → run (emptied w) (time_bytes c) ≡ record { state = emptied w; reports = bad_report ∷ [] }
  time_bad g = rw g at time_judged
