-- A report's numbers, as they are told, are that report again, and its types hold them. Assumes nothing.
use mathlib.Core.Path.{◌≡◌, refl}
use mathlib.Core.Bool.{true}
use Prim.Native.Nat.{◌≤◌}
use native.Mathlib.Omega.{arith}
use lib.ListN.{drop}
use borrow.Author.Tests.{le-leb}
use Rattle.model.specs.Force as M
use Rattle.lent_devices.specs.Sticks.{most_byte, most_word, typed, report_in, force_told}

-- The six numbers behind a report's name are the report,
pub report_back : (r : M.Report) → report_in (drop 1 (force_told (M.report r))) ≡ r
report_back r = refl

-- and are ones of its types, where it is a report of the code's.
pub report-typed : (r : M.Report) → M.Sized r → r.buttons ≤ most_word → r.hat ≤ most_byte → typed (drop 1 (force_told (M.report r))) ≡ true
unfolding typed
report-typed r s b h =
    rw (
      s.x,
      s.y,
      le-leb 0 r.throttle (omega arith),
      le-leb r.throttle 255 (omega (arith, s.throttle)),
      le-leb 0 r.buttons (omega arith),
      le-leb r.buttons 65_535 b,
      le-leb 0 r.hat (omega arith),
      le-leb r.hat 255 h,
      s.rudder,
    )
