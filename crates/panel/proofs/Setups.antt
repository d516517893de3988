-- The bounds that a good setup gives. Cited by the reader's and the writer's crates. Assumes nothing.
use mathlib.Core.Path.{◌≡◌}
use mathlib.Core.Bool.{true, ◌&&◌}
use Prim.Native.Nat.{ℕ, ◌≤◌, ◌<◌}
use lib.Dec.{T, leb, leb→le}
use Rattle.model.specs.Numbers.{between}
use Rattle.model.specs.Panel.{base, setup_good, records}
use Rattle.model.proofs.Bools.{both_left, both_right}
pub use Rattle.model.proofs.Bools.{holds}
use Rattle.panel.specs.declared.Setup.{Setup}
use Rattle.panel.specs.Seen.{setup_of}

-- The bounds of a good setup's numbers.
pub record Small (u : Setup) : Type 0 where
  pub some : 0 < u.n
  pub n : u.n ≤ records
  pub x : u.x ≤ 32_767
  pub y : u.y ≤ 32_767
  pub pressure : u.pressure ≤ 255
  pub major : u.major ≤ 255
  pub minor : u.minor ≤ 255

at_most : (v top : ℕ) → T (between 1 top v) → v ≤ top
at_most v top t = leb→le v top (both_right (leb 1 v) (leb v top) t)

pub small : (u : Setup) → setup_good base (setup_of u) ≡ true → Small u
small u e =
    let n = between 1 records u.n in
    let x = between 1 32_767 u.x in
    let y = between 1 32_767 u.y in
    let p = between 1 255 u.pressure in
    let m = between 1 255 u.major in
    let g = holds (n && (x && (y && (p && (m && (between 1 255 u.minor && true)))))) e in
    let gx = both_right n _ g in
    let gy = both_right x _ gx in
    let gp = both_right y _ gy in
    let gm = both_right p _ gp in
    let few = both_left n _ g in
    record {
      some = leb→le 1 u.n (both_left (leb 1 u.n) (leb u.n records) few);
      n = at_most u.n records few;
      x = at_most u.x 32_767 (both_left x _ gx);
      y = at_most u.y 32_767 (both_left y _ gy);
      pressure = at_most u.pressure 255 (both_left p _ gp);
      major = at_most u.major 255 (both_left m _ gm);
      minor = at_most u.minor 255 (both_left (between 1 255 u.minor) true (both_right m _ gm));
    }
