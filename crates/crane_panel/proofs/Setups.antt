-- The bounds that a good setup of a crane gives. Cited by the proofs of the cranes' crates. Assumes nothing.
use mathlib.Core.Path.{◌≡◌}
use mathlib.Core.Bool.{true, false, ◌&&◌}
use Prim.Native.Nat.{ℕ, ◌≤◌, ◌<◌}
use lib.Dec.{T, leb, leb→le}
use Rattle.model.specs.Numbers.{between}
use Rattle.model.specs.Panel.{crane, setup_good, crane_records}
use Rattle.model.proofs.Bools.{holds, both_left, both_right}
use Rattle.crane_panel.specs.declared.Setup.{Setup}
use Rattle.crane_panel.specs.Seen.{setup_of}
use Rattle.common.proofs.Signs.{and-true}

-- The bounds of a good setup's numbers.
pub record Small (u : Setup) : Type 0 where
  pub some : 0 < u.n
  pub n : u.n ≤ crane_records
  pub x : u.x ≤ 32_767
  pub y : u.y ≤ 32_767
  pub pressure : u.pressure ≤ 255

at_most : (v top : ℕ) → T (between 1 top v) → v ≤ top
at_most v top t = leb→le v top (both_right (leb 1 v) (leb v top) t)

pub small : (u : Setup) → setup_good crane (setup_of u) ≡ true → Small u
small u e =
    let a = between 1 crane_records u.n in
    let b = between 1 32_767 u.x in
    let c = between 1 32_767 u.y in
    let d = between 1 255 u.pressure in
    let g = holds (a && (b && (c && (d && true)))) e in
    let h = both_right a (b && (c && (d && true))) g in
    let i = both_right b (c && (d && true)) h in
    let n = both_left a (b && (c && (d && true))) g in
    record {
      some = leb→le 1 u.n (both_left (leb 1 u.n) (leb u.n crane_records) n);
      n = at_most u.n crane_records n;
      x = at_most u.x 32_767 (both_left b (c && (d && true)) h);
      y = at_most u.y 32_767 (both_left c (d && true) i);
      pressure = at_most u.pressure 255 (both_left d true (both_right c (d && true) i));
    }

-- ---- a setup's test, by the first number that fails

module _ (u : Setup) where
  pub setup_1 : between 1 crane_records u.n ≡ false → setup_good crane (setup_of u) ≡ false
  setup_1 e = rw e

  pub setup_2 : between 1 crane_records u.n ≡ true → between 1 32_767 u.x ≡ false → setup_good crane (setup_of u) ≡ false
  setup_2 e f = rw (e, f)

  pub setup_3 : between 1 crane_records u.n ≡ true → between 1 32_767 u.x ≡ true → between 1 32_767 u.y ≡ false → setup_good crane (setup_of u) ≡ false
  setup_3 e f g = rw (e, f, g)

  pub setup_4 : between 1 crane_records u.n ≡ true → between 1 32_767 u.x ≡ true → between 1 32_767 u.y ≡ true → setup_good crane (setup_of u) ≡ between 1 255 u.pressure
  setup_4 e f g = rw (e, f, g) (and-true _)
