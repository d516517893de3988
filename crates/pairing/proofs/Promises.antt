-- What the promise of `pair_up` settles: its answer begins with the pairing that document 02 asks for, of all pairings. Cited by what is written of an anonymous frame. Assumes nothing.
use mathlib.Core.Path.{◌≡◌, refl, ap, ◌∙◌}
use mathlib.Core.Bool.{true, ◌&&◌}
use mathlib.Core.List.{List, [], ◌++◌}
use Prim.Native.Nat.{ℕ, zero, suc, ◌-◌, ◌≤◌}
use lib.Dec.{leb}
use lib.ListN.{length, get_or, take, replicate}
use lib.Seq.{take_at}
use borrow.Author.Tests.{le-leb}
use Rattle.model.specs.Pairing.{Point, points, largest, in_range, alone, Best, best_pairing}
use Rattle.model.proofs.PairingBest.{and_both, best-reached}
use Rattle.model.proofs.PairingPlaced.{pairing-length}
use Rattle.pairing.specs.Cells.{Near}
use Rattle.pairing.proofs.Filled.{points-length}
use Rattle.pairing.proofs.pair_up.Reads as pair-up

-- The claim of which the laws below speak is the contract of `pair_up` itself.
pub pairs_up : (κs : _) (a : _) (r : List ℕ) (t : _) → pair-up.Learnt κs a r t
    → r
    ≡ best_pairing (points a.1.1.1.1.1.0 0 a.1.1.1.0.now a.1.1.1.1.0.now) (points a.1.1.0 0 a.0.now a.1.0.now)
    ++ replicate (32 - a.1.1.0) alone
pairs_up κs a r t e = e

near_points : (k i : ℕ) (xs ys : List ℕ) → Near xs → Near ys → in_range (points k i xs ys) ≡ true
near_points zero i xs ys f g = refl
near_points (suc k) i xs ys f g =
    and_both (leb (get_or xs i 0) largest) (leb (get_or ys i 0) largest && in_range (points k (suc i) xs ys)) (le-leb (get_or xs i 0) largest (f i))
    (and_both (leb (get_or ys i 0) largest) (in_range (points k (suc i) xs ys)) (le-leb (get_or ys i 0) largest (g i)) (near_points k (suc i) xs ys f g))

module _ (xs ys nx ny : List ℕ) (k n : ℕ) (lk : k ≤ 32) (ln : n ≤ 5) (fx : Near xs) (fy : Near ys) (gx : Near nx) (gy : Near ny) where
  abbrev ns : List Point
  ns = points n 0 nx ny

  abbrev os : List Point
  os = points k 0 xs ys

  -- No pairing has more pairs, or as many for less, or as many for as much and comes before it.
  pub best : Best ns os (best_pairing ns os)
  best = best-reached ns os (rw (points-length n 0 nx ny) ln) (rw (points-length k 0 xs ys) lk) (near_points n 0 nx ny gx gy) (near_points k 0 xs ys fx fy)

  -- So it is of the first k numbers of any answer.
  pub answer-best : (r : List ℕ) → r ≡ best_pairing ns os ++ replicate (32 - k) alone → Best ns os (take k r)
  answer-best r e =
      let s : length (best_pairing ns os) ≡ k = pairing-length (length ns) [] os (best_pairing ns os) best.reached ∙ points-length k 0 xs ys in
      let q : take k r ≡ best_pairing ns os = ap (take k) e ∙ take_at (best_pairing ns os) (replicate (32 - k) alone) k s in
      rw q best
