-- The walk through the choices is the best pairing. Cited by `pair_up`. Assumes nothing.
use mathlib.Core.Path.{◌≡◌, refl, sym, ap, ◌∙◌}
use mathlib.Core.Bool.{true}
use mathlib.Core.List.{List, [], ◌∷◌, ◌++◌, append_assoc, append-nil}
use Prim.Native.Nat.{ℕ, suc, ◌+◌, ◌-◌, ◌*◌, ◌^◌, ◌<◌, ◌≤◌}
use native.Mathlib.Omega.{arith}
use native.Mathlib.Numerals.{add-one}
use lib.ListN.{get_or, set, length, replicate}
use Rattle.model.specs.Pairing.{Point, point, points, alone, allowed, choice_cost, least_cost, choice, best_from, best_pairing}
use Rattle.model.proofs.PairingChoice.{choice-good}
use Rattle.model.proofs.PairingBest.{Choice, chosen}
use Rattle.pairing.specs.Cells.{choosable, without, Agree, Chosen}
use Rattle.pairing.proofs.Sets.{agree_start, agree_next, choice_le, choice-choosable, without_le}
use Rattle.pairing.proofs.Laid.{Laid, laid-start, laid_next}
use Rattle.pairing.proofs.Filled.{points-length}

-- The first i contacts have their choices, and those that are left find the rest.
pub record Walked (ns : List Point) (xs ys : List ℕ) (k n : ℕ) (out : List ℕ) (free i : ℕ) : Type 0 where
  pub part : List ℕ
  pub used : List ℕ
  pub laid : Laid part out i
  pub far : i ≤ k
  pub set : free ≤ 2 ^ n - 1
  pub agree : Agree n used free
  pub so : part ++ best_from ns used (points (k - i) i xs ys) ≡ best_from ns [] (points k 0 xs ys)

module _ (nx ny xs ys : List ℕ) (n k : ℕ) (ln : n ≤ 5) (lk : k ≤ 32) where
  abbrev ns : List Point
  ns = points n 0 nx ny

  pub walked_start : (free : ℕ) → free ≡ 2 ^ n - 1 → Walked ns xs ys k n (replicate 32 alone) free 0
  walked_start free e =
      let z : k - 0 ≡ k = omega arith in
      record {
        part = [];
        used = [];
        laid = laid-start;
        far = omega arith;
        set = omega arith;
        agree = rw e (agree_start n ln);
        so = rw z;
      }

  pub walked_end : (out : List ℕ) (free i : ℕ) → k ≤ i → Walked ns xs ys k n out free i → out ≡ best_pairing ns (points k 0 xs ys) ++ replicate (32 - k) alone
  unfolding best_pairing
  walked_end out free i h w =
      let z : k - i ≡ 0 = omega arith in
      let e : i ≡ k = omega (arith, w.far) in
      let q : w.part ++ [] ≡ best_from ns [] (points k 0 xs ys) = rw z at w.so in
      w.laid.is ∙ ap (λ l. l ++ replicate (32 - i) alone) (sym (append-nil w.part) ∙ q) ∙ ap (λ m. best_from ns [] (points k 0 xs ys) ++ replicate (32 - m) alone) e

  module _ (made out : List ℕ) (free i : ℕ) (all : Chosen ns xs ys k n 0 made) (w : Walked ns xs ys k n out free i) (l : i < k) where
    abbrev os : List Point
    os = points (k - suc i) (suc i) xs ys

    abbrev p : Point
    p = point (get_or xs i 0) (get_or ys i 0)

    abbrev c : ℕ
    c = choice ns w.used p os

    cut : k - i ≡ suc (k - suc i)
    cut = omega arith

    there : get_or made (32 * i + free) 0 ≡ c
    there = rw cut at (all w.used free i w.set w.agree (omega arith) l)

    how : Choice n w.used c
    how =
        chosen n w.used c
        (ap (λ m. allowed m w.used c) (sym (points-length n 0 nx ny))
        ∙ choice-good (allowed (length ns) w.used) (λ d. choice_cost ns p d + least_cost ns (d ∷ w.used) os) refl)

    pub walked_le : get_or made (32 * i + free) 0 ≤ 5
    walked_le = rw there (choice_le n ln w.used free w.agree c how)

    pub walked_choosable : choosable free (get_or made (32 * i + free) 0) ≡ true
    walked_choosable = rw there (choice-choosable n ln w.used free w.agree c how)

    pub walked_next : (next : ℕ) → next ≡ without free (get_or made (32 * i + free) 0) → Walked ns xs ys k n (set out i (get_or made (32 * i + free) 0)) next (i + 1)
    walked_next next e =
        let q : w.part ++ (c ∷ best_from ns (c ∷ w.used) os) ≡ best_from ns [] (points k 0 xs ys) = rw cut at w.so in
        let z : k - (i + 1) ≡ k - suc i = omega arith in
        let s : next ≡ without free c = e ∙ ap (without free) there in
        record {
          part = w.part ++ (c ∷ []);
          used = c ∷ w.used;
          laid = rw there (laid_next w.part out i c (omega arith) w.laid);
          far = omega arith;
          set = omega (arith, s, without_le free c, w.set);
          agree = rw s (agree_next n ln w.used free w.agree c how);
          so = rw (z, add-one i) (append_assoc w.part (c ∷ []) (best_from ns (c ∷ w.used) os) ∙ q);
        }
