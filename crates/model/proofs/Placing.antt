-- Each number that a pairing, or the placing by it, gives is a new contact's or `alone` (K12). Cited by the crate anonymous. Assumes nothing.
use mathlib.Core.Path.{◌≡◌, refl}
use mathlib.Core.Bool.{Bool, true, false, cond, false≢true}
use mathlib.Core.List.{List, [], ◌∷◌, ◌++◌}
use Prim.Native.Nat.{ℕ, zero, suc, ◌+◌, ◌<◌, ◌≤◌}
use native.Mathlib.Omega.{arith}
use lib.ListN.{length, get_or, take, replicate}
use Rattle.model.specs.Ranks.{among}
use Rattle.model.specs.Pairing.{Point, alone, allowed, pairing, best_pairing, left_from, left_over, shared, placed}
use Rattle.model.proofs.Bools.{and_left, and_right}
use Rattle.model.proofs.PairingBest.{Choice, none, one, chosen, found_pairs}

-- One of n new contacts, or none of them.
pub data Number (n c : ℕ) : Type 0 where
  nobody : c ≡ alone → Number n c
  contact : c < n → Number n c

-- Each of a list is.
abbrev pub Told : ℕ → List ℕ → Type 0
Told n [] = Unit {0}
Told n (c ∷ cs) = Number n c × Told n cs

told-choice : (n : ℕ) (used : List ℕ) (c : ℕ) → Choice n used c → Number n c
told-choice n used c (none e) = nobody e
told-choice n used c (one q h u) = contact h

told-pairing : (n : ℕ) (used : List ℕ) (os : List Point) (cs : List ℕ) → pairing n used os cs ≡ true → Told n cs
told-pairing n used [] [] w = tt
told-pairing n used [] (c ∷ cs) w = absurd (false≢true w)
told-pairing n used (o ∷ os) [] w = absurd (false≢true w)
told-pairing n used (o ∷ os) (c ∷ cs) w = (
  told-choice n used c (chosen n used c (and_left (allowed n used c) (pairing n (c ∷ used) os cs) w)),
  told-pairing n (c ∷ used) os cs (and_right (allowed n used c) (pairing n (c ∷ used) os cs) w),
)

pub told-best : (ns os : List Point) → Told (length ns) (best_pairing ns os)
unfolding best_pairing
told-best ns os = told-pairing (length ns) [] os (best_pairing ns os) (found_pairs ns [] os)

told-left : (n k c : ℕ) (cs : List ℕ) → c + k ≤ n → Told n (left_from k c cs)
told-left n zero c cs h = tt
told-left n (suc k) c cs h = by (among c cs) (told-left n k (suc c) cs (omega arith))
  where
    by : (t : Bool) → Told n (left_from k (suc c) cs) → Told n (cond t (left_from k (suc c) cs) (c ∷ left_from k (suc c) cs))
    by true r = r
    by false r = (contact (omega arith), r)

told-shared : (n : ℕ) (bs : List Bool) (cs ls : List ℕ) → Told n cs → Told n ls → Told n (shared bs cs ls)
told-shared n [] cs ls a b = tt
told-shared n (true ∷ bs) [] ls a b = (nobody refl, told-shared n bs [] ls a b)
told-shared n (true ∷ bs) (c ∷ cs) ls a b = (a.0, told-shared n bs cs ls a.1 b)
told-shared n (false ∷ bs) cs [] a b = (nobody refl, told-shared n bs cs [] a b)
told-shared n (false ∷ bs) cs (l ∷ ls) a b = (b.0, told-shared n bs cs ls a b.1)

pub told-placed : (live : List Bool) (cs : List ℕ) (n : ℕ) → Told n cs → Told n (placed live cs n)
unfolding placed
told-placed live cs n a = told-shared n live cs (left_over n cs) a (told-left n n 0 cs (omega arith))

-- ---- parts of such lists

pub told_filled : (n : ℕ) (cs : List ℕ) (m : ℕ) → Told n cs → Told n (cs ++ replicate m alone)
told_filled n [] zero a = tt
told_filled n [] (suc m) a = (nobody refl, told_filled n [] m a)
told_filled n (c ∷ cs) m a = (a.0, told_filled n cs m a.1)

pub told-take : (n k : ℕ) (cs : List ℕ) → Told n cs → Told n (take k cs)
told-take n zero cs a = tt
told-take n (suc k) [] a = tt
told-take n (suc k) (c ∷ cs) a = (a.0, told-take n k cs a.1)

pub told_at : (n : ℕ) → n ≤ alone → (cs : List ℕ) → Told n cs → (j : ℕ) → get_or cs j 0 ≤ alone
told_at n h [] a j = omega arith
told_at n h (c ∷ cs) a zero = number a.0
  where
    number : Number n c → c ≤ alone
    number (nobody e) = omega arith
    number (contact l) = omega arith
told_at n h (c ∷ cs) a (suc j) = told_at n h cs a.1 j
