-- Records past a panel's slots have the id -1: none is live or the oldest, no rank of theirs is a live contact's, and all must be 0. Cited by the proofs of the loops that end at n. Assumes nothing.
use mathlib.Core.Path.{◌≡◌, refl, sym, ap, ◌∙◌}
use mathlib.Core.Bool.{false, ◌&&◌, ◌||◌}
use mathlib.Core.List.{List, [], ◌∷◌}
use Prim.Native.Nat.{ℕ, zero, suc, ◌+◌, ◌-◌, ◌≤◌, ◌<◌}
use native.Mathlib.Omega.{arith}
use lib.Dec.{eqb}
use lib.IntN.{ℤ, pos}
use lib.ListN.{length, drop, get_or, replicate, length-drop, get_or-replicate}
use lib.Seq.{get_or-drop}
use Rattle.model.specs.Panel.{records}
use Rattle.model.specs.Numbers.{minus_one}
use Rattle.model.specs.Table.{live}
use Rattle.model.specs.Ranks.{live_count, live_ranks, zero_unused, no_gaps, good_ranks, ages}
use Rattle.model.specs.Pointer.{oldest_slot}
use Rattle.model.specs.Pointing.{zeros}
use Rattle.common.proofs.Signs.{and-false}
use Rattle.pointer.specs.Seen.{fates_by}
use Rattle.pointer.specs.Moved.{Idle}

left : (n m : ℕ) → drop n (replicate m minus_one) ≡ replicate (m - n) minus_one
left zero m =
    let e : m - 0 ≡ m = omega arith in
    rw e
left (suc n) zero =
    let e : 0 - suc n ≡ 0 = omega arith in
    rw e
left (suc n) (suc m) =
    let e : suc m - suc n ≡ m - n = omega arith in
    rw e (left n m)

zeros_of : (m : ℕ) (rs : List ℕ) → zero_unused (replicate m minus_one) rs ≡ zeros m rs
zeros_of zero [] = refl
zeros_of zero (r ∷ rs) = refl
zeros_of (suc m) [] = refl
zeros_of (suc m) (r ∷ rs) = ap (λ b. eqb r 0 && b) (zeros_of m rs)

ranks_of : (m : ℕ) (rs : List ℕ) → live_ranks (replicate m minus_one) rs ≡ []
ranks_of zero rs = refl
ranks_of (suc m) [] = refl
ranks_of (suc m) (r ∷ rs) = ranks_of m rs

used_later : (n : ℕ) (l : List ℤ) (rs : List ℕ) → n ≤ length l → n ≤ length rs → zero_unused (drop n l) (drop n rs) ≡ false → zero_unused l rs ≡ false
used_later zero l rs h k e = e
used_later (suc n) [] rs h k e = absurd (omega arith)
used_later (suc n) (v ∷ l) [] h k e = absurd (omega arith)
used_later (suc n) (v ∷ l) (r ∷ rs) h k e = and-false (live v || eqb r 0) (zero_unused l rs) (used_later n l rs (omega arith) (omega arith) e)

live-none : (m : ℕ) → live_count (replicate m minus_one) ≡ 0
live-none zero = refl
live-none (suc m) = live-none m

oldest_past : (m : ℕ) (rs : List ℕ) → length rs ≡ m → oldest_slot (replicate m minus_one) rs ≡ m
oldest_past zero rs e = refl
oldest_past (suc m) [] e = absurd (omega arith)
oldest_past (suc m) (r ∷ rs) e = ap suc (oldest_past m rs (omega arith))

ages-none : (m : ℕ) (l : List ℤ) (rs : List ℕ) → ages records (fates_by l (replicate m minus_one)) rs ≡ []
ages-none m [] rs = refl
ages-none zero (a ∷ l) rs = refl
ages-none (suc m) (a ∷ l) [] = refl
ages-none (suc m) (a ∷ l) (r ∷ rs) = ages-none m l rs

-- What is known of ids alone.
module _ (n : ℕ) (l : List ℤ) (idle : Idle n l) where
  left_is : drop n l ≡ replicate (records - n) minus_one
  left_is = idle.rest ∙ left n records

  pub idle_live : live_count (drop n l) ≡ 0
  idle_live = ap live_count left_is ∙ live-none (records - n)

  pub idle_oldest : (rs : List ℕ) → length rs ≡ records → oldest_slot (drop n l) (drop n rs) ≡ records - n
  idle_oldest rs e = ap (λ x. oldest_slot x (drop n rs)) left_is ∙ oldest_past (records - n) (drop n rs) (omega (arith, length-drop n rs, e))

  pub idle_ages : (old : List ℤ) (rs : List ℕ) → ages records (fates_by (drop n old) (drop n l)) (drop n rs) ≡ []
  idle_ages old rs = ap (λ x. ages records (fates_by (drop n old) x) (drop n rs)) left_is ∙ ages-none (records - n) (drop n old) (drop n rs)

  pub idle_at : (i : ℕ) → n ≤ i → i < records → get_or l i (pos 0) ≡ minus_one
  idle_at i h k =
      let z : n + (i - n) ≡ i = omega arith in
      ap (λ j. get_or l j (pos 0)) (sym z) ∙ sym (get_or-drop n l (i - n) (pos 0)) ∙ ap (λ x. get_or x (i - n) (pos 0)) left_is ∙ get_or-replicate (records - n) (i - n) minus_one (pos 0) (omega arith)

module _ (n : ℕ) (l : List ℤ) (rs : List ℕ) (idle : Idle n l) where
  pub idle_zeros : zero_unused (drop n l) (drop n rs) ≡ zeros (records - n) (drop n rs)
  idle_zeros = ap (λ x. zero_unused x (drop n rs)) (idle.rest ∙ left n records) ∙ zeros_of (records - n) (drop n rs)

  pub idle_ranks : live_ranks (drop n l) (drop n rs) ≡ []
  idle_ranks = ap (λ x. live_ranks x (drop n rs)) (idle.rest ∙ left n records) ∙ ranks_of (records - n) (drop n rs)

  -- One that is not 0: the ranks are not good.
  pub idle_ranked : length rs ≡ records → zeros (records - n) (drop n rs) ≡ false → good_ranks l rs ≡ false
  unfolding idle_zeros
  idle_ranked e z =
      ap (λ b. b && no_gaps (live_ranks l rs) (live_ranks l rs))
      (used_later n l rs (omega (arith, idle.few, idle.whole)) (omega (arith, idle.few, e)) (idle_zeros ∙ z))
