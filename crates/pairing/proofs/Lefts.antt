-- The contacts left over, one after the other. Cited by `left_of`. Assumes nothing.
use mathlib.Core.Path.{◌≡◌, sym, ap, ◌∙◌}
use mathlib.Core.Bool.{true, false}
use mathlib.Core.List.{List, [], ◌∷◌, ◌++◌, append_assoc, append-nil}
use Prim.Native.Nat.{ℕ, suc, ◌+◌, ◌-◌, ◌<◌, ◌≤◌}
use native.Mathlib.Omega.{arith}
use native.Mathlib.Numerals.{add-one}
use lib.ListN.{length, set, replicate}
use Rattle.model.specs.Ranks.{among}
use Rattle.model.specs.Pairing.{alone, left_from, left_over}
use Rattle.pairing.proofs.Laid.{Laid, laid-start, laid_next}

-- Those below c are in the array.
pub record Lefts (cs : List ℕ) (n : ℕ) (left : List ℕ) (count c : ℕ) : Type 0 where
  pub part : List ℕ
  pub laid : Laid part left count
  pub few : count ≤ c
  pub far : c ≤ n
  pub so : part ++ left_from (n - c) c cs ≡ left_over n cs

module _ (cs : List ℕ) (n : ℕ) (h : n ≤ 5) where
  pub lefts_start : (count c : ℕ) → count ≡ 0 → c ≡ 0 → Lefts cs n (replicate 32 alone) count c
  lefts_start count c e f =
      let z : n - 0 ≡ n = omega arith in
      let s : Lefts cs n (replicate 32 alone) 0 0 = record { part = []; laid = laid-start; few = omega arith; far = omega arith; so = rw z } in
      rw (e, f) s

  pub lefts_end : (left : List ℕ) (count c : ℕ) → n ≤ c → Lefts cs n left count c → left ≡ left_over n cs ++ replicate (32 - length (left_over n cs)) alone
  lefts_end left count c e l =
      let z : n - c ≡ 0 = omega arith in
      let p : l.part ++ [] ≡ left_over n cs = rw z at l.so in
      let q : l.part ≡ left_over n cs = sym (append-nil l.part) ∙ p in
      let s : count ≡ length (left_over n cs) = sym l.laid.sized ∙ ap length q in
      l.laid.is ∙ ap (λ m. m ++ replicate (32 - count) alone) q ∙ ap (λ k. left_over n cs ++ replicate (32 - k) alone) s

  module _ (left : List ℕ) (count c : ℕ) (lc : c < n) (l : Lefts cs n left count c) where
    cut : n - c ≡ suc (n - (c + 1))
    cut = omega arith

    next : l.part ++ left_from (suc (n - (c + 1))) c cs ≡ left_over n cs
    next = rw cut at l.so

    pub lefts_paired : among c cs ≡ true → Lefts cs n left count (c + 1)
    lefts_paired e =
        let q : l.part ++ left_from (n - (c + 1)) (suc c) cs ≡ left_over n cs = rw e at next in
        record { part = l.part; laid = l.laid; few = omega (arith, l.few); far = omega arith; so = ap (λ s. l.part ++ left_from (n - (c + 1)) s cs) (add-one c) ∙ q }

    pub lefts_more : among c cs ≡ false → Lefts cs n (set left count c) (count + 1) (c + 1)
    lefts_more e =
        let q : l.part ++ (c ∷ left_from (n - (c + 1)) (suc c) cs) ≡ left_over n cs = rw e at next in
        record {
          part = l.part ++ (c ∷ []);
          laid = laid_next l.part left count c (omega (arith, l.few)) l.laid;
          few = omega (arith, l.few);
          far = omega arith;
          so = ap (λ s. (l.part ++ (c ∷ [])) ++ left_from (n - (c + 1)) s cs) (add-one c)
              ∙ append_assoc l.part (c ∷ []) (left_from (n - (c + 1)) (suc c) cs)
              ∙ q;
        }
