-- The contact of each slot, slot by slot. Cited by `place`. Assumes nothing.
use mathlib.Core.Path.{◌≡◌, refl, ap, ◌∙◌}
use mathlib.Core.Bool.{Bool, true, false, cond}
use mathlib.Core.List.{List, [], ◌∷◌, ◌++◌, append_assoc}
use Prim.Native.Nat.{ℕ, zero, suc, ◌+◌, ◌-◌, ◌<◌, ◌≤◌}
use native.Mathlib.Omega.{arith}
use native.Mathlib.Numerals.{add-one}
use lib.ListN.{length, get_or, set, drop, replicate, drop_of_length-le, length-append, length-replicate}
use lib.Seq.{drop-cons}
use Rattle.model.specs.Ranks.{among}
use Rattle.model.specs.Pairing.{alone, shared, left_from, left_over, placed}
use Rattle.model.proofs.PairingPlaced.{shared_filled}
use Rattle.pairing.proofs.Laid.{Laid, laid-start, laid_next}

-- The slots before this one have their contacts.
pub record Placing (live : List Bool) (cs left out : List ℕ) (paired fresh slot : ℕ) : Type 0 where
  pub part : List ℕ
  pub laid : Laid part out slot
  pub old : paired ≤ slot
  pub new : fresh ≤ slot
  pub far : slot ≤ 32
  pub so : part ++ shared (drop slot live) (drop paired cs) (drop fresh left) ≡ shared live cs left

module _ (live : List Bool) (cs left : List ℕ) (lb : length live ≡ 32) (lc : length cs ≡ 32) (ll : length left ≡ 32) where
  pub placing_start : Placing live cs left (replicate 32 alone) 0 0 0
  placing_start = record { part = []; laid = laid-start; old = omega arith; new = omega arith; far = omega arith; so = refl }

  pub placing_end : (out : List ℕ) (paired fresh slot : ℕ) → 32 ≤ slot → Placing live cs left out paired fresh slot → out ≡ shared live cs left
  placing_end out paired fresh slot h p =
      let z : slot ≡ 32 = omega (arith, p.far) in
      let e : drop slot live ≡ [] = drop_of_length-le live {i = slot} (omega arith) in
      let q : p.part ++ [] ≡ shared live cs left = rw e at p.so in
      let w : out ≡ p.part ++ [] = rw z at p.laid.is in
      w ∙ q

  module _ (out : List ℕ) (paired fresh slot : ℕ) (h : slot < 32) (p : Placing live cs left out paired fresh slot) where
    slots : drop slot live ≡ get_or live slot false ∷ drop (suc slot) live
    slots = drop-cons live slot false (omega arith)

    olds : drop paired cs ≡ get_or cs paired 0 ∷ drop (suc paired) cs
    olds = drop-cons cs paired 0 (omega (arith, p.old))

    news : drop fresh left ≡ get_or left fresh 0 ∷ drop (suc fresh) left
    news = drop-cons left fresh 0 (omega (arith, p.new))

    pub placing_old : get_or live slot false ≡ true → Placing live cs left (set out slot (get_or cs paired 0)) (paired + 1) fresh (slot + 1)
    placing_old e =
        let c = get_or cs paired 0 in
        let q : p.part ++ (c ∷ shared (drop (suc slot) live) (drop (suc paired) cs) (drop fresh left)) ≡ shared live cs left = rw (slots, e, olds) at p.so in
        record {
          part = p.part ++ (c ∷ []);
          laid = laid_next p.part out slot c h p.laid;
          old = omega (arith, p.old);
          new = omega (arith, p.new);
          far = omega arith;
          so = rw (add-one slot, add-one paired) (append_assoc p.part (c ∷ []) (shared (drop (suc slot) live) (drop (suc paired) cs) (drop fresh left)) ∙ q);
        }

    pub placing_new : get_or live slot false ≡ false → Placing live cs left (set out slot (get_or left fresh 0)) paired (fresh + 1) (slot + 1)
    placing_new e =
        let c = get_or left fresh 0 in
        let q : p.part ++ (c ∷ shared (drop (suc slot) live) (drop paired cs) (drop (suc fresh) left)) ≡ shared live cs left = rw (slots, e, news) at p.so in
        record {
          part = p.part ++ (c ∷ []);
          laid = laid_next p.part out slot c h p.laid;
          old = omega (arith, p.old);
          new = omega (arith, p.new);
          far = omega arith;
          so = rw (add-one slot, add-one fresh) (append_assoc p.part (c ∷ []) (shared (drop (suc slot) live) (drop paired cs) (drop (suc fresh) left)) ∙ q);
        }

left_le : (k c : ℕ) (cs : List ℕ) → length (left_from k c cs) ≤ k
left_le zero c cs = omega arith
left_le (suc k) c cs = by (among c cs) (left_le k (suc c) cs)
  where
    by : (t : Bool) → length (left_from k (suc c) cs) ≤ k → length (cond t (left_from k (suc c) cs) (c ∷ left_from k (suc c) cs)) ≤ suc k
    by true h = omega (arith, h)
    by false h = omega (arith, h)

-- The array of those left over.
pub left-size : (n : ℕ) (cs left : List ℕ) → n ≤ 5 → left ≡ left_over n cs ++ replicate (32 - length (left_over n cs)) alone → length left ≡ 32
left-size n cs left h e =
    ap length e
    ∙ length-append (left_over n cs) (replicate (32 - length (left_over n cs)) alone)
    ∙ omega (arith, left_le n 0 cs, length-replicate (32 - length (left_over n cs)) alone)

-- What stands behind those left over places nothing.
pub placed-is : (live : List Bool) (cs left out : List ℕ) (n m : ℕ) → left ≡ left_over n cs ++ replicate m alone → out ≡ shared live cs left → out ≡ placed live cs n
unfolding placed
placed-is live cs left out n m e q = q ∙ ap (λ l. shared live cs l) e ∙ shared_filled live cs (left_over n cs) m
