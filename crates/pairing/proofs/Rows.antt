-- One row of costs made in place, from the largest set down. Cited by `turn`. Assumes nothing.
use mathlib.Core.Path.{◌≡◌, refl, ap, ◌∙◌}
use mathlib.Core.Bool.{Bool, true, false, cond}
use mathlib.Core.List.{List}
use Prim.Native.Nat.{ℕ, suc, ◌+◌, ◌-◌, ◌*◌, ◌/◌, ◌%◌, ◌<◌, ◌≤◌}
use native.Mathlib.Omega.{arith}
use lib.Dec.{eqb}
use lib.ListN.{get_or, set, length, length-set}
use lib.Seq.{get_or-set_same, get_or-set_other}
use borrow.Author.Tests.{eqb-true, eqb-false}
use Rattle.model.specs.Pairing.{alone, alone_cost, best_choice}
use Rattle.model.proofs.PairingChoice.{choice_le, choice_alike}
use Rattle.pairing.specs.Cells.{choosable, without, value, packed, Low, Turned}
use Rattle.pairing.proofs.Sets.{without_le}

-- The sets from f on are made.
pub record Part (d row₀ row made₀ made : List ℕ) (i all f : ℕ) : Type 0 where
  pub far : f ≤ all + 1
  pub costs : (g : ℕ) → f ≤ g → g ≤ all → get_or row g 0 ≡ 8 * value d row₀ g (best_choice (choosable g) (value d row₀ g))
  pub choices : (g : ℕ) → f ≤ g → g ≤ all → get_or made (32 * i + g) 0 ≡ best_choice (choosable g) (value d row₀ g)
  pub still : (g : ℕ) → g < f → get_or row g 0 ≡ get_or row₀ g 0
  pub rest : (j : ℕ) → 32 * i + 32 ≤ j → get_or made j 0 ≡ get_or made₀ j 0
  pub row_size : length row ≡ 32
  pub made-size : length made ≡ 1024

pub part-start : (d row made : List ℕ) (i all : ℕ) → length row ≡ 32 → length made ≡ 1024 → Part d row row made made i all (all + 1)
part-start d row made i all s t =
    record {
      far = omega arith;
      costs = λ g h l. absurd (omega arith);
      choices = λ g h l. absurd (omega arith);
      still = λ g h. refl;
      rest = λ j h. refl;
      row_size = s;
      made-size = t;
    }

pub part_end : (d row₀ row made₀ made : List ℕ) (i all f : ℕ) → f ≡ 0 → Part d row₀ row made₀ made i all f → Turned d row₀ row made₀ made i all
part_end d row₀ row made₀ made i all f z p =
    record {
      costs = λ g l. p.costs g (omega arith) l;
      choices = λ g l. p.choices g (omega arith) l;
      rest = p.rest;
      row_size = p.row_size;
      made-size = p.made-size;
    }

module _ (d row₀ row made₀ made : List ℕ) (i all f h : ℕ) (la : all < 32) (z : f ≡ suc h) (p : Part d row₀ row made₀ made i all f) where
  -- What the next cell asks for is still as it was.
  pub part_low : (t : ℕ) → Low row₀ all t → Low row h t
  part_low t l =
      record {
        eights = λ j g. rw (p.still j (omega arith)) (l.eights j (omega (arith, p.far)));
        small = λ j g. rw (p.still j (omega arith)) (l.small j (omega (arith, p.far)));
      }

  same-value : (c : ℕ) → value d row h c ≡ value d row₀ h c
  same-value c = ap (λ x. cond (eqb c alone) alone_cost (get_or d c 0 / 8) + x / 8) (p.still (without h c) (omega (arith, without_le h c)))

  abbrev b : ℕ
  b = best_choice (choosable h) (value d row₀ h)

  same-choice : best_choice (choosable h) (value d row h) ≡ b
  same-choice = choice_alike (choosable h) (choosable h) (value d row h) (value d row₀ h) (λ c l. refl) (λ c g. same-value c) refl

  module _ (v : ℕ) (e : v ≡ packed (choosable h) (value d row h)) where
    packs : v ≡ 8 * value d row₀ h b + b
    packs = e ∙ ap (λ c. 8 * value d row h c + c) same-choice ∙ ap (λ x. 8 * x + b) (same-value b)

    low_three : v % 8 ≡ b
    low_three = omega (arith, packs, choice_le (choosable h) (value d row₀ h))

    rounded : v - v % 8 ≡ 8 * value d row₀ h b
    rounded = omega (arith, packs, low_three)

    pub part-next : (li : i < 32) → Part d row₀ (set row h (v - v % 8)) made₀ (set made (32 * i + h) (v % 8)) i all h
    part-next li =
        record {
          far = omega (arith, p.far);
          costs = λ g l m. cost g l m (eqb g h) refl;
          choices = λ g l m. chose g l m (eqb g h) refl;
          still = λ g l. get_or-set_other row h g (v - v % 8) 0 (λ q. omega arith) ∙ p.still g (omega arith);
          rest = λ j l. get_or-set_other made (32 * i + h) j (v % 8) 0 (λ q. omega (arith, p.far)) ∙ p.rest j l;
          row_size = length-set row h (v - v % 8) ∙ p.row_size;
          made-size = length-set made (32 * i + h) (v % 8) ∙ p.made-size;
        }
      where
        cost : (g : ℕ) → h ≤ g → g ≤ all → (t : Bool) → eqb g h ≡ t
            → get_or (set row h (v - v % 8)) g 0 ≡ 8 * value d row₀ g (best_choice (choosable g) (value d row₀ g))
        cost g l m true q =
            let w : g ≡ h = eqb-true g h q in
            rw w (get_or-set_same row h (v - v % 8) 0 (omega (arith, p.row_size, p.far)) ∙ rounded)
        cost g l m false q = get_or-set_other row h g (v - v % 8) 0 (eqb-false g h q) ∙ p.costs g (omega (arith, eqb-false g h q)) m

        chose : (g : ℕ) → h ≤ g → g ≤ all → (t : Bool) → eqb g h ≡ t → get_or (set made (32 * i + h) (v % 8)) (32 * i + g) 0 ≡ best_choice (choosable g) (value d row₀ g)
        chose g l m true q =
            let w : g ≡ h = eqb-true g h q in
            rw w (get_or-set_same made (32 * i + h) (v % 8) 0 (omega (arith, p.made-size, p.far)) ∙ low_three)
        chose g l m false q =
            get_or-set_other made (32 * i + h) (32 * i + g) (v % 8) 0 (λ w. eqb-false g h q (omega arith)) ∙ p.choices g (omega (arith, eqb-false g h q)) m
