-- Sets of new contacts as numbers, whose bit c is 1 where the contact c is in the set, and the tables by such sets: one row of costs, eight times each, and for every old
-- contact a row of choices. Assumes nothing.
use Rattle.std.specs.Prelude.{◌≡◌, Bool, cond, not, ◌&&◌, ◌||◌, List, [], ◌∷◌, ℕ, ◌+◌, ◌-◌, ◌*◌, ◌/◌, ◌%◌, ◌^◌, ◌<◌, ◌≤◌, ltb, eqb, length, get_or}
use Rattle.model.specs.Ranks.{among}
use Rattle.model.specs.Pairing.{Point, point, points, largest, distance, alone, alone_cost, best_choice, choice}

-- ---- sets

-- The contact c is in the set.
abbrev pub holds : ℕ → ℕ → Bool
holds set c = eqb (set / 2 ^ c % 2) 1

-- An old contact may be alone or have one that is free.
abbrev pub choosable : ℕ → ℕ → Bool
choosable free c = eqb c alone || holds free c

-- What is free after a choice.
abbrev pub without : ℕ → ℕ → ℕ
without free c = cond (eqb c alone) free (free - 2 ^ c)

-- The set has those of n contacts that are not in the list.
abbrev pub Agree : ℕ → List ℕ → ℕ → Type 0
Agree n used free = (c : ℕ) → c < alone → (ltb c n && not (among c used)) ≡ holds free c

-- ---- what one choice is worth

-- The offers of one old contact to the new ones: eight times the squared distance, and the number.
abbrev pub Offers : List ℕ → List ℕ → List ℕ → ℕ → ℕ → Type 0
Offers d nx ny x y = (c : ℕ) → c < alone → get_or d c 0 ≡ 8 * distance (point x y) (point (get_or nx c 0) (get_or ny c 0)) + c

-- An offer's own number is in it, and it is short.
pub record Short (d : List ℕ) : Type 0 where
  pub own : (c : ℕ) → c < alone → get_or d c 0 ≡ 8 * (get_or d c 0 / 8) + c
  pub small : (c : ℕ) → c < alone → get_or d c 0 ≤ 0x8_0000_0000

-- The costs of the sets up to `all` are eight times a number, and leave room for t contacts alone.
pub record Low (row : List ℕ) (all t : ℕ) : Type 0 where
  pub eights : (j : ℕ) → j ≤ all → get_or row j 0 ≡ 8 * (get_or row j 0 / 8)
  pub small : (j : ℕ) → j ≤ all → get_or row j 0 ≤ 8 * alone_cost * t

-- What a choice costs here and later, by the offers and the row of the contacts behind.
abbrev pub value : List ℕ → List ℕ → ℕ → ℕ → ℕ
value d row free c = cond (eqb c alone) alone_cost (get_or d c 0 / 8) + get_or row (without free c) 0 / 8

-- The least cost, times 8, and the choice that has it.
abbrev pub packed : (ℕ → Bool) → (ℕ → ℕ) → ℕ
packed good f = 8 * f (best_choice good f) + best_choice good f

-- ---- the tables

-- The row of old contact i is made in place, and its choices stand at 32 * i.
pub record Turned (d row₀ row₁ made₀ made₁ : List ℕ) (i all : ℕ) : Type 0 where
  pub costs : (f : ℕ) → f ≤ all → get_or row₁ f 0 ≡ 8 * value d row₀ f (best_choice (choosable f) (value d row₀ f))
  pub choices : (f : ℕ) → f ≤ all → get_or made₁ (32 * i + f) 0 ≡ best_choice (choosable f) (value d row₀ f)
  pub rest : (j : ℕ) → 32 * i + 32 ≤ j → get_or made₁ j 0 ≡ get_or made₀ j 0
  pub row_size : length row₁ ≡ 32
  pub made-size : length made₁ ≡ 1024

-- The first choice of the old contacts from here on.
abbrev pub first_choice : List Point → List ℕ → List Point → ℕ
first_choice ns used [] = alone
first_choice ns used (o ∷ os) = choice ns used o os

-- The choices of the contacts i to k - 1 are those of the model, for every set and every list that it stands for.
abbrev pub Chosen : List Point → List ℕ → List ℕ → ℕ → ℕ → ℕ → List ℕ → Type 0
Chosen ns xs ys k n i made =
    (used : List ℕ) (f r : ℕ) → f ≤ 2 ^ n - 1 → Agree n used f → i ≤ r → r < k → get_or made (32 * r + f) 0 ≡ first_choice ns used (points (k - r) r xs ys)

-- ---- the rest of a place

-- No number is above the largest.
abbrev pub Near : List ℕ → Type 0
Near xs = (j : ℕ) → get_or xs j 0 ≤ largest

-- Each is a new contact's number or `alone`.
abbrev pub Numbers : List ℕ → Type 0
Numbers cs = (j : ℕ) → get_or cs j 0 ≤ alone

-- Which of 0 to 5 are in the list.
abbrev pub marks : List ℕ → List Bool
marks cs = among 0 cs ∷ among 1 cs ∷ among 2 cs ∷ among 3 cs ∷ among 4 cs ∷ among 5 cs ∷ []
