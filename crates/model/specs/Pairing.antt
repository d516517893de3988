-- Pairing (K12): which old contact goes on as which new one of an anonymous panel, and which contact each slot then has. Assumes nothing.
use Rattle.std.specs.Prelude.{◌≡◌, Bool, true, false, not, cond, ◌&&◌, ◌||◌, List, [], ◌∷◌, ℕ, zero, suc, ◌+◌, ◌-◌, ◌*◌, ◌≤◌, leb, ltb, eqb, length, get_or}
use Rattle.model.specs.Ranks.{among}

-- ---- contacts

-- A contact is where it is; pressure does not count.
pub record Point : Type 0 where
  pub x : ℕ
  pub y : ℕ

abbrev pub point : ℕ → ℕ → Point
point x y = record { x = x; y = y }

-- What a list of contacts has past its end; no pairing asks for it.
abbrev pub origin : Point
origin = point 0 0

-- So many contacts of two lists of numbers, from a place on.
abbrev pub points : ℕ → ℕ → List ℕ → List ℕ → List Point
points zero i xs ys = []
points (suc k) i xs ys = point (get_or xs i 0) (get_or ys i 0) ∷ points k (suc i) xs ys

-- The largest x and y of any panel.
abbrev pub largest : ℕ
largest = 32_767

-- No number of the contacts is above that.
abbrev pub in_range : List Point → Bool
in_range [] = true
in_range (p ∷ ps) = leb p.x largest && (leb p.y largest && in_range ps)

-- How far two numbers are apart, whichever is the larger.
abbrev pub gap : ℕ → ℕ → ℕ
gap a b = (a - b) + (b - a)

-- The squared distance.
unfoldable pub distance : Point → Point → ℕ
distance p q = gap p.x q.x * gap p.x q.x + gap p.y q.y * gap p.y q.y

-- ---- pairings, listed by rising live old slot: for each old contact its new contact's number from 0, or `alone`

-- Stands where an old contact has no new one; the most new contacts there are.
abbrev pub alone : ℕ
alone = 5

-- With n new contacts, some of them paired already, an old contact may be alone or have one that is not.
abbrev pub allowed : ℕ → List ℕ → ℕ → Bool
allowed n used c = eqb c alone || (ltb c n && not (among c used))

-- One number for each old contact, and no new contact twice.
abbrev pub pairing : ℕ → List ℕ → List Point → List ℕ → Bool
pairing n used [] [] = true
pairing n used [] (c ∷ cs) = false
pairing n used (o ∷ os) [] = false
pairing n used (o ∷ os) (c ∷ cs) = allowed n used c && pairing n (c ∷ used) os cs

-- How many pairs it has.
abbrev pub pairs : List ℕ → ℕ
pairs [] = 0
pairs (c ∷ cs) = cond (eqb c alone) 0 1 + pairs cs

-- The total of its squared distances; who is alone adds nothing.
abbrev pub cost : List Point → List Point → List ℕ → ℕ
cost ns [] cs = 0
cost ns (o ∷ os) [] = 0
cost ns (o ∷ os) (c ∷ cs) = cond (eqb c alone) 0 (distance o (get_or ns c origin)) + cost ns os cs

-- The same list, or one that comes before it in dictionary order.
abbrev pub up_to : List ℕ → List ℕ → Bool
up_to [] ds = true
up_to (c ∷ cs) [] = false
up_to (c ∷ cs) (d ∷ ds) = ltb c d || (eqb c d && up_to cs ds)

-- A pairing of the new contacts ns and the old contacts os.
abbrev pub Pairs : List Point → List Point → List ℕ → Type 0
Pairs ns os cs = pairing (length ns) [] os cs ≡ true

-- The one to take: as many pairs as possible; of all such the least total; of all such the first in dictionary order.
pub record Best (ns os : List Point) (cs : List ℕ) : Type 0 where
  pub reached : Pairs ns os cs
  pub most : (ds : List ℕ) → Pairs ns os ds → pairs ds ≤ pairs cs
  pub cheapest : (ds : List ℕ) → Pairs ns os ds → pairs ds ≡ pairs cs → cost ns os cs ≤ cost ns os ds
  pub first : (ds : List ℕ) → Pairs ns os ds → pairs ds ≡ pairs cs → cost ns os ds ≡ cost ns os cs → up_to cs ds ≡ true

-- ---- how it is found, from the last old contact on: PairingBest of proofs/ says that this is Best, and PairingUnique that no other is

-- Being alone is made dearer than 32 pairs, so that the least total has the most pairs.
abbrev pub alone_cost : ℕ
alone_cost = 0x20_0000_0000

abbrev pub choice_cost : List Point → Point → ℕ → ℕ
choice_cost ns o c = cond (eqb c alone) alone_cost (distance o (get_or ns c origin))

-- Of b and the good numbers below k the one with the least f; of several the lowest.
abbrev pub least_below : (ℕ → Bool) → (ℕ → ℕ) → ℕ → ℕ → ℕ
least_below good f zero b = b
least_below good f (suc k) b = least_below good f k (cond (good k && leb (f k) (f b)) k b)

-- The choice with the least f, `alone` among them.
unfoldable pub best_choice : (ℕ → Bool) → (ℕ → ℕ) → ℕ
best_choice good f = least_below good f alone alone

-- The least that the old contacts from here on cost.
abbrev pub least_cost : List Point → List ℕ → List Point → ℕ
least_cost ns used [] = 0
least_cost ns used (o ∷ os) =
    let f : ℕ → ℕ = λ c. choice_cost ns o c + least_cost ns (c ∷ used) os in
    f (best_choice (allowed (length ns) used) f)

-- The choice of the old contact o, with those behind it in mind.
abbrev pub choice : List Point → List ℕ → Point → List Point → ℕ
choice ns used o os = best_choice (allowed (length ns) used) (λ c. choice_cost ns o c + least_cost ns (c ∷ used) os)

-- The choices from here on, one after the other.
abbrev pub best_from : List Point → List ℕ → List Point → List ℕ
best_from ns used [] = []
best_from ns used (o ∷ os) = choice ns used o os ∷ best_from ns (choice ns used o os ∷ used) os

-- The best pairing of the new contacts ns and the old contacts os.
unfoldable pub best_pairing : List Point → List Point → List ℕ
best_pairing ns os = best_from ns [] os

-- ---- slots, by which of them are live

-- What stands at the live slots, rising.
abbrev pub at_live : {A : Type 0} → List Bool → List A → List A
at_live [] l = []
at_live (b ∷ bs) [] = []
at_live (true ∷ bs) (a ∷ l) = a ∷ at_live bs l
at_live (false ∷ bs) (a ∷ l) = at_live bs l

-- What stands at the unused ones, rising.
abbrev pub at_unused : {A : Type 0} → List Bool → List A → List A
at_unused [] l = []
at_unused (b ∷ bs) [] = []
at_unused (true ∷ bs) (a ∷ l) = at_unused bs l
at_unused (false ∷ bs) (a ∷ l) = a ∷ at_unused bs l

-- Of k numbers from c on those that a pairing leaves over, rising.
abbrev pub left_from : ℕ → ℕ → List ℕ → List ℕ
left_from zero c cs = []
left_from (suc k) c cs = cond (among c cs) (left_from k (suc c) cs) (c ∷ left_from k (suc c) cs)

-- Which of n new contacts it leaves over.
abbrev pub left_over : ℕ → List ℕ → List ℕ
left_over n cs = left_from n 0 cs

-- The contact of each slot: a live slot has its number of the pairing, an unused one the next that is left over; `alone` once either list ends.
abbrev pub shared : List Bool → List ℕ → List ℕ → List ℕ
shared [] cs ls = []
shared (true ∷ bs) [] ls = alone ∷ shared bs [] ls
shared (true ∷ bs) (c ∷ cs) ls = c ∷ shared bs cs ls
shared (false ∷ bs) cs [] = alone ∷ shared bs cs []
shared (false ∷ bs) cs (l ∷ ls) = l ∷ shared bs cs ls

-- The number of each slot's new contact, or `alone` where it has none.
unfoldable pub placed : List Bool → List ℕ → ℕ → List ℕ
placed live cs n = shared live cs (left_over n cs)

-- How often a number stands in a list.
abbrev pub times : ℕ → List ℕ → ℕ
times c [] = 0
times c (d ∷ l) = cond (eqb c d) 1 0 + times c l

-- How many slots are live, and how many are unused.
abbrev pub live_slots : List Bool → ℕ
live_slots bs = length (at_live bs bs)

abbrev pub unused_slots : List Bool → ℕ
unused_slots bs = length (at_unused bs bs)
