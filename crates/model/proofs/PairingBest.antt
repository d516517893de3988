-- The pairing that is found is Best (K12): no other has more pairs, or as many for less, or as many for as much and comes before it. Cited by the crate pairing, and with it by
-- what is written of an anonymous frame. Assumes nothing.
use mathlib.Core.Path.{◌≡◌, refl, ap}
use mathlib.Core.Bool.{Bool, true, false, not, cond, ◌&&◌, ◌||◌, false≢true}
use mathlib.Core.List.{List, [], ◌∷◌}
use Prim.Native.Nat.{ℕ, zero, suc, ◌+◌, ◌*◌, ◌<◌, ◌≤◌}
use native.Mathlib.Omega.{arith}
use native.Mathlib.Nat.{mul-le-mul}
use lib.Dec.{leb, ltb, eqb}
use lib.ListN.{length, get_or}
use borrow.Author.Tests.{eqb-true, eqb-false, leb-true, ltb-true, lt-ltb}
use Rattle.model.proofs.Bools.{and_left, and_right}
use Rattle.model.proofs.PairingChoice.{Beats, choice-good, choice_old, choice_new}
use Rattle.model.specs.Ranks.{among}
use Rattle.model.specs.Pairing.{Point, origin, largest, in_range, gap, distance, alone, allowed, pairing, pairs, cost, up_to, Best}
use Rattle.model.specs.Pairing.{alone_cost, choice_cost, best_choice, least_cost, choice, best_from, best_pairing}

-- ---- what is found is a pairing

pub and_both : (a b : Bool) → a ≡ true → b ≡ true → (a && b) ≡ true
and_both true b e f = f
and_both false b e f = e

pub found_pairs : (ns : List Point) (used : List ℕ) (os : List Point) → pairing (length ns) used os (best_from ns used os) ≡ true
found_pairs ns used [] = refl
found_pairs ns used (o ∷ os) =
    let c = choice ns used o os in
    and_both (allowed (length ns) used c) (pairing (length ns) (c ∷ used) os (best_from ns (c ∷ used) os))
    (choice-good (allowed (length ns) used) (λ d. choice_cost ns o d + least_cost ns (d ∷ used) os) refl)
    (found_pairs ns (c ∷ used) os)

-- ---- and none has less, by the cost in which being alone is dear

-- A pairing's total with that.
abbrev pub score : List Point → List Point → List ℕ → ℕ
score ns [] cs = 0
score ns (o ∷ os) [] = 0
score ns (o ∷ os) (c ∷ cs) = choice_cost ns o c + score ns os cs

found_score : (ns : List Point) (used : List ℕ) (os : List Point) → score ns os (best_from ns used os) ≡ least_cost ns used os
found_score ns used [] = refl
found_score ns used (o ∷ os) = ap (λ s. choice_cost ns o (choice ns used o os) + s) (found_score ns (choice ns used o os ∷ used) os)

-- A choice that is allowed is alone, or a new contact that is not paired yet.
pub data Choice (n : ℕ) (used : List ℕ) (c : ℕ) : Type 0 where
  none : c ≡ alone → Choice n used c
  one : eqb c alone ≡ false → c < n → among c used ≡ false → Choice n used c

pub chosen : (n : ℕ) (used : List ℕ) (c : ℕ) → allowed n used c ≡ true → Choice n used c
chosen n used c e = by (eqb c alone) refl e
  where
    free : (t : Bool) → not t ≡ true → t ≡ false
    free true g = absurd (false≢true g)
    free false g = refl

    by : (t : Bool) → eqb c alone ≡ t → (t || (ltb c n && not (among c used))) ≡ true → Choice n used c
    by true q g = none (eqb-true c alone q)
    by false q g = one q (ltb-true c n (and_left (ltb c n) (not (among c used)) g)) (free (among c used) (and_right (ltb c n) (not (among c used)) g))

beaten : (n : ℕ) (used : List ℕ) (f : ℕ → ℕ) (d : ℕ) → n ≤ alone → allowed n used d ≡ true → Choice n used d → Beats f (best_choice (allowed n used) f) d
beaten n used f d h w (none e) = rw e (choice_old (allowed n used) f)
beaten n used f d h w (one q l u) = choice_new (allowed n used) f d (omega arith) w

-- No pairing from here on has less, and of those with as much none comes before.
record Under (ns : List Point) (used : List ℕ) (os : List Point) (ds : List ℕ) : Type 0 where
  low : least_cost ns used os ≤ score ns os ds
  early : score ns os ds ≡ least_cost ns used os → up_to (best_from ns used os) ds ≡ true

or-true : (a : Bool) → (a || true) ≡ true
or-true true = refl
or-true false = refl

up_to_cons : (c d : ℕ) (cs ds : List ℕ) → c ≤ d → (c ≡ d → up_to cs ds ≡ true) → up_to (c ∷ cs) (d ∷ ds) ≡ true
up_to_cons c d cs ds h g = by (eqb c d) refl
  where
    by : (t : Bool) → eqb c d ≡ t → (ltb c d || (eqb c d && up_to cs ds)) ≡ true
    by true e = let q : c ≡ d = eqb-true c d e in rw (e, g q) (or-true (ltb c d))
    by false e = rw (lt-ltb c d (omega (arith, eqb-false c d e)))

under : (ns : List Point) (used : List ℕ) (os : List Point) (ds : List ℕ) → length ns ≤ alone → pairing (length ns) used os ds ≡ true → Under ns used os ds
under ns used [] [] h w = record { low = omega arith; early = λ e. refl }
under ns used [] (d ∷ ds) h w = absurd (false≢true w)
under ns used (o ∷ os) [] h w = absurd (false≢true w)
under ns used (o ∷ os) (d ∷ ds) h w =
    let a = and_left (allowed (length ns) used d) (pairing (length ns) (d ∷ used) os ds) w in
    join (under ns (d ∷ used) os ds h (and_right (allowed (length ns) used d) (pairing (length ns) (d ∷ used) os ds) w))
    (beaten (length ns) used (λ c. choice_cost ns o c + least_cost ns (c ∷ used) os) d h a (chosen (length ns) used d a))
  where
    join : Under ns (d ∷ used) os ds → Beats (λ c. choice_cost ns o c + least_cost ns (c ∷ used) os) (choice ns used o os) d → Under ns used (o ∷ os) (d ∷ ds)
    join u b =
        record {
          low = omega (arith, u.low, b.low);
          early = λ e.
              let c = choice ns used o os in
              let q : choice_cost ns o c + least_cost ns (c ∷ used) os ≡ choice_cost ns o d + least_cost ns (d ∷ used) os = omega (arith, u.low, b.low) in
              let r : score ns os ds ≡ least_cost ns (d ∷ used) os = omega (arith, u.low, b.low) in
              up_to_cons c d (best_from ns (c ∷ used) os) ds (b.early q)
              (λ g. rw (ap (λ k. up_to (best_from ns (k ∷ used) os) ds) g) (u.early r));
        }

-- ---- that cost is the contacts left alone first, and the total second

score_choice : (ns : List Point) (o : Point) (c : ℕ) → choice_cost ns o c + alone_cost * cond (eqb c alone) 0 1 ≡ alone_cost + cond (eqb c alone) 0 (distance o (get_or ns c origin))
score_choice ns o c = by (eqb c alone)
  where
    by : (t : Bool) → cond t alone_cost (distance o (get_or ns c origin)) + alone_cost * cond t 0 1 ≡ alone_cost + cond t 0 (distance o (get_or ns c origin))
    by true = omega arith
    by false = omega arith

score_split : (ns : List Point) (used : List ℕ) (os : List Point) (cs : List ℕ) → pairing (length ns) used os cs ≡ true
    → score ns os cs + alone_cost * pairs cs ≡ alone_cost * length os + cost ns os cs
score_split ns used [] [] w = refl
score_split ns used [] (c ∷ cs) w = absurd (false≢true w)
score_split ns used (o ∷ os) [] w = absurd (false≢true w)
score_split ns used (o ∷ os) (c ∷ cs) w =
    omega (arith, score_choice ns o c, score_split ns (c ∷ used) os cs (and_right (allowed (length ns) used c) (pairing (length ns) (c ∷ used) os cs) w))

-- ---- the total of 32 pairs is less than one left alone

pub square_le : (a : ℕ) → a ≤ largest → a * a ≤ 1_073_676_289
square_le a h = let f : a * a ≤ largest * largest = mul-le-mul h h in f

abbrev Near : Point → Type 0
Near p = (p.x ≤ largest) × (p.y ≤ largest)

-- The largest squared distance.
pub distance_le : (p q : Point) → Near p → Near q → distance p q ≤ 2_147_352_578
unfolding distance
distance_le p q f g =
    omega (arith, square_le (gap p.x q.x) (omega (arith, f.0, g.0)), square_le (gap p.y q.y) (omega (arith, f.1, g.1)))

head_near : (p : Point) (ps : List Point) → in_range (p ∷ ps) ≡ true → Near p
head_near p ps h =
    let r = and_right (leb p.x largest) (leb p.y largest && in_range ps) h in
    (leb-true p.x largest (and_left (leb p.x largest) (leb p.y largest && in_range ps) h), leb-true p.y largest (and_left (leb p.y largest) (in_range ps) r))

tail_near : (p : Point) (ps : List Point) → in_range (p ∷ ps) ≡ true → in_range ps ≡ true
tail_near p ps h = and_right (leb p.y largest) (in_range ps) (and_right (leb p.x largest) (leb p.y largest && in_range ps) h)

at_near : (ps : List Point) (c : ℕ) → in_range ps ≡ true → Near (get_or ps c origin)
at_near [] c h = (omega arith, omega arith)
at_near (p ∷ ps) zero h = head_near p ps h
at_near (p ∷ ps) (suc c) h = at_near ps c (tail_near p ps h)

cost_le : (ns os : List Point) (cs : List ℕ) → in_range ns ≡ true → in_range os ≡ true → cost ns os cs ≤ 2_147_352_578 * length os
cost_le ns [] cs f g = omega arith
cost_le ns (o ∷ os) [] f g = omega arith
cost_le ns (o ∷ os) (c ∷ cs) f g = omega (arith, by (eqb c alone), cost_le ns os cs f (tail_near o os g))
  where
    by : (t : Bool) → cond t 0 (distance o (get_or ns c origin)) ≤ 2_147_352_578
    by true = omega arith
    by false = distance_le o (get_or ns c origin) (head_near o os g) (at_near ns c f)

-- ---- the theorem

module _ (ns os : List Point) (h : length ns ≤ alone) (k : length os ≤ 32) (f : in_range ns ≡ true) (g : in_range os ≡ true) where
  split : score ns os (best_from ns [] os) + alone_cost * pairs (best_from ns [] os) ≡ alone_cost * length os + cost ns os (best_from ns [] os)
  split = score_split ns [] os (best_from ns [] os) (found_pairs ns [] os)

  -- Up to 5 new contacts and 32 old ones, with the numbers of any panel.
  pub best-reached : Best ns os (best_pairing ns os)
  unfolding best_pairing
  best-reached =
      record {
        reached = found_pairs ns [] os;
        most = λ ds w. omega (arith, split, score_split ns [] os ds w, found_score ns [] os, (under ns [] os ds h w).low, cost_le ns os ds f g);
        cheapest = λ ds w e. omega (arith, split, score_split ns [] os ds w, found_score ns [] os, (under ns [] os ds h w).low);
        first = λ ds w e q. (under ns [] os ds h w).early (omega (arith, split, score_split ns [] os ds w, found_score ns [] os));
      }
