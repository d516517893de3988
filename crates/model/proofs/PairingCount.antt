-- The best pairing has as many pairs as the smaller side has contacts (K12). Cited by PairingPlaced. Assumes nothing.
use mathlib.Core.Path.{◌≡◌, refl}
use mathlib.Core.Bool.{Bool, true, false, cond, ◌||◌, false≢true}
use mathlib.Core.List.{List, [], ◌∷◌}
use Prim.Native.Nat.{ℕ, zero, suc, ◌+◌, ◌-◌, ◌<◌, ◌≤◌, min}
use native.Mathlib.Omega.{arith}
use lib.Dec.{ltb, eqb}
use lib.ListN.{length}
use borrow.Author.Tests.{eqb-true, eqb-false, ltb-true, ltb-false, ne_eqb}
use Rattle.model.proofs.Bools.{and_left, and_right}
use Rattle.model.proofs.PairingBest.{and_both, Choice, none, one, chosen}
use Rattle.model.specs.Ranks.{among}
use Rattle.model.specs.Pairing.{Point, alone, allowed, pairing, pairs, Best}

-- ---- no more than either side has

-- How many of the numbers below n are not in the list.
abbrev pub room : ℕ → List ℕ → ℕ
room zero used = 0
room (suc n) used = cond (among n used) 0 1 + room n used

pub room_all : (n : ℕ) → room n [] ≡ n
room_all zero = refl
room_all (suc n) = omega (arith, room_all n)

pub room-above : (n c : ℕ) (used : List ℕ) → n ≤ c → room n (c ∷ used) ≡ room n used
room-above zero c used h = refl
room-above (suc n) c used h = rw (ne_eqb n c (λ e. omega arith), room-above n c used (omega arith))

pub room-taken : (n c : ℕ) (used : List ℕ) → c < n → among c used ≡ false → suc (room n (c ∷ used)) ≡ room n used
room-taken zero c used h f = absurd (omega arith)
room-taken (suc n) c used h f = by (eqb n c) refl (λ l. room-taken n c used l f)
  where
    by : (t : Bool) → eqb n c ≡ t → (c < n → suc (room n (c ∷ used)) ≡ room n used)
        → suc (cond (t || among n used) 0 1 + room n (c ∷ used)) ≡ cond (among n used) 0 1 + room n used
    by true e ih =
        let z : n ≡ c = eqb-true n c e in
        let g : among n used ≡ false = rw z f in
        rw g (omega (arith, room-above n c used (omega arith)))
    by false e ih = omega (arith, ih (omega (arith, eqb-false n c e)))

-- One choice takes the room of one, unless it is alone.
pub room_chosen : (n : ℕ) (used : List ℕ) (c : ℕ) → n ≤ alone → Choice n used c → cond (eqb c alone) 0 1 + room n (c ∷ used) ≡ room n used
room_chosen n used c h (none e) = rw e (omega (arith, room-above n alone used h))
room_chosen n used c h (one q l u) = rw q (omega (arith, room-taken n c used l u))

pub pairs-room : (n : ℕ) → n ≤ alone → (used : List ℕ) (os : List Point) (cs : List ℕ) → pairing n used os cs ≡ true → pairs cs ≤ room n used
pairs-room n h used [] [] w = omega arith
pairs-room n h used [] (c ∷ cs) w = absurd (false≢true w)
pairs-room n h used (o ∷ os) [] w = absurd (false≢true w)
pairs-room n h used (o ∷ os) (c ∷ cs) w =
    let a = and_left (allowed n used c) (pairing n (c ∷ used) os cs) w in
    omega (
      arith,
      room_chosen n used c h (chosen n used c a),
      pairs-room n h (c ∷ used) os cs (and_right (allowed n used c) (pairing n (c ∷ used) os cs) w),
    )

pub pairs-length : (n : ℕ) (used : List ℕ) (os : List Point) (cs : List ℕ) → pairing n used os cs ≡ true → pairs cs ≤ length os
pairs-length n used [] [] w = omega arith
pairs-length n used [] (c ∷ cs) w = absurd (false≢true w)
pairs-length n used (o ∷ os) [] w = absurd (false≢true w)
pairs-length n used (o ∷ os) (c ∷ cs) w =
    omega (arith, at_most (eqb c alone), pairs-length n (c ∷ used) os cs (and_right (allowed n used c) (pairing n (c ∷ used) os cs) w))
  where
    at_most : (t : Bool) → cond t 0 1 ≤ 1
    at_most true = omega arith
    at_most false = omega arith

-- ---- and one pairing has so many: each in its turn

abbrev turn : ℕ → ℕ → ℕ
turn n j = cond (ltb j n) j alone

abbrev in_turn : ℕ → ℕ → List Point → List ℕ
in_turn n j [] = []
in_turn n j (o ∷ os) = turn n j ∷ in_turn n (suc j) os

abbrev Unused : List ℕ → ℕ → Type 0
Unused used j = (c : ℕ) → j ≤ c → c < alone → among c used ≡ false

or-true : (a : Bool) → (a || true) ≡ true
or-true true = refl
or-true false = refl

module _ (n : ℕ) (h : n ≤ alone) where
  turn-allowed : (used : List ℕ) (j : ℕ) → Unused used j → allowed n used (turn n j) ≡ true
  turn-allowed used j u = by (ltb j n) refl
    where
      by : (t : Bool) → ltb j n ≡ t → allowed n used (cond t j alone) ≡ true
      by true e = rw (e, u j (omega arith) (omega (arith, ltb-true j n e))) (or-true (eqb j alone))
      by false e = refl

  turn-unused : (used : List ℕ) (j : ℕ) → Unused used j → Unused (turn n j ∷ used) (suc j)
  turn-unused used j u c l m = by (ltb j n)
    where
      by : (t : Bool) → (eqb c (cond t j alone) || among c used) ≡ false
      by true = rw (ne_eqb c j (λ e. omega arith), u c (omega arith) m)
      by false = rw (ne_eqb c alone (λ e. omega arith), u c (omega arith) m)

  turns : (used : List ℕ) (j : ℕ) (os : List Point) → Unused used j → pairing n used os (in_turn n j os) ≡ true
  turns used j [] u = refl
  turns used j (o ∷ os) u =
      and_both (allowed n used (turn n j)) (pairing n (turn n j ∷ used) os (in_turn n (suc j) os)) (turn-allowed used j u)
      (turns (turn n j ∷ used) (suc j) os (turn-unused used j u))

  turn-pairs : (j : ℕ) (os : List Point) → pairs (in_turn n j os) ≡ min (length os) (n - j)
  turn-pairs j [] = omega arith
  turn-pairs j (o ∷ os) = by (ltb j n) refl (turn-pairs (suc j) os)
    where
      by : (t : Bool) → ltb j n ≡ t → pairs (in_turn n (suc j) os) ≡ min (length os) (n - suc j)
          → cond (eqb (cond t j alone) alone) 0 1 + pairs (in_turn n (suc j) os) ≡ min (suc (length os)) (n - j)
      by true e i = rw (ne_eqb j alone (λ z. omega (arith, ltb-true j n e))) (omega (arith, ltb-true j n e))
      by false e i = omega (arith, ltb-false j n e)

pub best-count : (ns os : List Point) (cs : List ℕ) → length ns ≤ alone → Best ns os cs → pairs cs ≡ min (length os) (length ns)
best-count ns os cs h b =
    omega (
      arith,
      room_all (length ns),
      pairs-room (length ns) h [] os cs b.reached,
      pairs-length (length ns) [] os cs b.reached,
      b.most (in_turn (length ns) 0 os) (turns (length ns) h [] 0 os (λ c l m. refl)),
      turn-pairs (length ns) h 0 os,
    )
