-- Which contact each slot has after a pairing (K12): a live slot the one that it is paired with, the lowest unused ones those left over, and each new contact is placed once.
-- Cited by the crate pairing and by what is written of an anonymous frame. Assumes nothing.
use mathlib.Core.Path.{◌≡◌, refl, sym, ap, ◌∙◌}
use mathlib.Core.Bool.{Bool, true, false, cond, ◌||◌, false≢true}
use mathlib.Core.List.{List, [], ◌∷◌, ◌++◌}
use Prim.Native.Nat.{ℕ, zero, suc, ◌+◌, ◌-◌, ◌<◌, ◌≤◌}
use native.Mathlib.Omega.{arith}
use lib.Dec.{eqb}
use lib.ListN.{length, replicate}
use borrow.Author.Tests.{eqb-true, eqb-false, ne_eqb}
use Rattle.model.proofs.Bools.{and_left, and_right}
use Rattle.model.proofs.PairingBest.{Choice, none, one, chosen}
use Rattle.model.proofs.PairingCount.{room, room_all, room_chosen, best-count}
use Rattle.model.specs.Ranks.{among}
use Rattle.model.specs.Pairing.{Point, alone, allowed, pairing, pairs, Best, at_live, at_unused, left_from, left_over, shared, placed, times, live_slots, unused_slots}

-- ---- how many are left over

left-last : (k c : ℕ) (cs : List ℕ) → length (left_from (suc k) c cs) ≡ length (left_from k c cs) + cond (among (k + c) cs) 0 1
left-last zero c cs = by (among c cs) refl
  where
    by : (t : Bool) → among c cs ≡ t → length (cond t (left_from zero (suc c) cs) (c ∷ left_from zero (suc c) cs)) ≡ 0 + cond (among (0 + c) cs) 0 1
    by true e = let z : 0 + c ≡ c = omega arith in rw (z, e)
    by false e = let z : 0 + c ≡ c = omega arith in rw (z, e)
left-last (suc k) c cs = by (among c cs) (left-last k (suc c) cs)
  where
    by : (t : Bool) → length (left_from (suc k) (suc c) cs) ≡ length (left_from k (suc c) cs) + cond (among (k + suc c) cs) 0 1
        → length (cond t (left_from (suc k) (suc c) cs) (c ∷ left_from (suc k) (suc c) cs)) ≡ length (cond t (left_from k (suc c) cs) (c ∷ left_from k (suc c) cs)) + cond (among (suc k + c) cs) 0 1
    by true i = let z : suc k + c ≡ k + suc c = omega arith in rw z i
    by false i = let z : suc k + c ≡ k + suc c = omega arith in rw z (omega (arith, i))

left-room : (n : ℕ) (cs : List ℕ) → length (left_over n cs) ≡ room n cs
left-room zero cs = refl
left-room (suc n) cs = let z : n + 0 ≡ n = omega arith in omega (arith, rw z at (left-last n 0 cs), left-room n cs)

room-same : (n : ℕ) (l m : List ℕ) → ((d : ℕ) → among d l ≡ among d m) → room n l ≡ room n m
room-same zero l m e = refl
room-same (suc n) l m e = rw (e n, room-same n l m e)

among_later : (d c : ℕ) (l m : List ℕ) → among d (l ++ (c ∷ m)) ≡ among d (c ∷ (l ++ m))
among_later d c [] m = refl
among_later d c (b ∷ l) m = rw (among_later d c l m) (swap (eqb d b) (eqb d c) (among d (l ++ m)))
  where
    swap : (a b t : Bool) → (a || (b || t)) ≡ (b || (a || t))
    swap true true t = refl
    swap true false t = refl
    swap false b t = refl

-- What a pairing takes, with what it leaves.
taken-left : (n : ℕ) → n ≤ alone → (used : List ℕ) (os : List Point) (cs : List ℕ) → pairing n used os cs ≡ true → pairs cs + room n (cs ++ used) ≡ room n used
taken-left n h used [] [] w = omega arith
taken-left n h used [] (c ∷ cs) w = absurd (false≢true w)
taken-left n h used (o ∷ os) [] w = absurd (false≢true w)
taken-left n h used (o ∷ os) (c ∷ cs) w =
    let a = and_left (allowed n used c) (pairing n (c ∷ used) os cs) w in
    omega (
      arith,
      room_chosen n used c h (chosen n used c a),
      taken-left n h (c ∷ used) os cs (and_right (allowed n used c) (pairing n (c ∷ used) os cs) w),
      room-same n (cs ++ (c ∷ used)) (c ∷ (cs ++ used)) (λ d. among_later d c cs used),
    )

append_none : (l : List ℕ) → l ++ [] ≡ l
append_none [] = refl
append_none (a ∷ l) = ap (λ m. a ∷ m) (append_none l)

-- Every new contact is paired or left over.
pub left-count : (n : ℕ) (os : List Point) (cs : List ℕ) → n ≤ alone → pairing n [] os cs ≡ true → pairs cs + length (left_over n cs) ≡ n
left-count n os cs h w = omega (arith, left-room n cs, room_all n, rw (append_none cs) at (taken-left n h [] os cs w))

-- ---- there is room for them

pub slots_split : (bs : List Bool) → live_slots bs + unused_slots bs ≡ length bs
slots_split [] = refl
slots_split (true ∷ bs) = omega (arith, slots_split bs)
slots_split (false ∷ bs) = omega (arith, slots_split bs)

pub live-length : (bs : List Bool) (ps : List Point) → length ps ≡ length bs → length (at_live bs ps) ≡ live_slots bs
live-length [] ps e = refl
live-length (b ∷ bs) [] e = absurd (omega arith)
live-length (true ∷ bs) (p ∷ ps) e = ap suc (live-length bs ps (omega arith))
live-length (false ∷ bs) (p ∷ ps) e = live-length bs ps (omega arith)

-- No more new contacts than slots: those left over find unused slots, since the best pairing leaves none over while an old contact is alone.
pub left-fits : (live : List Bool) (ps ns : List Point) (cs : List ℕ) → length ps ≡ length live → length ns ≤ alone → length ns ≤ length live → Best ns (at_live live ps) cs
    → length (left_over (length ns) cs) ≤ unused_slots live
left-fits live ps ns cs e h r b =
    omega (
      arith,
      left-count (length ns) (at_live live ps) cs h b.reached,
      best-count ns (at_live live ps) cs h b,
      live-length live ps e,
      slots_split live,
    )

pub pairing-length : (n : ℕ) (used : List ℕ) (os : List Point) (cs : List ℕ) → pairing n used os cs ≡ true → length cs ≡ length os
pairing-length n used [] [] w = refl
pairing-length n used [] (c ∷ cs) w = absurd (false≢true w)
pairing-length n used (o ∷ os) [] w = absurd (false≢true w)
pairing-length n used (o ∷ os) (c ∷ cs) w = ap suc (pairing-length n (c ∷ used) os cs (and_right (allowed n used c) (pairing n (c ∷ used) os cs) w))

-- ---- by slots

shared-live : (bs : List Bool) (cs ls : List ℕ) → length cs ≡ live_slots bs → at_live bs (shared bs cs ls) ≡ cs
shared-live [] [] ls e = refl
shared-live [] (c ∷ cs) ls e = absurd (omega arith)
shared-live (true ∷ bs) [] ls e = absurd (omega arith)
shared-live (true ∷ bs) (c ∷ cs) ls e = ap (λ m. c ∷ m) (shared-live bs cs ls (omega arith))
shared-live (false ∷ bs) cs [] e = shared-live bs cs [] e
shared-live (false ∷ bs) cs (l ∷ ls) e = shared-live bs cs ls e

shared-unused : (bs : List Bool) (cs ls : List ℕ) → length ls ≤ unused_slots bs → at_unused bs (shared bs cs ls) ≡ ls ++ replicate (unused_slots bs - length ls) alone
shared-unused [] cs [] h = refl
shared-unused [] cs (l ∷ ls) h = absurd (omega arith)
shared-unused (true ∷ bs) [] ls h = shared-unused bs [] ls h
shared-unused (true ∷ bs) (c ∷ cs) ls h = shared-unused bs cs ls h
shared-unused (false ∷ bs) cs [] h =
    let z : suc (unused_slots bs) - 0 ≡ suc (unused_slots bs - 0) = omega arith in
    rw z (ap (λ m. alone ∷ m) (shared-unused bs cs [] (omega arith)))
shared-unused (false ∷ bs) cs (l ∷ ls) h =
    let z : suc (unused_slots bs) - suc (length ls) ≡ unused_slots bs - length ls = omega arith in
    rw z (ap (λ m. l ∷ m) (shared-unused bs cs ls (omega arith)))

-- The numbers at the live slots are the pairing, so that a slot keeps its own contact just where that is paired.
pub placed-live : (live : List Bool) (cs : List ℕ) (n : ℕ) → length cs ≡ live_slots live → at_live live (placed live cs n) ≡ cs
unfolding placed
placed-live live cs n e = shared-live live cs (left_over n cs) e

-- Those at the unused slots are the contacts left over, and then none.
pub placed-unused : (live : List Bool) (cs : List ℕ) (n : ℕ) → length (left_over n cs) ≤ unused_slots live
    → at_unused live (placed live cs n) ≡ left_over n cs ++ replicate (unused_slots live - length (left_over n cs)) alone
unfolding placed
placed-unused live cs n h = shared-unused live cs (left_over n cs) h

pub placed-length : (live : List Bool) (cs : List ℕ) (n : ℕ) → length (placed live cs n) ≡ length live
unfolding placed
placed-length live cs n = each live cs (left_over n cs)
  where
    each : (bs : List Bool) (cs ls : List ℕ) → length (shared bs cs ls) ≡ length bs
    each [] cs ls = refl
    each (true ∷ bs) [] ls = ap suc (each bs [] ls)
    each (true ∷ bs) (c ∷ cs) ls = ap suc (each bs cs ls)
    each (false ∷ bs) cs [] = ap suc (each bs cs [])
    each (false ∷ bs) cs (l ∷ ls) = ap suc (each bs cs ls)

-- ---- each new contact once

times-shared : (c : ℕ) → c < alone → (bs : List Bool) (cs ls : List ℕ) → length cs ≡ live_slots bs → length ls ≤ unused_slots bs → times c (shared bs cs ls) ≡ times c cs + times c ls
times-shared c h [] [] [] e f = refl
times-shared c h [] [] (l ∷ ls) e f = absurd (omega arith)
times-shared c h [] (d ∷ cs) ls e f = absurd (omega arith)
times-shared c h (true ∷ bs) [] ls e f = absurd (omega arith)
times-shared c h (true ∷ bs) (d ∷ cs) ls e f = omega (arith, times-shared c h bs cs ls (omega arith) f)
times-shared c h (false ∷ bs) cs [] e f = rw (ne_eqb c alone (λ z. omega arith)) (omega (arith, times-shared c h bs cs [] e (omega arith)))
times-shared c h (false ∷ bs) cs (l ∷ ls) e f = omega (arith, times-shared c h bs cs ls e (omega arith))

-- A pairing has no new contact twice, and none that was used before.
times-pairing : (n c : ℕ) → n ≤ alone → c < n → (used : List ℕ) (os : List Point) (cs : List ℕ) → pairing n used os cs ≡ true
    → times c cs + cond (among c used) 1 0 ≡ cond (among c used || among c cs) 1 0
times-pairing n c h l used [] [] w = rest (among c used)
  where
    rest : (t : Bool) → 0 + cond t 1 0 ≡ cond (t || false) 1 0
    rest true = refl
    rest false = refl
times-pairing n c h l used [] (d ∷ cs) w = absurd (false≢true w)
times-pairing n c h l used (o ∷ os) [] w = absurd (false≢true w)
times-pairing n c h l used (o ∷ os) (d ∷ cs) w =
    by (eqb c d) refl (chosen n used d (and_left (allowed n used d) (pairing n (d ∷ used) os cs) w))
    (times-pairing n c h l (d ∷ used) os cs (and_right (allowed n used d) (pairing n (d ∷ used) os cs) w))
  where
    unused : c ≡ d → Choice n used d → among c used ≡ false
    unused e (none z) = absurd (omega arith)
    unused e (one q m u) = rw e u

    by : (t : Bool) → eqb c d ≡ t → Choice n used d → times c cs + cond (t || among c used) 1 0 ≡ cond ((t || among c used) || among c cs) 1 0
        → (cond t 1 0 + times c cs) + cond (among c used) 1 0 ≡ cond (among c used || (t || among c cs)) 1 0
    by true e g i = rw (unused (eqb-true c d e) g) (omega (arith, i))
    by false e g i = omega (arith, i)

times_below : (k a c : ℕ) (cs : List ℕ) → c < a → times c (left_from k a cs) ≡ 0
times_below zero a c cs h = refl
times_below (suc k) a c cs h = by (among a cs) (times_below k (suc a) c cs (omega arith))
  where
    by : (t : Bool) → times c (left_from k (suc a) cs) ≡ 0 → times c (cond t (left_from k (suc a) cs) (a ∷ left_from k (suc a) cs)) ≡ 0
    by true i = i
    by false i = rw (ne_eqb c a (λ e. omega arith)) (omega (arith, i))

times-left : (k a c : ℕ) (cs : List ℕ) → a ≤ c → c < a + k → times c (left_from k a cs) ≡ cond (among c cs) 0 1
times-left zero a c cs h g = absurd (omega arith)
times-left (suc k) a c cs h g = by (eqb c a) refl (λ l. times-left k (suc a) c cs l (omega arith))
  where
    at : (t : Bool) → times c (left_from k (suc a) cs) ≡ 0 → eqb c a ≡ true → times c (cond t (left_from k (suc a) cs) (a ∷ left_from k (suc a) cs)) ≡ cond t 0 1
    at true i e = i
    at false i e = rw e (omega (arith, i))

    past : (t : Bool) → times c (left_from k (suc a) cs) ≡ cond (among c cs) 0 1 → eqb c a ≡ false
        → times c (cond t (left_from k (suc a) cs) (a ∷ left_from k (suc a) cs)) ≡ cond (among c cs) 0 1
    past true i e = i
    past false i e = rw e (omega (arith, i))

    by : (t : Bool) → eqb c a ≡ t → (suc a ≤ c → times c (left_from k (suc a) cs) ≡ cond (among c cs) 0 1) → times c (left_from (suc k) a cs) ≡ cond (among c cs) 0 1
    by true e i =
        let z : c ≡ a = eqb-true c a e in
        at (among a cs) (times_below k (suc a) c cs (omega arith)) e ∙ ap (λ d. cond (among d cs) 0 1) (sym z)
    by false e i = past (among a cs) (i (omega (arith, eqb-false c a e))) e

-- Where those left over find room, every new contact has one slot and no more.
pub placed-once : (live : List Bool) (os : List Point) (cs : List ℕ) (n c : ℕ) → n ≤ alone → length cs ≡ live_slots live → pairing n [] os cs ≡ true
    → length (left_over n cs) ≤ unused_slots live → c < n → times c (placed live cs n) ≡ 1
unfolding placed
placed-once live os cs n c h e w f l =
    times-shared c (omega arith) live cs (left_over n cs) e f ∙ sum (among c cs) (times-pairing n c h l [] os cs w) (times-left n 0 c cs (omega arith) (omega arith))
  where
    sum : (t : Bool) → times c cs + 0 ≡ cond t 1 0 → times c (left_over n cs) ≡ cond t 0 1 → times c cs + times c (left_over n cs) ≡ 1
    sum true a b = omega (arith, a, b)
    sum false a b = omega (arith, a, b)

-- So it is after the best pairing, where there are no more new contacts than slots.
pub best-placed-once : (live : List Bool) (ps ns : List Point) (cs : List ℕ) → length ps ≡ length live → length ns ≤ alone → length ns ≤ length live
    → Best ns (at_live live ps) cs
    → (c : ℕ)
    → c < length ns
    → times c (placed live cs (length ns)) ≡ 1
best-placed-once live ps ns cs e h r b c l =
    placed-once live (at_live live ps) cs (length ns) c h (pairing-length (length ns) [] (at_live live ps) cs b.reached ∙ live-length live ps e) b.reached
    (left-fits live ps ns cs e h r b)
    l

-- ---- longer lists

among-padded : (c : ℕ) → c < alone → (cs : List ℕ) (m : ℕ) → among c (cs ++ replicate m alone) ≡ among c cs
among-padded c h [] zero = refl
among-padded c h [] (suc m) = rw (ne_eqb c alone (λ e. omega arith)) (among-padded c h [] m)
among-padded c h (d ∷ cs) m = ap (λ t. eqb c d || t) (among-padded c h cs m)

left-padded : (k a : ℕ) (cs : List ℕ) (m : ℕ) → a + k ≤ alone → left_from k a (cs ++ replicate m alone) ≡ left_from k a cs
left-padded zero a cs m h = refl
left-padded (suc k) a cs m h = rw (among-padded a (omega arith) cs m, left-padded k (suc a) cs m (omega arith))

shared-padded : (bs : List Bool) (cs ls : List ℕ) (m : ℕ) → shared bs (cs ++ replicate m alone) ls ≡ shared bs cs ls
shared-padded [] cs ls m = refl
shared-padded (true ∷ bs) [] ls zero = refl
shared-padded (true ∷ bs) [] ls (suc m) = ap (λ l. alone ∷ l) (shared-padded bs [] ls m)
shared-padded (true ∷ bs) (c ∷ cs) ls m = ap (λ l. c ∷ l) (shared-padded bs cs ls m)
shared-padded (false ∷ bs) cs [] m = ap (λ l. alone ∷ l) (shared-padded bs cs [] m)
shared-padded (false ∷ bs) cs (l ∷ ls) m = ap (λ r. l ∷ r) (shared-padded bs cs ls m)

-- So does a longer list of those left over.
pub shared_filled : (bs : List Bool) (cs ls : List ℕ) (m : ℕ) → shared bs cs (ls ++ replicate m alone) ≡ shared bs cs ls
shared_filled [] cs ls m = refl
shared_filled (true ∷ bs) [] ls m = ap (λ l. alone ∷ l) (shared_filled bs [] ls m)
shared_filled (true ∷ bs) (c ∷ cs) ls m = ap (λ l. c ∷ l) (shared_filled bs cs ls m)
shared_filled (false ∷ bs) cs [] zero = refl
shared_filled (false ∷ bs) cs [] (suc m) = ap (λ l. alone ∷ l) (shared_filled bs cs [] m)
shared_filled (false ∷ bs) cs (l ∷ ls) m = ap (λ r. l ∷ r) (shared_filled bs cs ls m)

-- A pairing in a longer array, filled up with `alone`, places alike.
pub placed-padded : (live : List Bool) (cs : List ℕ) (m n : ℕ) → n ≤ alone → placed live (cs ++ replicate m alone) n ≡ placed live cs n
unfolding placed
placed-padded live cs m n h =
    ap (λ l. shared live (cs ++ replicate m alone) l) (left-padded n 0 cs m (omega arith)) ∙ shared-padded live cs (left_over n cs) m

shared-past : (bs : List Bool) (m : ℕ) (cs ls : List ℕ) → length ls ≤ unused_slots bs → shared (bs ++ replicate m false) cs ls ≡ shared bs cs ls ++ replicate m alone
shared-past [] zero cs ls h = refl
shared-past [] (suc m) cs [] h = ap (λ l. alone ∷ l) (shared-past [] m cs [] h)
shared-past [] (suc m) cs (l ∷ ls) h = absurd (omega arith)
shared-past (true ∷ bs) m [] ls h = ap (λ l. alone ∷ l) (shared-past bs m [] ls h)
shared-past (true ∷ bs) m (c ∷ cs) ls h = ap (λ l. c ∷ l) (shared-past bs m cs ls h)
shared-past (false ∷ bs) m cs [] h = ap (λ l. alone ∷ l) (shared-past bs m cs [] (omega arith))
shared-past (false ∷ bs) m cs (l ∷ ls) h = ap (λ r. l ∷ r) (shared-past bs m cs ls (omega arith))

-- The unused records past a panel's slots get nothing, where those left over find room before them.
pub placed_past : (live : List Bool) (m : ℕ) (cs : List ℕ) (n : ℕ) → length (left_over n cs) ≤ unused_slots live
    → placed (live ++ replicate m false) cs n ≡ placed live cs n ++ replicate m alone
unfolding placed
placed_past live m cs n h = shared-past live m cs (left_over n cs) h
