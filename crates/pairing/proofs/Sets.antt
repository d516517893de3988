-- Sets of new contacts as numbers: one contact taken out changes no other's bit, so that the sets stay those of the model's lists. Cited by the other laws here and by `cell`,
-- `all_of` and `less`. Assumes nothing.
use mathlib.Core.Path.{◌≡◌, refl, sym, ap, ◌∙◌}
use mathlib.Core.Bool.{Bool, true, false, not, cond, ◌&&◌, ◌||◌}
use mathlib.Core.List.{List, [], ◌∷◌}
use Prim.Native.Nat.{ℕ, zero, suc, ◌-◌, ◌*◌, ◌/◌, ◌%◌, ◌^◌, ◌<◌, ◌≤◌}
use native.Mathlib.Omega.{arith}
use lib.Dec.{ltb, eqb}
use borrow.Author.Tests.{eqb-true, eq-eqb, ne_eqb, lt-ltb}
use Rattle.model.specs.Ranks.{among}
use Rattle.model.specs.Pairing.{alone, allowed}
use Rattle.model.proofs.PairingBest.{Choice, none, one}
use Rattle.pairing.specs.Cells.{holds, choosable, without, Agree}

-- ---- numbers one by one

pub below5 : (P : ℕ → Type 0) → P 0 → P 1 → P 2 → P 3 → P 4 → (c : ℕ) → c < 5 → P c
below5 P p0 p1 p2 p3 p4 zero h = p0
below5 P p0 p1 p2 p3 p4 (suc zero) h = p1
below5 P p0 p1 p2 p3 p4 (suc (suc zero)) h = p2
below5 P p0 p1 p2 p3 p4 (suc (suc (suc zero))) h = p3
below5 P p0 p1 p2 p3 p4 (suc (suc (suc (suc zero)))) h = p4
below5 P p0 p1 p2 p3 p4 (suc (suc (suc (suc (suc c))))) h = absurd (omega arith)

pub up_to5 : (P : ℕ → Type 0) → P 0 → P 1 → P 2 → P 3 → P 4 → P 5 → (n : ℕ) → n ≤ 5 → P n
up_to5 P p0 p1 p2 p3 p4 p5 zero h = p0
up_to5 P p0 p1 p2 p3 p4 p5 (suc n) h = below5 (λ m. P (suc m)) p1 p2 p3 p4 p5 n (omega arith)

-- ---- powers of 2 as the code has them

pub power : (c : ℕ) → c ≤ 5 → 1 * 2 ^ c % 18446744073709551616 ≡ 2 ^ c
power = up_to5 (λ c. 1 * 2 ^ c % 18446744073709551616 ≡ 2 ^ c) refl refl refl refl refl refl

pub power_some : (c : ℕ) → c ≤ 5 → 1 ≤ 2 ^ c
power_some = up_to5 (λ c. 1 ≤ 2 ^ c) (omega arith) (omega arith) (omega arith) (omega arith) (omega arith) (omega arith)

pub power_small : (c : ℕ) → c ≤ 5 → 2 ^ c ≤ 32
power_small = up_to5 (λ c. 2 ^ c ≤ 32) (omega arith) (omega arith) (omega arith) (omega arith) (omega arith) (omega arith)

-- ---- one contact taken out

abbrev bit : ℕ → ℕ → ℕ
bit m c = m / 2 ^ c % 2

pub bit_le : (m c : ℕ) → c < 5 → bit m c ≡ 1 → 2 ^ c ≤ m
bit_le m = below5 (λ c. bit m c ≡ 1 → 2 ^ c ≤ m) (λ e. omega arith) (λ e. omega arith) (λ e. omega arith) (λ e. omega arith) (λ e. omega arith)

abbrev Clears : ℕ → ℕ → ℕ → Type 0
Clears m c d = bit m c ≡ 1 → bit (m - 2 ^ c) d ≡ cond (eqb d c) 0 (bit m d)

clears_0 : (m d : ℕ) → d < 5 → Clears m 0 d
clears_0 m =
    below5 (Clears m 0) (λ z. omega arith) (λ z. let e : (m - 1) / 2 ≡ m / 2 = omega arith in rw e) (λ z. let e : (m - 1) / 4 ≡ m / 4 = omega arith in rw e)
    (λ z. let e : (m - 1) / 8 ≡ m / 8 = omega arith in rw e)
    (λ z. let e : (m - 1) / 16 ≡ m / 16 = omega arith in rw e)

clears_1 : (m d : ℕ) → d < 5 → Clears m 1 d
clears_1 m =
    below5 (Clears m 1) (λ z. omega arith) (λ z. omega arith) (λ z. let e : (m - 2) / 4 ≡ m / 4 = omega arith in rw e)
    (λ z. let e : (m - 2) / 8 ≡ m / 8 = omega arith in rw e)
    (λ z. let e : (m - 2) / 16 ≡ m / 16 = omega arith in rw e)

clears_2 : (m d : ℕ) → d < 5 → Clears m 2 d
clears_2 m =
    below5 (Clears m 2) (λ z. omega arith) (λ z. omega arith) (λ z. omega arith) (λ z. let e : (m - 4) / 8 ≡ m / 8 = omega arith in rw e)
    (λ z. let e : (m - 4) / 16 ≡ m / 16 = omega arith in rw e)

clears_3 : (m d : ℕ) → d < 5 → Clears m 3 d
clears_3 m =
    below5 (Clears m 3) (λ z. omega arith) (λ z. omega arith) (λ z. omega arith) (λ z. omega arith) (λ z. let e : (m - 8) / 16 ≡ m / 16 = omega arith in rw e)

clears_4 : (m d : ℕ) → d < 5 → Clears m 4 d
clears_4 m = below5 (Clears m 4) (λ z. omega arith) (λ z. omega arith) (λ z. omega arith) (λ z. omega arith) (λ z. omega arith)

clears : (m c : ℕ) → c < 5 → (d : ℕ) → d < 5 → Clears m c d
clears m = below5 (λ c. (d : ℕ) → d < 5 → Clears m c d) (clears_0 m) (clears_1 m) (clears_2 m) (clears_3 m) (clears_4 m)

-- ---- sets and lists

-- All of n contacts, and none paired.
pub agree_start : (n : ℕ) → n ≤ 5 → Agree n [] (2 ^ n - 1)
agree_start =
    up_to5 (λ n. Agree n [] (2 ^ n - 1)) (all 0 refl refl refl refl refl) (all 1 refl refl refl refl refl) (all 2 refl refl refl refl refl) (all 3 refl refl refl refl refl)
    (all 4 refl refl refl refl refl)
    (all 5 refl refl refl refl refl)
  where
    all : (n : ℕ) → (ltb 0 n && true) ≡ holds (2 ^ n - 1) 0 → (ltb 1 n && true) ≡ holds (2 ^ n - 1) 1 → (ltb 2 n && true) ≡ holds (2 ^ n - 1) 2
        → (ltb 3 n && true) ≡ holds (2 ^ n - 1) 3
        → (ltb 4 n && true) ≡ holds (2 ^ n - 1) 4
        → Agree n [] (2 ^ n - 1)
    all n = below5 (λ c. (ltb c n && true) ≡ holds (2 ^ n - 1) c)

module _ (n : ℕ) (ln : n ≤ 5) (used : List ℕ) (free : ℕ) (a : Agree n used free) where
  -- What the model allows can be chosen.
  pub allowed-choosable : (c : ℕ) → c < alone → allowed n used c ≡ choosable free c
  allowed-choosable c h = ap (λ t. eqb c alone || t) (a c h)

  pub chosen_held : (c : ℕ) → c < n → among c used ≡ false → bit free c ≡ 1
  chosen_held c l u = eqb-true (bit free c) 1 (sym (a c (omega arith)) ∙ ap (λ t. t && not (among c used)) (lt-ltb c n l) ∙ ap not u)

  agree_alone : Agree n (alone ∷ used) free
  agree_alone d h = rw (ne_eqb d alone (λ e. omega arith)) (a d h)

  agree_one : (c : ℕ) → c < n → among c used ≡ false → Agree n (c ∷ used) (free - 2 ^ c)
  agree_one c l u d h = by (eqb d c) (a d h) ∙ ap (λ b. eqb b 1) (sym (clears free c (omega arith) d h (chosen_held c l u)))
    where
      gone : (t : Bool) → (t && false) ≡ false
      gone true = refl
      gone false = refl

      by : (t : Bool) → (ltb d n && not (among d used)) ≡ eqb (bit free d) 1 → (ltb d n && not (t || among d used)) ≡ eqb (cond t 0 (bit free d)) 1
      by true e = gone (ltb d n)
      by false e = e

  -- So it stays after any choice.
  pub agree_next : (c : ℕ) → Choice n used c → Agree n (c ∷ used) (without free c)
  agree_next c (none e) = rw e agree_alone
  agree_next c (one q l u) = rw q (agree_one c l u)

  pub choice_le : (c : ℕ) → Choice n used c → c ≤ 5
  choice_le c (none e) = omega arith
  choice_le c (one q l u) = omega arith

  pub choice-choosable : (c : ℕ) → Choice n used c → choosable free c ≡ true
  choice-choosable c (none e) = rw e
  choice-choosable c (one q l u) = rw (q, eq-eqb (bit free c) 1 (chosen_held c l u))

-- A set never grows.
pub without_le : (free c : ℕ) → without free c ≤ free
without_le free c = by (eqb c alone)
  where
    by : (t : Bool) → cond t free (free - 2 ^ c) ≤ free
    by true = omega arith
    by false = omega arith
