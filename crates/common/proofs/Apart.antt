-- Live ids that differ, as a walk over a table finds them that holds a bit for each. A table of any slots: `see` is how one is seen. Cited by the proofs of `ids_differ`, the panel's and the cranes', and by plan. Assumes nothing.
use mathlib.Core.Path.{◌≡◌, refl, sym, ap, ap₂, subst, ◌∙◌}
use mathlib.Core.Bool.{true, false, not, ◌&&◌, ◌||◌, and_assoc, or-true, false≢true}
use mathlib.Core.Logic.{◌⊎◌, inl, inr, ⊎_elim}
use mathlib.Core.List.{List, [], ◌∷◌, ◌++◌, map, append_assoc, append-nil}
use Prim.Native.Nat.{ℕ, zero, suc, ◌+◌, ◌/◌, ◌%◌, ◌<◌, ◌≤◌}
use native.Mathlib.Numerals.{add-one}
use native.Mathlib.Omega.{arith}
use lib.Arith.{bin_ind}
use lib.Bits.{bit_and, bit_or, and_step, or_step, and_self, or_comm}
use lib.Pow.{pow_pos, shl_exact}
use lib.Dec.{T, not_T}
use lib.IntN.{ℤ}
use lib.ListN.{take, drop, get_or, length, replicate}
use lib.Seq.{drop-cons}
use borrow.Author.Tests.{not-true}
use Rattle.model.specs.Numbers.{eq_z, minus_one}
use Rattle.model.specs.Table.{Slot, id_of, live, unheld, live_differ, ids}
use Rattle.model.proofs.Bools.{holds, is_true, is_false, and_left, and_right, eq_z→eq, eq_z-refl}
use Rattle.common.specs.Seen.{natural}
pub use Rattle.common.specs.Marks.{bit_of, Met}
use Rattle.common.proofs.Signs.{and-false, and-true}

-- ---- an id's bit

-- What one set has of another, a larger set has too.
and_grows : (a b c : ℕ) → bit_and a c ≤ bit_and (bit_or a b) c
and_grows a =
    bin_ind (λ (n : ℕ). (b c : ℕ) → bit_and n c ≤ bit_and (bit_or n b) c) (λ b c. omega arith)
    (λ n ih b c.
    let half : bit_or n b / 2 ≡ bit_or (n / 2) (b / 2) = omega (arith, or_step n b) in
    let h : bit_and (n / 2) (c / 2) ≤ bit_and (bit_or n b / 2) (c / 2) = rw half (ih (b / 2) (c / 2)) in
    omega (arith, and_step n c, and_step (bit_or n b) c, or_step n b)) a

-- A set that an id's bit was put into has it.
put_in : (m : ℕ) (v : ℤ) → bit_and (bit_or m (bit_of v)) (bit_of v) ≡ 0 → ⊥
put_in m v e =
    let some : 0 < bit_of v = rw (shl_exact {a = 1} 1 (natural v % 64) 64 (omega arith) (omega arith)) (omega (arith, pow_pos (natural v % 64))) in
    omega (arith, some, and_grows (bit_of v) m (bit_of v), and_self (bit_of v), ap (λ x. bit_and x (bit_of v)) (or_comm (bit_of v) m))

-- ---- two ids

unlike : (v w : ℤ) → (v ≡ w → ⊥) → eq_z v w ≡ false
unlike v w n = is_false (eq_z v w) (not_T (eq_z v w) (λ t. n (eq_z→eq v w t)))

-- An equality test that failed fails the other way round.
other_way : (v w : ℤ) → eq_z v w ≡ false → eq_z w v ≡ false
other_way v w e = unlike w v (λ q. absurd (subst T (sym (ap (eq_z v) q) ∙ e) (eq_z-refl v)))

-- ---- a list of ids, and one more

unheld_both : (v : ℤ) (l r : List ℤ) → unheld v (l ++ r) ≡ (unheld v l && unheld v r)
unheld_both v [] r = refl
unheld_both v (x ∷ l) r = ap (λ b. not (eq_z v x) && b) (unheld_both v l r) ∙ sym (and_assoc (not (eq_z v x)) (unheld v l) (unheld v r))

met-more : (m o : ℕ) (l : List ℤ) (w : ℤ) → Met m l → ((v : ℤ) → bit_and o (bit_of v) ≡ 0 → bit_and m (bit_of v) ≡ 0)
    → ((v : ℤ) → eq_z v minus_one ≡ false → bit_and o (bit_of v) ≡ 0 → eq_z v w ≡ false) → Met o (l ++ w ∷ [])
met-more m o l w k g n v a z = unheld_both v l (w ∷ []) ∙ rw (k v a (g v z), n v a z)

-- A list and one more id, whose bit is put in.
pub met_join : (m : ℕ) (l : List ℤ) (w : ℤ) → Met m l → Met (bit_or m (bit_of w)) (l ++ w ∷ [])
met_join m l w k =
    met-more m (bit_or m (bit_of w)) l w k (λ v y. omega (arith, and_grows m (bit_of w) (bit_of v)))
    (λ v a y. unlike v w (λ q. put_in m w (sym (ap (λ x. bit_and (bit_or m (bit_of w)) (bit_of x)) q) ∙ y)))

-- An id that is not live, or none of the list's, may follow the list.
abbrev Follows : ℤ → List ℤ → Type 0
Follows w l = (eq_z w minus_one ≡ true) ⊎ (unheld w l ≡ true)

-- The first of them, if it is live, is another.
first_other : (w x : ℤ) (l : List ℤ) → Follows w (x ∷ l) → eq_z x minus_one ≡ false → eq_z x w ≡ false
first_other w x l f n =
    ⊎_elim (λ d. ap (eq_z x) (eq_z→eq w minus_one (holds _ d)) ∙ n)
    (λ u. other_way w x (not-true (eq_z w x) (and_left (not (eq_z w x)) (unheld w l) u))) f

follows-rest : (w x : ℤ) (l : List ℤ) → Follows w (x ∷ l) → Follows w l
follows-rest w x l f = ⊎_elim (λ d. inl d) (λ u. inr (and_right (not (eq_z w x)) (unheld w l) u)) f

differ-more : (l : List ℤ) (w : ℤ) → live_differ l ≡ true → Follows w l → live_differ (l ++ w ∷ []) ≡ true
differ-more [] w d f = rw or-true
differ-more (x ∷ l) w d f =
    let first =
    (elim (eq_z x minus_one) as (λ b. eq_z x minus_one ≡ b → (not (not b) || unheld x l) ≡ true → (not (not b) || unheld x (l ++ w ∷ [])) ≡ true) [
      | true ↦ λ e g. refl
      | false ↦ λ e g. unheld_both x l (w ∷ []) ∙ rw (g, first_other w x l f e)
    ]) refl (and_left (not (live x) || unheld x l) (live_differ l) d) in
    ap₂ (λ a b. a && b) first (differ-more l w (and_right (not (live x) || unheld x l) (live_differ l) d) (follows-rest w x l f))

held_again : (w : ℤ) (l r : List ℤ) → unheld w (l ++ w ∷ r) ≡ false
held_again w l r = unheld_both w l (w ∷ r) ∙ and-false (unheld w l) _ (rw (is_true (eq_z w w) (eq_z-refl w)))

-- A live id that is one of the list's.
clash : (l : List ℤ) (w : ℤ) (r : List ℤ) → eq_z w minus_one ≡ false → unheld w l ≡ false → live_differ (l ++ w ∷ r) ≡ false
clash [] w r n e = absurd (false≢true (sym e))
clash (x ∷ l) w r n e =
    (elim (eq_z w x) as (λ b. eq_z w x ≡ b → (not b && unheld w l) ≡ false → live_differ (x ∷ l ++ w ∷ r) ≡ false) [
      | true ↦ λ q g. rw (← eq_z→eq w x (holds _ q), n, held_again w l r)
      | false ↦ λ q g. and-false (not (live x) || unheld x (l ++ w ∷ r)) _ (clash l w r n g)
    ]) refl e

-- ---- a table of any slots, whose first k ids were walked over

module _ {A : Type 0} (see : A → Slot) where
  cut-ids : (t : List A) (k : ℕ) → ids (map see t) ≡ ids (map see (take k t)) ++ ids (map see (drop k t))
  cut-ids t zero = refl
  cut-ids [] (suc k) = refl
  cut-ids (s ∷ t) (suc k) = ap {B = List ℤ} (λ l. id_of (see s) ∷ l) (cut-ids t k)

  -- Their live ones differ, and fall on bits of m.
  abbrev pub Walked : List A → ℕ → ℕ → Type 0
  Walked t k m = Met m (ids (map see (take k t))) × (live_differ (ids (map see (take k t))) ≡ true)

  -- Slot d stands past the table's end.
  module _ (d : A) where
    pub more-ids : (t : List A) (k : ℕ) → k < length t → ids (map see (take (suc k) t)) ≡ ids (map see (take k t)) ++ id_of (see (get_or t k d)) ∷ []
    more-ids [] k h = absurd (omega arith)
    more-ids (s ∷ t) zero h = refl
    more-ids (s ∷ t) (suc k) h = ap {B = List ℤ} (λ l. id_of (see s) ∷ l) (more-ids t k (omega arith))

    module _ (t : List A) (k : ℕ) (h : k < length t) where
      abbrev front : List ℤ
      front = ids (map see (take k t))

      abbrev id : ℤ
      id = id_of (see (get_or t k d))

      further : (m o : ℕ) → Walked t k m → ((v : ℤ) → bit_and o (bit_of v) ≡ 0 → bit_and m (bit_of v) ≡ 0)
          → ((v : ℤ) → eq_z v minus_one ≡ false → bit_and o (bit_of v) ≡ 0 → eq_z v id ≡ false) → Follows id front → Walked t (k + 1) o
      further m o w g n f = rw (add-one, more-ids t k h) (met-more m o front id w.0 g n, differ-more front id w.1 f)

      pub dead_turn : (m : ℕ) → eq_z id minus_one ≡ true → Walked t k m → Walked t (k + 1) m
      dead_turn m e w = further m m w (λ v z. z) (λ v a z. ap (eq_z v) (eq_z→eq id minus_one (holds _ e)) ∙ a) (inl e)

      module _ (m : ℕ) (n : eq_z id minus_one ≡ false) where
        pub free_turn : bit_and m (bit_of id) ≡ 0 → Walked t k m → Walked t (k + 1) (bit_or m (bit_of id))
        free_turn z w =
            let o = bit_or m (bit_of id) in
            further m o w (λ v y. omega (arith, and_grows m (bit_of id) (bit_of v)))
            (λ v a y. unlike v id (λ q. put_in m id (sym (ap (λ x. bit_and o (bit_of x)) q) ∙ y))) (inr (w.0 id n z))

        pub met-turn : (bit_and m (bit_of id) ≡ 0 → ⊥) → unheld id front ≡ true → Walked t k m → Walked t (k + 1) m
        met-turn s u w = further m m w (λ v z. z) (λ v a z. unlike v id (λ q. s (sym (ap (λ x. bit_and m (bit_of x)) q) ∙ z))) (inr u)

        pub clash_turn : unheld id front ≡ false → live_differ (ids (map see t)) ≡ false
        clash_turn u = rw (cut-ids t k, drop-cons t k d h) (clash front id (ids (map see (drop (suc k) t))) n u)

  -- ---- and was never used past n slots: slot u is an unused one

  module _ (u : A) (dead : id_of (see u) ≡ minus_one) where
    idle : (l : List ℤ) (n m : ℕ) → live_differ l ≡ true → live_differ (l ++ ids (map see (drop n (replicate m u)))) ≡ true
    idle l zero zero d = rw append-nil d
    idle l zero (suc m) d =
        let more = differ-more l (id_of (see u)) d (inl (ap (λ v. eq_z v minus_one) dead)) in
        rw (← append_assoc l (id_of (see u) ∷ []) (ids (map see (replicate m u)))) (idle (l ++ id_of (see u) ∷ []) zero m more)
    idle l (suc n) zero d = rw append-nil d
    idle l (suc n) (suc m) d = idle l n m d

    spare_unheld : (v : ℤ) (n m : ℕ) → eq_z v minus_one ≡ false → unheld v (ids (map see (drop n (replicate m u)))) ≡ true
    spare_unheld v zero zero e = refl
    spare_unheld v zero (suc m) e = rw (dead, e, spare_unheld v zero m e)
    spare_unheld v (suc n) zero e = refl
    spare_unheld v (suc n) (suc m) e = spare_unheld v n m e

    module _ (t : List A) (n m : ℕ) (rest : map see (drop n t) ≡ map see (drop n (replicate m u))) where
      -- A live id of the table is one of those slots'.
      pub front_holds : (v : ℤ) → eq_z v minus_one ≡ false → unheld v (ids (map see t)) ≡ unheld v (ids (map see (take n t)))
      front_holds v e =
          let l = ids (map see (take n t)) in
          let none = ap (λ x. unheld v (ids x)) rest ∙ spare_unheld v n m e in
          ap (unheld v) (cut-ids t n) ∙ unheld_both v l (ids (map see (drop n t))) ∙ ap (λ b. unheld v l && b) none ∙ and-true (unheld v l)

      pub walk_over : (k : ℕ) → Walked t n k → live_differ (ids (map see t)) ≡ true
      walk_over k w = rw (cut-ids t n, rest) (idle (ids (map see (take n t))) n m w.1)
