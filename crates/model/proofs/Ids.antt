-- The id choice: it exists, it is the first that document 01 allows, it is below 65,536, and it keeps live ids apart. Cited by Steady and the writer's crates. Assumes nothing.
use mathlib.Core.Path.{◌≡◌, refl, sym, ap, ◌∙◌, subst}
use mathlib.Core.Bool.{true, false, not, cond, ◌&&◌, ◌||◌}
use mathlib.Core.List.{List, [], ◌∷◌}
use Prim.Native.Nat.{ℕ, zero, suc, ◌+◌, ◌%◌, ◌≤◌, ◌<◌}
use native.Mathlib.Omega.{arith}
use lib.Dec.{T, not_T, T_not}
use lib.IntN.{ℤ, pos}
use lib.ListN.{length, get_or, length-map}
use Rattle.model.proofs.Bools.{is_true, is_false, both, both_left, both_right, not_both, eq_z→eq, eq_z-refl, apart}
use Rattle.model.specs.Panel.{id_count, last_id}
use Rattle.model.specs.Numbers.{eq_z}
use Rattle.model.specs.Table.{Slot, Table, id_of, numbers_of, live, unheld, live_differ, ids, ids_differ}
use Rattle.model.specs.Frame.{kind_of, Fate, none, goes_on, begins, fate, next, pick, free_id, slot_after, taken_after, counter_after, planned, new_table}

-- ---- taking one number out of a list

abbrev without : ℤ → List ℤ → List ℤ
without v [] = []
without v (x ∷ l) = cond (eq_z v x) l (x ∷ without v l)

without_shorter : (v : ℤ) (l : List ℤ) → T (not (unheld v l)) → suc (length (without v l)) ≡ length l
without_shorter v [] h = absurd h
without_shorter v (x ∷ l) h =
    (elim (eq_z v x) as (λ b. T (not (not b && unheld v l)) → suc (length (cond b l (x ∷ without v l))) ≡ suc (length l)) [
      | true ↦ λ k. refl
      | false ↦ λ k. ap suc (without_shorter v l k)
    ]) h

-- Any other number is held as before.
without_other : (v w : ℤ) (l : List ℤ) → T (not (eq_z w v)) → unheld w (without v l) ≡ unheld w l
without_other v w [] n = refl
without_other v w (x ∷ l) n =
    (elim (eq_z v x) as (λ b. (T b → v ≡ x) → unheld w (cond b l (x ∷ without v l)) ≡ (not (eq_z w x) && unheld w l)) [
      | true ↦ λ e. rw (← e tt, is_false (eq_z w v) n)
      | false ↦ λ e. ap (λ b. not (eq_z w x) && b) (without_other v w l n)
    ]) (eq_z→eq v x)

-- ---- the search

-- d steps on from a, m more steps do not come back to a.
pick-past : (m : ℕ) (taken : List ℤ) (a d k : ℕ) → a < id_count → k ≡ (a + d) % id_count → 0 < d → d + m < id_count
    → (pick m taken k ≡ pick m (without (pos a) taken) k) × (pick m taken k ≡ a → ⊥)
pick-past zero taken a d k l e p q = (refl, λ z. omega arith)
pick-past (suc m) taken a d k l e p q =
    rw (without_other (pos a) (pos k) taken (apart k a (λ z. omega arith)))
    (elim (unheld (pos k) taken) as (λ b. ((cond b k (pick m taken (next k))) ≡ (cond b k (pick m (without (pos a) taken) (next k))))
    × ((cond b k (pick m taken (next k))) ≡ a → ⊥)) [
      | true ↦ (refl, λ z. omega arith)
      | false ↦ pick-past m taken a (suc d) (next k) l (omega arith) (omega arith) (omega arith)
    ])

pick-below : (m : ℕ) (taken : List ℤ) (k : ℕ) → k < id_count → pick m taken k < id_count
pick-below zero taken k l = l
pick-below (suc m) taken k l =
    elim (unheld (pos k) taken) as (λ b. (cond b k (pick m taken (next k))) < id_count) [
      | true ↦ l
      | false ↦ pick-below m taken (next k) (omega arith)
    ]

-- m steps are enough where no more than m numbers are taken.
pub pick_free : (m : ℕ) (taken : List ℤ) (k : ℕ) → k < id_count → length taken ≤ m → m < id_count → T (unheld (pos (pick m taken k)) taken)
pick_free zero [] k l s q = tt
pick_free zero (x ∷ taken) k l s q = absurd (omega arith)
pick_free (suc m) taken k l s q =
    (elim (unheld (pos k) taken) as (λ b. (T b → T (unheld (pos k) taken)) → (T (not b) → T (not (unheld (pos k) taken))) → T (unheld (pos (cond b k (pick m taken (next k)))) taken)) [
      | true ↦ λ y n. y tt
      | false ↦ λ y n.
          let w = without (pos k) taken in
          let past = pick-past m taken k 1 (next k) l refl (omega arith) (omega arith) in
          let free : T (unheld (pos (pick m w (next k))) w) = pick_free m w (next k) (omega arith) (omega (arith, without_shorter (pos k) taken (n tt))) (omega arith) in
          let free' : T (unheld (pos (pick m taken (next k))) w) = rw past.0 free in
          rw (without_other (pos k) (pos (pick m taken (next k))) taken (apart (pick m taken (next k)) k past.1)) at free'
    ]) (λ t. t) (λ t. t)

-- The number that is found, as a distance from k; every number on the way to it is taken.
pub record First (taken : List ℤ) (k j : ℕ) : Type 0 where
  pub steps : ℕ
  pub within : steps < id_count
  pub there : j ≡ (k + steps) % id_count
  pub passed : (e : ℕ) → e < steps → T (not (unheld (pos ((k + e) % id_count)) taken))

pick_first : (m : ℕ) (taken : List ℤ) (k : ℕ) → k < id_count → m < id_count → (d : ℕ) × (d ≤ m) × (pick m taken k ≡ (k + d) % id_count) × ((e : ℕ) → e < d → T (not (unheld (pos ((k + e) % id_count)) taken)))
pick_first zero taken k l q = (0, omega arith, omega arith, λ e h. absurd (omega arith))
pick_first (suc m) taken k l q =
    (elim (unheld (pos k) taken) as (λ b. (T (not b) → T (not (unheld (pos k) taken)))
    → (d : ℕ) × (d ≤ suc m) × (cond b k (pick m taken (next k)) ≡ (k + d) % id_count) × ((e : ℕ) → e < d → T (not (unheld (pos ((k + e) % id_count)) taken)))) [
      | true ↦ λ n. (0, omega arith, omega arith, λ e h. absurd (omega arith))
      | false ↦ λ n.
          let r = pick_first m taken (next k) (omega arith) (omega arith) in
          let d = r.0 in
          let dm : d ≤ m = r.1 in
          let at : pick m taken (next k) ≡ (next k + d) % id_count = r.2 in
          (suc d, omega arith, at ∙ further k d, passed d (n tt) r.3)
    ]) (λ t. t)
  where
    further : (a d : ℕ) → (next a + d) % id_count ≡ (a + suc d) % id_count
    further a d = omega arith

    passed : (d : ℕ) → T (not (unheld (pos k) taken)) → ((e : ℕ) → e < d → T (not (unheld (pos ((next k + e) % id_count)) taken))) → (e : ℕ) → e < suc d → T (not (unheld (pos ((k + e) % id_count)) taken))
    passed d here more zero h = let z : (k + 0) % id_count ≡ k = omega arith in rw z here
    passed d here more (suc e) h = subst (λ j. T (not (unheld (pos j) taken))) (further k e) (more e (omega arith))

-- It exists: the chosen id is not taken, where fewer than 65,536 numbers are.
pub free_id_free : (taken : List ℤ) (k : ℕ) → k < id_count → length taken < id_count → T (unheld (pos (free_id taken k)) taken)
unfolding free_id
free_id_free taken k l s = pick_free last_id taken k l (omega arith) (omega arith)

-- It is the first from k on, wrapping: all before it are taken.
pub free_id-first : (taken : List ℤ) (k : ℕ) → k < id_count → First taken k (free_id taken k)
unfolding free_id
free_id-first taken k l =
    let r = pick_first last_id taken k l (omega arith) in
    record { steps = r.0; within = omega (arith, r.1); there = r.2; passed = r.3 }

-- It is below 65,536.
pub free_id-below : (taken : List ℤ) (k : ℕ) → k < id_count → free_id taken k < id_count
unfolding free_id
free_id-below taken k l = pick-below last_id taken k l

-- ---- the counter

counter_after-below : (f : Fate) (j k : ℕ) → k < id_count → counter_after f j k < id_count
counter_after-below none j k q = q
counter_after-below goes_on j k q = q
counter_after-below begins j k q = omega arith

-- The counter stays below 65,536.
pub counter-below : (taken : List ℤ) (k : ℕ) (fr : List (List ℤ)) (t : Table) → k < id_count → (planned taken k fr t).counter < id_count
counter-below taken k [] t q = q
counter-below taken k (g ∷ fr) [] q = q
counter-below taken k (g ∷ fr) (s ∷ t) q =
    let f = fate (kind_of g) (id_of s) in
    let j = free_id taken k in
    counter-below (taken_after f j taken) (counter_after f j k) fr t (counter_after-below f j k q)

-- ---- the ids of a frame's table

-- A table's first slot and the rest of it after their rows, by the first slot's fate.
abbrev pub fated : Fate → List ℤ → ℕ → List ℤ → List (List ℤ) → Slot → Table → Table
fated f taken k g fr s t = slot_after f (free_id taken k) s (numbers_of g) ∷ (planned (taken_after f (free_id taken k) taken) (counter_after f (free_id taken k) k) fr t).table

-- An id that is taken, and held by no slot to come, is held by no slot to come afterwards.
stays-unheld : (taken : List ℤ) (k : ℕ) (fr : List (List ℤ)) (t : Table) (v : ℤ) → k < id_count → length taken + length t < id_count
    → T (live v) → T (not (unheld v taken)) → T (unheld v (ids t)) → T (unheld v (ids (planned taken k fr t).table))
stays-unheld taken k [] t v q z lv h u = u
stays-unheld taken k (g ∷ fr) [] v q z lv h u = tt
stays-unheld taken k (g ∷ fr) (s ∷ t) v q z lv h u =
    let j = free_id taken k in
    let here = both_left (not (eq_z v (id_of s))) (unheld v (ids t)) u in
    let more = both_right (not (eq_z v (id_of s))) (unheld v (ids t)) u in
    elim (fate (kind_of g) (id_of s)) as (λ f. T (unheld v (ids (fated f taken k g fr s t)))) [
      | none ↦ both (live v) _ lv (stays-unheld taken k fr t v q (omega arith) lv h more)
      | goes_on ↦ both (not (eq_z v (id_of s))) _ here (stays-unheld taken k fr t v q (omega arith) lv h more)
      | begins ↦
          let new : T (not (eq_z v (pos j))) = not_T (eq_z v (pos j)) (λ e. T_not (unheld v taken) h (subst (λ w. T (unheld w taken)) (sym (eq_z→eq v (pos j) e)) (free_id_free taken k q (omega arith)))) in
          both (not (eq_z v (pos j))) _ new (stays-unheld (pos j ∷ taken) (next j) fr t v (omega arith) (omega arith) lv (not_both (not (eq_z v (pos j))) (unheld v taken) h) more)
    ]

differ_from : (taken : List ℤ) (k : ℕ) (fr : List (List ℤ)) (t : Table) → k < id_count → length taken + length t < id_count
    → ((v : ℤ) → T (live v) → T (unheld v taken) → T (unheld v (ids t))) → T (live_differ (ids t)) → T (live_differ (ids (planned taken k fr t).table))
differ_from taken k [] t q z H d = d
differ_from taken k (g ∷ fr) [] q z H d = tt
differ_from taken k (g ∷ fr) (s ∷ t) q z H d =
    let x = id_of s in
    let j = free_id taken k in
    let rest = both_right (not (live x) || unheld x (ids t)) (live_differ (ids t)) d in
    let H' : (v : ℤ) → T (live v) → T (unheld v taken) → T (unheld v (ids t)) = λ v lv u. both_right (not (eq_z v x)) (unheld v (ids t)) (H v lv u) in
    elim (fate (kind_of g) (id_of s)) as (λ f. T (live_differ (ids (fated f taken k g fr s t)))) [
      | none ↦ differ_from taken k fr t q (omega arith) H' rest
      | goes_on ↦
          both (not (live x) || unheld x (ids (planned taken k fr t).table)) _
          ((elim (live x) as (λ b. (T b → T (live x)) → T (not b || unheld x (ids t)) → T (not b || unheld x (ids (planned taken k fr t).table))) [
            | true ↦ λ lv u. stays-unheld taken k fr t x q (omega arith) (lv tt) (not_T (unheld x taken) (λ e. T_not (eq_z x x) (both_left (not (eq_z x x)) (unheld x (ids t)) (H x (lv tt) e)) (eq_z-refl x))) u
            | false ↦ λ lv u. tt
          ]) (λ e. e) (both_left (not (live x) || unheld x (ids t)) (live_differ (ids t)) d))
          (differ_from taken k fr t q (omega arith) H' rest)
      | begins ↦
          let held : T (not (unheld (pos j) (pos j ∷ taken))) = rw (is_true (eq_z (pos j) (pos j)) (eq_z-refl (pos j))) tt in
          both (unheld (pos j) (ids (planned (pos j ∷ taken) (next j) fr t).table)) _
          (stays-unheld (pos j ∷ taken) (next j) fr t (pos j) (omega arith) (omega arith) tt held (H' (pos j) tt (free_id_free taken k q (omega arith))))
          (differ_from (pos j ∷ taken) (next j) fr t (omega arith) (omega arith) (λ v lv u. H' v lv (both_right (not (eq_z v (pos j))) (unheld v taken) u)) rest)
    ]

-- The live ids of the new table all differ, for any number n of records with 2n below 65,536.
pub ids-apart : (k : ℕ) (fr : List (List ℤ)) (old : Table) → k < id_count → length old + length old < id_count
    → T (ids_differ old) → T (ids_differ (new_table k fr old))
ids-apart k fr old q z d = differ_from (ids old) k fr old q (omega (arith, length-map old id_of)) (λ v lv u. u) d

-- ---- a beginning contact's id was not live before

taken_more : (f : Fate) (j : ℕ) (taken : List ℤ) (v : ℤ) → T (unheld v (taken_after f j taken)) → T (unheld v taken)
taken_more none j taken v u = u
taken_more goes_on j taken v u = u
taken_more begins j taken v u = both_right (not (eq_z v (pos j))) (unheld v taken) u

taken-length : (f : Fate) (j : ℕ) (taken : List ℤ) → length (taken_after f j taken) ≤ suc (length taken)
taken-length none j taken = omega arith
taken-length goes_on j taken = omega arith
taken-length begins j taken = omega arith

begun_from : (taken : List ℤ) (k : ℕ) (fr : List (List ℤ)) (t : Table) (i : ℕ) → k < id_count → length taken + length t < id_count → i < length fr → i < length t
    → fate (kind_of (get_or fr i [])) (id_of (get_or t i [])) ≡ begins → T (unheld (id_of (get_or (planned taken k fr t).table i [])) taken)
begun_from taken k [] t i q z a b e = absurd (omega arith)
begun_from taken k (g ∷ fr) [] i q z a b e = absurd (omega arith)
begun_from taken k (g ∷ fr) (s ∷ t) zero q z a b e =
    subst (λ f. T (unheld (id_of (slot_after f (free_id taken k) s (numbers_of g))) taken)) (sym e) (free_id_free taken k q (omega arith))
begun_from taken k (g ∷ fr) (s ∷ t) (suc i) q z a b e =
    let f = fate (kind_of g) (id_of s) in
    let j = free_id taken k in
    taken_more f j taken _ (begun_from (taken_after f j taken) (counter_after f j k) fr t i (counter_after-below f j k q) (omega (arith, taken-length f j taken)) (omega arith) (omega arith) e)

-- The id of a contact that begins is none of the old table's, an ending or replaced contact's neither.
pub begun_new : (k : ℕ) (fr : List (List ℤ)) (old : Table) (i : ℕ) → k < id_count → length old + length old < id_count → i < length fr → i < length old
    → fate (kind_of (get_or fr i [])) (id_of (get_or old i [])) ≡ begins → T (unheld (id_of (get_or (new_table k fr old) i [])) (ids old))
begun_new k fr old i q z a b e = begun_from (ids old) k fr old i q (omega (arith, length-map old id_of)) a b e
