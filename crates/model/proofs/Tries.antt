-- The search for an id needs no more tries than there are taken ids, and goes by which numbers are taken alone, not by their order. Cited by the writer's crate plan. Assumes nothing.
use mathlib.Core.Path.{◌≡◌, refl, sym, ap, ap₂, ◌∙◌}
use mathlib.Core.Bool.{Bool, true, false, not, cond, ◌&&◌}
use mathlib.Core.List.{List, [], ◌∷◌, ◌++◌}
use Prim.Native.Nat.{ℕ, zero, suc, ◌+◌, ◌-◌, ◌≤◌, ◌<◌}
use native.Mathlib.Omega.{arith}
use lib.IntN.{ℤ, pos}
use lib.ListN.{length}
use Rattle.model.proofs.Bools.{is_true}
use Rattle.model.proofs.Ids.{pick_free}
use Rattle.model.specs.Panel.{id_count, last_id}
use Rattle.model.specs.Numbers.{eq_z}
use Rattle.model.specs.Table.{Table, id_of, numbers_of, unheld}
use Rattle.model.specs.Frame.{kind_of, Fate, none, goes_on, begins, fate, next, pick, free_id, slot_after, taken_after, counter_after, after, planned}

-- ---- how many tries

pub pick-stays : (d : ℕ) (taken : List ℤ) (k : ℕ) → unheld (pos k) taken ≡ true → pick d taken k ≡ k
pick-stays zero taken k e = refl
pick-stays (suc d) taken k e = ap (λ b. cond b k (pick d taken (next k))) e

pick_add : (m d : ℕ) (taken : List ℤ) (k : ℕ) → pick (m + d) taken k ≡ pick d taken (pick m taken k)
pick_add zero d taken k = let e : 0 + d ≡ d = omega arith in ap (λ f. pick f taken k) e
pick_add (suc m) d taken k =
    let e : suc m + d ≡ suc (m + d) = omega arith in
    ap (λ f. pick f taken k) e
    ∙ (elim (unheld (pos k) taken) as (λ b. unheld (pos k) taken ≡ b → cond b k (pick (m + d) taken (next k)) ≡ pick d taken (cond b k (pick m taken (next k)))) [
      | true ↦ λ q. sym (pick-stays d taken k q)
      | false ↦ λ q. pick_add m d taken (next k)
    ]) refl

-- One of m + 1 numbers is free where no more than m are taken.
pub free_id-short : (m : ℕ) (taken : List ℤ) (k : ℕ) → k < id_count → length taken ≤ m → m ≤ last_id → free_id taken k ≡ pick m taken k
unfolding free_id
free_id-short m taken k l s q =
    let e : last_id ≡ m + (last_id - m) = omega arith in
    ap (λ f. pick f taken k) e ∙ pick_add m (last_id - m) taken k
    ∙ pick-stays (last_id - m) taken (pick m taken k) (is_true _ (pick_free m taken k l s (omega arith)))

-- A try that fails leaves one try less, from the next number on.
pub pick-held : (m : ℕ) (taken : List ℤ) (k : ℕ) → 0 < m → unheld (pos k) taken ≡ false → pick m taken k ≡ pick (m - 1) taken (next k)
pick-held m taken k l e =
    let n : m ≡ suc (m - 1) = omega arith in
    ap (λ f. pick f taken k) n ∙ ap (λ b. cond b k (pick (m - 1) taken (next k))) e

-- ---- only the taken numbers count

-- Two lists that hold the same numbers from 0 up.
abbrev pub Same : List ℤ → List ℤ → Type 0
Same a b = (k : ℕ) → unheld (pos k) a ≡ unheld (pos k) b

pick_same : (m : ℕ) (a b : List ℤ) (k : ℕ) → Same a b → pick m a k ≡ pick m b k
pick_same zero a b k e = refl
pick_same (suc m) a b k e = ap₂ (λ t r. cond t k r) (e k) (pick_same m a b (next k) e)

free_id-same : (a b : List ℤ) (k : ℕ) → Same a b → free_id a k ≡ free_id b k
unfolding free_id
free_id-same a b k e = pick_same last_id a b k e

taken-same : (f : Fate) (j : ℕ) (a b : List ℤ) → Same a b → Same (taken_after f j a) (taken_after f j b)
taken-same none j a b e k = e k
taken-same goes_on j a b e k = e k
taken-same begins j a b e k = ap (λ t. not (eq_z (pos k) (pos j)) && t) (e k)

-- The planned table and counter go by which ids are taken alone.
pub planned-same : (a b : List ℤ) (k : ℕ) (fr : List (List ℤ)) (t : Table) → Same a b → planned a k fr t ≡ planned b k fr t
planned-same a b k [] t e = refl
planned-same a b k (g ∷ fr) [] e = refl
planned-same a b k (g ∷ fr) (s ∷ t) e =
    let f = fate (kind_of g) (id_of s) in
    let j = free_id b k in
    ap (λ i. after (slot_after f i s (numbers_of g) ∷ []) (planned (taken_after f i a) (counter_after f i k) fr t)) (free_id-same a b k e)
    ∙ ap (after (slot_after f j s (numbers_of g) ∷ [])) (planned-same (taken_after f j a) (taken_after f j b) (counter_after f j k) fr t (taken-same f j a b e))

-- A number put last is held as one put first.
pub same-last : (v : ℤ) (l : List ℤ) → Same (v ∷ l) (l ++ v ∷ [])
same-last v [] k = refl
same-last v (x ∷ l) k = swap (not (eq_z (pos k) v)) (not (eq_z (pos k) x)) (unheld (pos k) l) ∙ ap (λ t. not (eq_z (pos k) x) && t) (same-last v l k)
  where
    swap : (a b c : Bool) → (a && (b && c)) ≡ (b && (a && c))
    swap true b c = refl
    swap false true c = refl
    swap false false c = refl
