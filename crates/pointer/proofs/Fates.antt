-- What becomes of each record of a frame is told by the ids before and after it: one that begins never takes the id that its slot had. Cited by the writer. Assumes nothing.
use mathlib.Core.Path.{◌≡◌, refl, sym, ap, ap₂, ◌∙◌}
use mathlib.Core.Bool.{false, not, cond}
use mathlib.Core.List.{List, [], ◌∷◌}
use Prim.Native.Nat.{ℕ, ◌+◌, ◌<◌}
use native.Mathlib.Omega.{arith}
use lib.Dec.{T, not_T}
use lib.IntN.{ℤ, pos}
use lib.ListN.{length, length-map}
use Rattle.model.specs.Numbers.{eq_z}
use Rattle.model.specs.Panel.{id_count}
use Rattle.model.specs.Table.{Table, id_of, live, unheld, ids}
use Rattle.model.specs.Frame.{kind_of, Fate, none, goes_on, begins, fate, free_id, next, planned, new_table}
use Rattle.model.specs.Ranks.{stays, fates}
use Rattle.model.proofs.Bools.{is_true, is_false, both_right, eq_z→eq, eq_z-refl}
use Rattle.model.proofs.Ids.{fated}
use Rattle.model.proofs.Ranks.{Goes, goes}
use Rattle.model.proofs.RanksKept.{new_id}
use Rattle.pointer.specs.Seen.{fate_by, fates_by}

-- ---- one record

same_id : (v : ℤ) → fate_by v v ≡ stays v
same_id v = ap (λ b. cond (live v) (cond b goes_on begins) none) (is_true (eq_z v v) (eq_z-refl v))

-- ---- all records

fates_from : (taken : List ℤ) (k : ℕ) (fr : List (List ℤ)) (t : Table) → k < id_count → length taken + length t < id_count
    → ((v : ℤ) → T (unheld v taken) → T (unheld v (ids t))) → fates_by (ids t) (ids (planned taken k fr t).table) ≡ fates fr t
fates_from taken k [] [] q z H = refl
fates_from taken k [] (s ∷ t) q z H =
    ap₂ {C = List Fate} (λ a l. a ∷ l) (same_id (id_of s))
    (fates_from taken k [] t q (omega arith) (λ w u. both_right (not (eq_z w (id_of s))) (unheld w (ids t)) (H w u)))
fates_from taken k (g ∷ fr) [] q z H = refl
fates_from taken k (g ∷ fr) (s ∷ t) q z H =
    let H' : (w : ℤ) → T (unheld w taken) → T (unheld w (ids t)) = λ w u. both_right (not (eq_z w (id_of s))) (unheld w (ids t)) (H w u) in
    let j = free_id taken k in
    (elim (fate (kind_of g) (id_of s)) as (λ a. Goes a (id_of s) → fates_by (id_of s ∷ ids t) (ids (fated a taken k g fr s t)) ≡ a ∷ fates fr t) [
      | none ↦ λ y. ap {B = List Fate} (λ l. none ∷ l) (fates_from taken k fr t q (omega arith) H')
      | goes_on ↦ λ y. ap₂ {C = List Fate} (λ a l. a ∷ l) (same_id (id_of s) ∙ ap (λ b. cond b goes_on none) (is_true (live (id_of s)) y)) (fates_from taken k fr t q (omega arith) H')
      | begins ↦ λ y.
          let other : eq_z (id_of s) (pos j) ≡ false = is_false (eq_z (id_of s) (pos j)) (not_T (eq_z (id_of s) (pos j)) (λ e. new_id taken k (id_of s) (ids t) q (omega arith) H (sym (eq_z→eq (id_of s) (pos j) e)))) in
          ap₂ {C = List Fate} (λ b l. cond b goes_on begins ∷ l) other
          (fates_from (pos j ∷ taken) (next j) fr t (omega arith) (omega arith) (λ w u. H' w (both_right (not (eq_z w (pos j))) (unheld w taken) u)))
    ]) (goes (kind_of g) (id_of s))

-- So it is of a frame.
pub fates_are : (k : ℕ) (fr : List (List ℤ)) (old : Table) → k < id_count → length old + length old < id_count
    → fates_by (ids old) (ids (new_table k fr old)) ≡ fates fr old
fates_are k fr old q z = fates_from (ids old) k fr old q (omega (arith, length-map old id_of)) (λ v u. u)
