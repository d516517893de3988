-- Ranks stay while every id does. Cited by the proof of `moves`. Assumes nothing.
-- Ids by themselves are a table whose slots hold nothing else: the model's law is asked of that table and a frame without rows.
use mathlib.Core.Path.{◌≡◌, refl, sym, ap, ap₂, ◌∙◌, subst}
use mathlib.Core.Bool.{cond}
use mathlib.Core.List.{List, [], ◌∷◌}
use Prim.Native.Nat.{ℕ}
use native.Mathlib.Omega.{arith}
use lib.Dec.{T}
use lib.IntN.{ℤ}
use lib.ListN.{length}
use Rattle.model.specs.Numbers.{eq_z}
use Rattle.model.specs.Panel.{records}
use Rattle.model.specs.Table.{Table, live, ids}
use Rattle.model.specs.Frame.{Fate, none, goes_on, begins}
use Rattle.model.specs.Ranks.{good_ranks, fates, ranks_after}
use Rattle.model.proofs.Bools.{is_true, eq_z-refl}
use Rattle.model.proofs.RanksKept.{Kept, ids-kept, ranks_stay}
use Rattle.pointer.specs.Seen.{fate_by, fates_by}

abbrev bare : List ℤ → Table
bare [] = []
bare (v ∷ l) = (v ∷ []) ∷ bare l

bare-ids : (l : List ℤ) → ids (bare l) ≡ l
bare-ids [] = refl
bare-ids (v ∷ l) = ap {B = List ℤ} (λ k. v ∷ k) (bare-ids l)

stays_by : (v : ℤ) → cond (live v) goes_on none ≡ fate_by v v
stays_by v = ap (λ b. cond (live v) (cond b goes_on begins) none) (sym (is_true (eq_z v v) (eq_z-refl v)))

bare-fates : (l : List ℤ) → fates [] (bare l) ≡ fates_by l l
bare-fates [] = refl
bare-fates (v ∷ l) = ap₂ {C = List Fate} (λ a k. a ∷ k) (stays_by v) (bare-fates l)

pub ranks-kept : (l : List ℤ) (rs : List ℕ) → length l ≡ records → T (good_ranks l rs) → ranks_after (fates_by l l) rs ≡ rs
ranks-kept l rs e g =
    let t = bare l in
    let few : length (ids t) ≡ records = ap length (bare-ids l) ∙ e in
    let kept : Kept (fates [] t) (ids t) = ids-kept (ids t) 0 [] t (omega arith) (omega (arith, few)) (λ v u. u) refl in
    ap (λ fs. ranks_after fs rs) (sym (bare-fates l)) ∙ ranks_stay [] t rs kept (subst (λ k. T (good_ranks k rs)) (sym (bare-ids l)) g)
