-- What is seen of a crane's table and held again is the table, whatever it is: so a refusal hands a state back unchanged. And what is held of good records is seen again. Cited by the cranes' crates. Assumes nothing.
use mathlib.Core.Path.{◌≡◌, refl}
use mathlib.Core.List.{List, [], ◌∷◌}
use Prim.Native.Nat.{ℕ}
use lib.Dec.{T}
use lib.IntN.{ℤ, pos, negsuc}
use Rattle.model.specs.Numbers.{between_z}
use Rattle.model.specs.Panel.{id_field}
use Rattle.model.specs.Table as M
use Rattle.model.specs.Table.{fits, good_slot, good_records}
use Rattle.model.proofs.Bools.{both_left, both_right}
use Rattle.crane_panel.specs.declared.Slot.{Slot}
use Rattle.crane_panel.specs.declared.Setup.{Setup}
use Rattle.common.specs.Seen.{natural}
use Rattle.common.proofs.Tables as Any
use Rattle.crane_panel.specs.Seen.{slot_of, table_of, slot_from, table_from, fields_of}

pub table_back : (t : List Slot) → table_from (table_of t) ≡ t
table_back = Any.table_back slot_of slot_from (λ s. refl)

-- ---- held and seen again

own-number : (top : ℕ) (v : ℤ) → T (between_z (pos 0) (pos top) v) → pos (natural v) ≡ v
own-number top (pos n) t = refl
own-number top (negsuc n) t = absurd t

slot_seen : (u : Setup) (s : M.Slot) → T (good_slot (fields_of u) s) → slot_of (slot_from s) ≡ s
slot_seen u [] g = absurd g
slot_seen u (i ∷ []) g = absurd (both_right (fits id_field i) _ g)
slot_seen u (i ∷ x ∷ []) g = absurd (both_right (between_z (pos 0) (pos u.x) x) _ (both_right (fits id_field i) _ g))
slot_seen u (i ∷ x ∷ y ∷ []) g = absurd (both_right (between_z (pos 0) (pos u.y) y) _ (both_right (between_z (pos 0) (pos u.x) x) _ (both_right (fits id_field i) _ g)))
slot_seen u (i ∷ x ∷ y ∷ p ∷ []) g =
    let gx = both_right (fits id_field i) _ g in
    let gy = both_right (between_z (pos 0) (pos u.x) x) _ gx in
    let gp = both_right (between_z (pos 0) (pos u.y) y) _ gy in
    let ex = own-number u.x x (both_left (between_z (pos 0) (pos u.x) x) _ gx) in
    let ey = own-number u.y y (both_left (between_z (pos 0) (pos u.y) y) _ gy) in
    let ep = own-number u.pressure p (both_left (between_z (pos 0) (pos u.pressure) p) _ gp) in
    rw (ex, ey, ep)
slot_seen u (i ∷ x ∷ y ∷ p ∷ q ∷ s) g =
    absurd (both_right (between_z (pos 0) (pos u.pressure) p) _ (both_right (between_z (pos 0) (pos u.y) y) _ (both_right (between_z (pos 0) (pos u.x) x) _ (both_right (fits id_field i) _ g))))

-- Good records of a setup are seen as they are, once they are held.
pub table-seen : (u : Setup) (n : ℕ) (t : M.Table) → T (good_records (fields_of u) n t) → table_of (table_from t) ≡ t
table-seen u = Any.table-seen slot_of slot_from (fields_of u) (slot_seen u) refl
