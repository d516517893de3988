-- What becomes of each slot by an anonymous frame (K12): contacts that are paired keep slot and id, old ones left over end, new ones left over begin; which ones these are, by the best pairing. Cited by the crate link. Assumes nothing.
use mathlib.Core.Path.{◌≡◌, refl, ap, ap₂, subst, ◌∙◌}
use mathlib.Core.Bool.{true, false, cond}
use mathlib.Core.List.{List, [], ◌∷◌, map}
use Prim.Native.Nat.{ℕ, zero, suc, ◌+◌, ◌<◌, ◌≤◌}
use native.Mathlib.Omega.{arith}
use lib.Dec.{T, eqb}
use lib.IntN.{ℤ}
use lib.ListN.{length, get_or, take, length-map}
use lib.Seq.{get_or-take}
use Rattle.model.specs.Panel.{id_count, base, Setup, setup_good, panel_of}
use Rattle.model.specs.Table.{Table, id_of, numbers_of, live, ids}
use Rattle.model.specs.Frame.{kind_of, fate, goes_on, begins, free_id, slot_after, taken_after, counter_after, planned, new_table, rows_of}
use Rattle.model.specs.Pairing.{alone}
use Rattle.model.specs.Packets.{Contact, contact_row}
use Rattle.model.specs.Anonymous.{contact_numbers, empty_row, row_at, frame_of, SlotMade}
use Rattle.model.proofs.Ids.{begun_new}
use Rattle.model.proofs.Anonymous.{AllLong, made_rows, made_many}

-- ---- one slot of a plan

-- A slot after a plan is what its row makes of it, with some id for a contact that begins.
planned-at : (taken : List ℤ) (k : ℕ) (fr : List (List ℤ)) (t : Table) (i : ℕ) → i < length fr → i < length t
    → (j : ℕ) × (get_or (planned taken k fr t).table i [] ≡ slot_after (fate (kind_of (get_or fr i [])) (id_of (get_or t i []))) j (get_or t i []) (numbers_of (get_or fr i [])))
planned-at taken k [] t i a b = absurd (omega arith)
planned-at taken k (g ∷ fr) [] i a b = absurd (omega arith)
planned-at taken k (g ∷ fr) (s ∷ t) zero a b = (free_id taken k, refl)
planned-at taken k (g ∷ fr) (s ∷ t) (suc i) a b =
    let f = fate (kind_of g) (id_of s) in
    let j = free_id taken k in
    planned-at (taken_after f j taken) (counter_after f j k) fr t i (omega arith) (omega arith)

row-at : (cs : List Contact) (l : List ℕ) (i : ℕ) → i < length l → get_or (map (row_at cs) l) i [] ≡ row_at cs (get_or l i alone)
row-at cs [] i h = absurd (omega arith)
row-at cs (c ∷ l) zero h = refl
row-at cs (c ∷ l) (suc i) h = row-at cs l i (omega arith)

-- The row of a contact neither ends nor replaces.
by_live : (cs : List Contact) (c : ℕ) (id : ℤ) → eqb c alone ≡ false → fate (kind_of (row_at cs c)) id ≡ cond (live id) goes_on begins
by_live cs c id e = rw e

module _ (cs : List Contact) (u : Setup) (t : Table) (k : ℕ) (setup : T (setup_good base u)) (long : AllLong 3 cs) (size : u.slots ≤ length t)
    (counts : k < id_count) (few : length t + length t < id_count) (i : ℕ) (h : i < u.slots) where
  abbrev rows : List (List ℤ)
  rows = rows_of (panel_of base u) (frame_of (panel_of base u) t cs)

  abbrev new : Table
  new = new_table k rows t

  abbrev c : ℕ
  c = get_or (contact_numbers t cs) i alone

  many : length rows ≡ u.slots
  many = ap length (made_rows cs u t setup long size) ∙ made_many cs u t setup long size

  row_is : get_or rows i [] ≡ row_at cs c
  row_is =
      let numbers = take u.slots (contact_numbers t cs) in
      let there : i < length numbers = omega (arith, length-map numbers (row_at cs), made_many cs u t setup long size) in
      ap (λ r. get_or r i []) (made_rows cs u t setup long size) ∙ row-at cs numbers i there ∙ ap (row_at cs) (get_or-take u.slots (contact_numbers t cs) i alone h)

  made-slot : (j : ℕ) × (get_or new i [] ≡ slot_after (fate (kind_of (row_at cs c)) (id_of (get_or t i []))) j (get_or t i []) (numbers_of (row_at cs c)))
  unfolding many row_is
  made-slot = subst (λ r. (j : ℕ) × (get_or new i [] ≡ slot_after (fate (kind_of r) (id_of (get_or t i []))) j (get_or t i []) (numbers_of r))) row_is
      (planned-at (ids t) k rows t i (omega (arith, many)) (omega arith))

  pub slot-made : SlotMade t new cs i
  unfolding many row_is made-slot
  slot-made =
      record {
        goes_on = λ l e. made-slot.1
            ∙ ap₂ (λ f r. slot_after f made-slot.0 (get_or t i []) (numbers_of r)) (by_live cs c (id_of (get_or t i [])) e ∙ ap (λ b. cond b goes_on begins) l) (rowed e);
        ends = λ e. made-slot.1 ∙ ap (λ r. slot_after (fate (kind_of r) (id_of (get_or t i []))) made-slot.0 (get_or t i []) (numbers_of r)) (emptied e);
        begins = λ l e.
            let starts = by_live cs c (id_of (get_or t i [])) e ∙ ap (λ b. cond b goes_on begins) l in (
              ap numbers_of (made-slot.1 ∙ ap₂ (λ f r. slot_after f made-slot.0 (get_or t i []) (numbers_of r)) starts (rowed e)),
              begun_new k rows t i counts few (omega (arith, many)) (omega arith) (ap (λ r. fate (kind_of r) (id_of (get_or t i []))) row_is ∙ starts),
            );
      }
    where
      rowed : eqb c alone ≡ false → row_at cs c ≡ contact_row (get_or cs c [])
      rowed e = ap (λ b. cond b empty_row (contact_row (get_or cs c []))) e

      emptied : eqb c alone ≡ true → row_at cs c ≡ empty_row
      emptied e = ap (λ b. cond b empty_row (contact_row (get_or cs c []))) e
