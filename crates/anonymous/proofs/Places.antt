-- The number of each record's contact, and the rows by them. Cited by the proofs of `numbers_at` and `write`. Assumes nothing.
use mathlib.Core.Path.{◌≡◌, refl, sym, ap, ap₂, ◌∙◌, subst}
use mathlib.Core.Bool.{cond}
use mathlib.Core.List.{List, [], ◌∷◌, ◌++◌, map}
use Prim.Native.Nat.{ℕ, zero, suc, ◌+◌, ◌-◌, ◌≤◌}
use native.Mathlib.Omega.{arith}
use lib.Dec.{eqb}
use lib.IntN.{ℤ}
use lib.ListN.{length, take, replicate, length-map}
use Rattle.model.specs.Panel.{records}
use Rattle.model.specs.Shift.{flat}
use Rattle.model.specs.Pairing.{Point, points, alone, best_pairing, placed}
use Rattle.model.specs.Packets.{contact_row}
use Rattle.model.specs.Anonymous.{contact_point, live_in, old_points, contact_numbers, empty_row, row_at}
use Rattle.model.proofs.PairingPlaced.{placed-padded}
use Rattle.model.proofs.Placing.{Number, nobody, contact, Told, told-best, told-placed, told_filled, told_at}
use Rattle.panel.specs.declared.Slot.{Slot}
use Rattle.panel.specs.Seen.{table_of}
use Rattle.packets.specs.declared.Packets.{Packets}
use Rattle.packets.specs.Seen.{most, contacts_from}
use Rattle.pairing.specs.Cells.{Numbers}
use Rattle.pairing.proofs.Filled.{points-length}
use Rattle.anonymous.specs.declared.Olds.{Olds}
use Rattle.anonymous.specs.Held.{OldsOf, contacts_in, places, Judged}
use Rattle.anonymous.proofs.Frames.{contact-at}

-- ---- the pairing that `pair_up` answers

pub paired_numbers : (news m : ℕ) (nx ny : List ℕ) (os : List Point) → news ≤ alone → Numbers (best_pairing (points news 0 nx ny) os ++ replicate m alone)
paired_numbers news m nx ny os h =
    let ns = points news 0 nx ny in
    let n = points-length news 0 nx ny in
    told_at (length ns) (omega (arith, n)) (best_pairing ns os ++ replicate m alone) (told_filled (length ns) (best_pairing ns os) m (told-best ns os))

-- ---- the contact of each record

contacts-length : (n i : ℕ) (xs ys ps : List ℤ) → length (contacts_from n i xs ys ps) ≡ n
contacts-length zero i xs ys ps = refl
contacts-length (suc n) i xs ys ps = ap suc (contacts-length n (i + 1) xs ys ps)

-- What the two calls of the pairing answer is the model's.
pub numbers_are : (t : List Slot) (p : Packets) (o : Olds) (nx ny cs : List ℕ) → OldsOf t o → Judged p
    → points p.count 0 nx ny ≡ map contact_point (contacts_in p)
    → cs ≡ best_pairing (points p.count 0 nx ny) (points o.count 0 o.x o.y) ++ replicate (records - o.count) alone
    → placed o.live cs p.count ≡ contact_numbers (table_of t) (contacts_in p)
numbers_are t p o nx ny cs by j e q =
    let n : p.count ≡ length (contacts_in p) = sym (contacts-length p.count 0 p.x p.y p.pressure) in
    ap (λ l. placed o.live l p.count) q
    ∙ placed-padded o.live (best_pairing (points p.count 0 nx ny) (points o.count 0 o.x o.y)) (records - o.count) p.count j.few
    ∙ ap₂ (λ ns os. placed o.live (best_pairing ns os) p.count) e by.points
    ∙ ap₂ (λ l m. placed l (best_pairing (map contact_point (contacts_in p)) (old_points (table_of t))) m) by.live n

-- ---- what is known of these numbers

numbers-told : (t : List Slot) (p : Packets) → Told p.count (contact_numbers (table_of t) (contacts_in p))
numbers-told t p =
    let cs = contacts_in p in
    let ns = map contact_point cs in
    let n : length cs ≡ p.count = contacts-length p.count 0 p.x p.y p.pressure in
    let told : Told (length cs) (best_pairing ns (old_points (table_of t))) = rw (length-map cs contact_point) at (told-best ns (old_points (table_of t))) in
    subst (λ m. Told m (contact_numbers (table_of t) cs)) n (told-placed (live_in (table_of t)) (best_pairing ns (old_points (table_of t))) (length cs) told)

pub numbers-at-most : (t : List Slot) (p : Packets) → p.count ≤ most → Numbers (contact_numbers (table_of t) (contacts_in p))
numbers-at-most t p h = told_at p.count h (contact_numbers (table_of t) (contacts_in p)) (numbers-told t p)

-- ---- rows: the places without a contact are not asked for

module _ (n : ℕ) (few : n ≤ most) (xs ys ps : List ℤ) where
  row_same : (c : ℕ) → Number n c → row_at (contacts_from most 0 xs ys ps) c ≡ row_at (contacts_from n 0 xs ys ps) c
  row_same c (nobody e) = ap (row_at (contacts_from most 0 xs ys ps)) e ∙ sym (ap (row_at (contacts_from n 0 xs ys ps)) e)
  row_same c (contact h) =
      ap (λ q. cond (eqb c alone) empty_row (contact_row q)) (contact-at most 0 c xs ys ps (omega arith) ∙ sym (contact-at n 0 c xs ys ps h))

  rows_same : (k : ℕ) (cs : List ℕ) → Told n cs → map (row_at (contacts_from most 0 xs ys ps)) (take k cs) ≡ map (row_at (contacts_from n 0 xs ys ps)) (take k cs)
  rows_same zero cs a = refl
  rows_same (suc k) [] a = refl
  rows_same (suc k) (c ∷ cs) a = ap₂ (λ (r : List ℤ) (l : List (List ℤ)). r ∷ l) (row_same c a.0) (rows_same k cs a.1)

pub frame_same : (t : List Slot) (p : Packets) (n : ℕ) → p.count ≤ most
    → let cs = contact_numbers (table_of t) (contacts_in p) in flat (map (row_at (places p)) (take n cs)) ≡ flat (map (row_at (contacts_in p)) (take n cs))
frame_same t p n h = ap flat (rows_same p.count h p.x p.y p.pressure n (contact_numbers (table_of t) (contacts_in p)) (numbers-told t p))
