-- An answer that counts at most five contacts holds all of them: what `values_ok` judges is what the frame tells. Cited by the callers. Assumes nothing.
use mathlib.Core.Path.{◌≡◌, refl, ap, ap₂, ◌∙◌}
use mathlib.Core.Bool.{true, false, cond}
use mathlib.Core.List.{List, [], ◌∷◌, ◌++◌, map}
use Prim.Native.Nat.{ℕ, zero, suc, ◌+◌, ◌≤◌}
use native.Mathlib.Omega.{arith}
use lib.IntN.{ℤ, pos}
use lib.ListN.{length, get_or, set, length-set, length-map}
use Rattle.model.specs.Events.{Event}
use Rattle.model.specs.Packets.{Said, number, close, report, loss, told, Packet, Contact, blank, is_blank, contact_of, closed, heard, packets_of}
use Rattle.packets.specs.Seen.{most, padded, column, packets_from, contact_at, contacts_from}

-- ---- a packet has three numbers

abbrev AllThree : List Packet → Type 0
AllThree [] = Unit {0}
AllThree (p ∷ l) = (length p ≡ 3) × AllThree l

closed_three : (l : List Said) (p : Packet) → length p ≡ 3 → AllThree (closed p l)
closed_three [] p e = tt
closed_three (number i v ∷ l) p e = closed_three l (set p i (told v)) (length-set p i (told v) ∙ e)
closed_three (close ∷ l) p e =
    elim (is_blank p) as (λ b. AllThree (cond b [] (p ∷ []) ++ closed blank l))
    [ true ↦ closed_three l blank refl | false ↦ (e, closed_three l blank refl) ]
closed_three (report ∷ l) p e = closed_three l p e
closed_three (loss ∷ l) p e = closed_three l p e

contact_three : (p : Packet) → length p ≡ 3
    → get_or (contact_of p) 0 (pos 0) ∷ get_or (contact_of p) 1 (pos 0) ∷ get_or (contact_of p) 2 (pos 0) ∷ [] ≡ contact_of p
contact_three [] e = absurd (omega arith)
contact_three (a ∷ []) e = absurd (omega arith)
contact_three (a ∷ b ∷ []) e = absurd (omega arith)
contact_three (a ∷ b ∷ c ∷ []) e = refl
contact_three (a ∷ b ∷ c ∷ d ∷ p) e = absurd (omega arith)

-- ---- the contacts of three columns

shifted : (n i : ℕ) (x y p : ℤ) (xs ys ps : List ℤ) → contacts_from n (suc i) (x ∷ xs) (y ∷ ys) (p ∷ ps) ≡ contacts_from n i xs ys ps
shifted zero i x y p xs ys ps = refl
shifted (suc n) i x y p xs ys ps =
    let z : suc i + 1 ≡ suc (i + 1) = omega arith in
    ap (λ l. contact_at i xs ys ps ∷ l) (ap (λ j. contacts_from n j (x ∷ xs) (y ∷ ys) (p ∷ ps)) z ∙ shifted n (i + 1) x y p xs ys ps)

held_all : (l : List Packet) (k : ℕ) → AllThree l → length l ≤ k
    → let cs = map contact_of l in contacts_from (length l) 0 (padded k (column 0 cs)) (padded k (column 1 cs)) (padded k (column 2 cs)) ≡ cs
held_all [] k t h = refl
held_all (p ∷ l) zero t h = absurd (omega arith)
held_all (p ∷ l) (suc k) t h =
    ap₂ (λ (c : Contact) (cs : List Contact). c ∷ cs) (contact_three p t.0)
    (shifted (length l) 0 _ _ _ (padded k (column 0 (map contact_of l))) (padded k (column 1 (map contact_of l))) (padded k (column 2 (map contact_of l)))
    ∙ held_all l k t.1 (omega arith))

pub contacts_back : (es : List Event) → length (packets_of es).contacts ≤ most
    → let q = packets_from (packets_of es) in contacts_from q.count 0 q.x q.y q.pressure ≡ (packets_of es).contacts
unfolding packets_of
contacts_back es h =
    let c = closed blank (heard es) in
    let n = length-map c contact_of in
    ap (λ m. contacts_from m 0 (padded most (column 0 (map contact_of c))) (padded most (column 1 (map contact_of c))) (padded most (column 2 (map contact_of c)))) n
    ∙ held_all c most (closed_three (heard es) blank refl) (omega (arith, h, n))
