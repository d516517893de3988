-- What the loop of `frame_of` knows after s rows: its start, a turn, its end. Cited by the proof of `frame_of`. Assumes nothing.
use mathlib.Core.Path.{◌≡◌, refl, sym, ap, ◌∙◌, subst}
use mathlib.Core.Bool.{cond}
use mathlib.Core.List.{List, [], ◌∷◌, ◌++◌, map, append_assoc, append-nil}
use Prim.Native.Nat.{ℕ, zero, suc, ◌+◌, ◌-◌, ◌*◌, ◌<◌, ◌≤◌}
use native.Mathlib.Omega.{arith}
use native.Mathlib.Numerals.{add-one}
use lib.IntN.{ℤ, pos}
use lib.ListN.{length, get_or, take, set, replicate, length-append, length-replicate}
use lib.Seq.{take-suc, set_at}
use borrow.Author.Tests.{ne_eqb}
use Rattle.model.specs.Panel.{per_slot, records}
use Rattle.model.specs.Shift.{flat}
use Rattle.model.specs.Pairing.{alone}
use Rattle.model.specs.Packets.{Contact, contact_row}
use Rattle.model.specs.Anonymous.{empty_row, row_at}
use Rattle.packets.specs.Seen.{most, contact_at, contacts_from}

-- ---- the contact of a place

pub contact-at : (n i c : ℕ) (xs ys ps : List ℤ) → c < n → get_or (contacts_from n i xs ys ps) c [] ≡ contact_at (i + c) xs ys ps
contact-at zero i c xs ys ps h = absurd (omega arith)
contact-at (suc n) i zero xs ys ps h = let z : i + 0 ≡ i = omega arith in rw z
contact-at (suc n) i (suc c) xs ys ps h =
    let z : i + suc c ≡ (i + 1) + c = omega arith in
    rw z (contact-at n (i + 1) c xs ys ps (omega arith))

-- The numbers of a contact's row.
abbrev pub row_of : ℤ → ℤ → ℤ → List ℤ
row_of x y p = pos 1 ∷ x ∷ y ∷ p ∷ pos 0 ∷ pos 0 ∷ []

row-of : (c : ℕ) (xs ys ps : List ℤ) → c < most → row_at (contacts_from most 0 xs ys ps) c ≡ row_of (get_or xs c (pos 0)) (get_or ys c (pos 0)) (get_or ps c (pos 0))
row-of c xs ys ps h =
    let z : 0 + c ≡ c = omega arith in
    ap (λ b. cond b empty_row (contact_row (get_or (contacts_from most 0 xs ys ps) c []))) (ne_eqb c alone (λ e. omega arith))
    ∙ ap contact_row (contact-at most 0 c xs ys ps h ∙ ap (λ i. contact_at i xs ys ps) z)

row_none : (cs : List Contact) (c : ℕ) → c ≡ alone → row_at cs c ≡ empty_row
row_none cs c e = ap (row_at cs) e

-- ---- rows one after the other

rows_last : (cs : List Contact) (l : List ℕ) (c : ℕ) → flat (map (row_at cs) (l ++ (c ∷ []))) ≡ flat (map (row_at cs) l) ++ row_at cs c
rows_last cs [] c = append-nil (row_at cs c)
rows_last cs (d ∷ l) c = ap (λ r. row_at cs d ++ r) (rows_last cs l c) ∙ sym (append_assoc (row_at cs d) (flat (map (row_at cs) l)) (row_at cs c))

-- ---- stores behind a front

set-behind : (p q : List ℤ) (i : ℕ) (a : ℤ) → set (p ++ q) (length p + i) a ≡ p ++ set q i a
set-behind [] q i a = let z : 0 + i ≡ i = omega arith in rw z
set-behind (v ∷ p) q i a = let z : suc (length p) + i ≡ suc (length p + i) = omega arith in rw z (ap (λ r. v ∷ r) (set-behind p q i a))

set_after : (p q : List ℤ) (n i : ℕ) (a : ℤ) → length p ≡ n → set (p ++ q) (n + i) a ≡ p ++ set q i a
set_after p q n i a e = subst (λ m. set (p ++ q) (m + i) a ≡ p ++ set q i a) e (set-behind p q i a)

-- Zeros of one row.
abbrev clear : List ℤ → List ℤ
clear l = pos 0 ∷ pos 0 ∷ pos 0 ∷ pos 0 ∷ pos 0 ∷ pos 0 ∷ l

four-set : (p l : List ℤ) (n : ℕ) (a x y z : ℤ) → length p ≡ n
    → set (set (set (set (p ++ clear l) n a) (n + 1) x) (n + 2) y) (n + 3) z ≡ p ++ (a ∷ x ∷ y ∷ z ∷ pos 0 ∷ pos 0 ∷ l)
four-set p l n a x y z e =
    let r = pos 0 ∷ pos 0 ∷ l in
    ap (λ f. set (set (set f (n + 1) x) (n + 2) y) (n + 3) z) (set_at p (pos 0) (pos 0 ∷ pos 0 ∷ pos 0 ∷ r) a n e)
    ∙ ap (λ f. set (set f (n + 2) y) (n + 3) z) (set_after p (a ∷ pos 0 ∷ pos 0 ∷ pos 0 ∷ r) n 1 x e)
    ∙ ap (λ f. set f (n + 3) z) (set_after p (a ∷ x ∷ pos 0 ∷ pos 0 ∷ r) n 2 y e)
    ∙ set_after p (a ∷ x ∷ y ∷ pos 0 ∷ r) n 3 z e

-- ---- after s rows

abbrev front : List Contact → List ℕ → ℕ → List ℤ
front cs numbers s = flat (map (row_at cs) (take s numbers))

-- What is not reached yet.
abbrev behind : ℕ → List ℤ
behind s = replicate (per_slot * (records - s)) (pos 0)

pub record Framed (cs : List Contact) (numbers : List ℕ) (f : List ℤ) (n s : ℕ) : Type 0 where
  pub inside : s ≤ n
  pub full : length f ≡ per_slot * records
  pub sized : length (front cs numbers s) ≡ per_slot * s
  pub is : f ≡ front cs numbers s ++ behind s

pub frames : (cs : List Contact) (numbers : List ℕ) (n : ℕ) → Framed cs numbers (replicate (per_slot * records) (pos 0)) n 0
frames cs numbers n = record { inside = omega arith; full = refl; sized = refl; is = refl }

-- ---- a turn

behind-is : (s : ℕ) → s < records → behind s ≡ clear (behind (s + 1))
behind-is s h = let z : per_slot * (records - s) ≡ suc (suc (suc (suc (suc (suc (per_slot * (records - (s + 1)))))))) = omega arith in ap (λ k. replicate k (pos 0)) z

module _ {cs : List Contact} {numbers : List ℕ} {f : List ℤ} {n s : ℕ} (r : Framed cs numbers f n s) (few : n ≤ records) (whole : length numbers ≡ records) (h : s < n) where
  row_more : (row f' : List ℤ) → length row ≡ per_slot → row_at cs (get_or numbers s 0) ≡ row → f' ≡ front cs numbers s ++ (row ++ behind (s + 1)) → Framed cs numbers f' n (s + 1)
  row_more row f' six e q =
      let on : front cs numbers (s + 1) ≡ front cs numbers s ++ row =
      ap (λ k. front cs numbers k) (add-one s)
      ∙ ap (λ l. flat (map (row_at cs) l)) (take-suc numbers s 0 (omega arith))
      ∙ rows_last cs (take s numbers) (get_or numbers s 0)
      ∙ ap (λ l. front cs numbers s ++ l) e in
      let size : length (front cs numbers (s + 1)) ≡ per_slot * (s + 1) = ap length on ∙ length-append (front cs numbers s) row ∙ omega (arith, r.sized, six) in
      let is : f' ≡ front cs numbers (s + 1) ++ behind (s + 1) =
      q ∙ sym (append_assoc (front cs numbers s) row (behind (s + 1))) ∙ ap (λ l. l ++ behind (s + 1)) (sym on) in
      record {
        inside = omega arith;
        full =
            ap length is
            ∙ length-append (front cs numbers (s + 1)) (behind (s + 1))
            ∙ omega (arith, size, length-replicate (per_slot * (records - (s + 1))) (pos 0));
        sized = size;
        is = is;
      }

  -- No contact is there: the zeros stay.
  pub frames_none : get_or numbers s 0 ≡ alone → Framed cs numbers f n (s + 1)
  frames_none e = row_more empty_row f refl (row_none cs (get_or numbers s 0) e) (r.is ∙ ap (λ l. front cs numbers s ++ l) (behind-is s (omega arith)))

-- A contact's numbers are stored.
pub frames_one : (xs ys ps : List ℤ) {numbers : List ℕ} {f : List ℤ} {n s : ℕ} → Framed (contacts_from most 0 xs ys ps) numbers f n s → n ≤ records → length numbers ≡ records → s < n
    → (x y p : ℤ) → get_or numbers s 0 < most → x ≡ get_or xs (get_or numbers s 0) (pos 0) → y ≡ get_or ys (get_or numbers s 0) (pos 0) → p ≡ get_or ps (get_or numbers s 0) (pos 0)
    → Framed (contacts_from most 0 xs ys ps) numbers (set (set (set (set f (per_slot * s) (pos 1)) (per_slot * s + 1) x) (per_slot * s + 2) y) (per_slot * s + 3) p) n (s + 1)
frames_one xs ys ps {numbers} {f} {n} {s} r few whole h x y p m ex ey ep =
    let c = get_or numbers s 0 in
    let F = front (contacts_from most 0 xs ys ps) numbers s in
    row_more r few whole h (row_of x y p) _ refl
    (row-of c xs ys ps m ∙ rw (ex, ey, ep))
    (ap (λ g. set (set (set (set g (per_slot * s) (pos 1)) (per_slot * s + 1) x) (per_slot * s + 2) y) (per_slot * s + 3) p)
    (r.is ∙ ap (λ l. F ++ l) (behind-is s (omega arith)))
    ∙ four-set F (behind (s + 1)) (per_slot * s) (pos 1) x y p r.sized)

-- ---- the end

pub framed_all : {cs : List Contact} {numbers : List ℕ} {f : List ℤ} {n s : ℕ} → Framed cs numbers f n s → n ≤ s → f ≡ front cs numbers n ++ behind n
framed_all {cs} {numbers} {f} {n} {s} r h =
    let z : s ≡ n = omega (arith, r.inside) in
    r.is ∙ ap (λ k. front cs numbers k ++ behind k) z
