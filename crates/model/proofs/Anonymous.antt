-- What an anonymous frame makes (K12): the frame handed to the writer is one that it takes, so 3 is never answered and 4 only for a contact's values; each refusal exactly as document 02 orders them. Cited by the crates anonymous and link. Assumes nothing.
use mathlib.Core.Path.{◌≡◌, refl, sym, ap, ap₂, subst, ◌∙◌}
use mathlib.Core.Bool.{Bool, true, false, cond}
use mathlib.Core.List.{List, [], ◌∷◌, ◌++◌, map, append_assoc}
use Prim.Native.Nat.{ℕ, zero, suc, ◌+◌, ◌*◌, ◌<◌, ◌≤◌}
use native.Mathlib.Omega.{arith}
use native.Mathlib.Nat.{mul-zero, mul-suc}
use lib.Dec.{T, eqb, eqb_refl}
use lib.IntN.{ℤ, pos}
use lib.ListN.{length, get_or, take, set, length-map, length-set, length-append}
use lib.Seq.{length-take-le}
use Rattle.model.specs.Numbers.{between}
use Rattle.model.specs.Panel.{Panel, Setup, base, setup_good, panel_of}
use Rattle.model.specs.Table.{Table, id_of, live}
use Rattle.model.specs.Events.{Event}
use Rattle.model.specs.Frame.{numbers_from, rows_from, rows_of, sized, good_row, good_rows, axes_of, values_good}
use Rattle.model.specs.Shift.{flat}
use Rattle.model.specs.Pairing.{alone, best_pairing}
use Rattle.model.specs.Packets.{Said, number, close, report, loss, told, Packet, blank, is_blank, closed, heard, Contact, contact_of, value_of, contact_row, contact_good, contacts_good, packets_of}
use Rattle.model.specs.Anonymous.{contact_point, live_in, old_points, contact_numbers, empty_row, row_at, frame_of}
use Rattle.model.proofs.Bools.{is_true, and_left, and_right, both_right}
use Rattle.model.proofs.Images.{behind}
use Rattle.model.proofs.Layouts.{fields-length}
use Rattle.model.proofs.PairingBest.{and_both}
use Rattle.model.proofs.PairingPlaced.{placed-length}
use Rattle.model.proofs.Placing.{Number, nobody, contact, Told, told-best, told-placed, told-take}

-- ---- the numbers of contacts

-- Each record's number is that of a contact of the frame, or of none.
pub numbers_are : (t : Table) (cs : List Contact) → Told (length cs) (contact_numbers t cs)
numbers_are t cs =
    let ns = map contact_point cs in
    let best = best_pairing ns (old_points t) in
    told-placed (live_in t) best (length cs) (subst (λ n. Told n best) (length-map cs contact_point) (told-best ns (old_points t)))

-- ---- rows of one length

abbrev pub AllLong : {A : Type 0} → ℕ → List (List A) → Type 0
AllLong k [] = Unit {0}
AllLong k (r ∷ rows) = (length r ≡ k) × AllLong k rows

rows_flat : (k : ℕ) (front : List ℤ) (rows : List (List ℤ)) → AllLong k rows → rows_from k (length rows) (front ++ flat rows) (length front) ≡ rows
unfolding rows_from
rows_flat k front [] a = refl
rows_flat k front (r ∷ rows) a =
    let next : length front + k ≡ length (front ++ r) = omega (arith, length-append front r, a.0) in
    ap₂ {C = List (List ℤ)} (λ x l. x ∷ l)
    (ap (λ j. numbers_from j (front ++ (r ++ flat rows)) (length front)) (sym a.0) ∙ behind front r (flat rows))
    (ap₂ (rows_from k (length rows)) (sym (append_assoc front r (flat rows))) next ∙ rows_flat k (front ++ r) rows a.1)

flat_long : (k : ℕ) (rows : List (List ℤ)) → AllLong k rows → length (flat rows) ≡ k * length rows
flat_long k [] a = omega (arith, mul-zero k)
flat_long k (r ∷ rows) a = length-append r (flat rows) ∙ omega (arith, a.0, flat_long k rows a.1, mul-suc k (length rows))

-- ---- a contact has three numbers

closed_long : (p : Packet) (l : List Said) → length p ≡ 3 → AllLong 3 (closed p l)
closed_long p [] h = tt
closed_long p (number i v ∷ l) h = closed_long (set p i (told v)) l (length-set p i (told v) ∙ h)
closed_long p (close ∷ l) h = by (is_blank p) (closed_long blank l refl)
  where
    by : (t : Bool) → AllLong 3 (closed blank l) → AllLong 3 (cond t [] (p ∷ []) ++ closed blank l)
    by true a = a
    by false a = (h, a)
closed_long p (report ∷ l) h = closed_long p l h
closed_long p (loss ∷ l) h = closed_long p l h

values_long : (ps : List Packet) → AllLong 3 ps → AllLong 3 (map contact_of ps)
values_long [] a = tt
values_long (p ∷ ps) a = (length-map p value_of ∙ a.0, values_long ps a.1)

pub contacts_long : (es : List Event) → AllLong 3 (packets_of es).contacts
unfolding packets_of
contacts_long es = values_long (closed blank (heard es)) (closed_long blank (heard es) refl)

-- ---- the made frame

module _ (cs : List Contact) where
  at_long : (l : List Contact) → AllLong 3 l → (c : ℕ) → c < length l → length (get_or l c []) ≡ 3
  at_long [] a c h = absurd (omega arith)
  at_long (x ∷ l) a zero h = a.0
  at_long (x ∷ l) a (suc c) h = at_long l a.1 c (omega arith)

  row_long : AllLong 3 cs → (c : ℕ) → Number (length cs) c → length (row_at cs c) ≡ 6
  row_long a c (nobody e) = ap (λ d. length (row_at cs d)) e
  row_long a c (contact h) = by (eqb c alone)
    where
      by : (t : Bool) → length (cond t empty_row (contact_row (get_or cs c []))) ≡ 6
      by true = refl
      by false = ap suc (length-append (get_or cs c []) (pos 0 ∷ pos 0 ∷ []) ∙ ap (λ m. m + 2) (at_long cs a c h))

  rows_long : AllLong 3 cs → (ns : List ℕ) → Told (length cs) ns → AllLong 6 (map (row_at cs) ns)
  rows_long a [] n = tt
  rows_long a (c ∷ ns) n = (row_long a c n.0, rows_long a ns n.1)

  -- ---- its values

  at-good : (p : Panel) (l : List Contact) → contacts_good p l ≡ true → (c : ℕ) → c < length l → contact_good p (get_or l c []) ≡ true
  at-good p [] g c h = absurd (omega arith)
  at-good p (x ∷ l) g zero h = and_left (contact_good p x) _ g
  at-good p (x ∷ l) g (suc c) h = at-good p l (and_right (contact_good p x) _ g) c (omega arith)

  row_good : (p : Panel) → contacts_good p cs ≡ true → (c : ℕ) → Number (length cs) c → good_row (axes_of p.fields) (row_at cs c) ≡ true
  row_good p g c (nobody e) = ap (λ d. good_row (axes_of p.fields) (row_at cs d)) e
  row_good p g c (contact h) = by (eqb c alone)
    where
      by : (t : Bool) → good_row (axes_of p.fields) (cond t empty_row (contact_row (get_or cs c []))) ≡ true
      by true = refl
      by false = at-good p cs g c h

  rows_good : (p : Panel) → contacts_good p cs ≡ true → (ns : List ℕ) → Told (length cs) ns → good_rows (axes_of p.fields) (map (row_at cs) ns) ≡ true
  rows_good p g [] n = refl
  rows_good p g (c ∷ ns) n = and_both (good_row (axes_of p.fields) (row_at cs c)) _ (row_good p g c n.0) (rows_good p g ns n.1)

  -- ---- of a panel

  module _ (u : Setup) (t : Table) (setup : T (setup_good base u)) (long : AllLong 3 cs) (size : u.slots ≤ length t) where
    abbrev p : Panel
    p = panel_of base u

    abbrev numbers : List ℕ
    numbers = take u.slots (contact_numbers t cs)

    six : length p.fields ≡ 6
    six = ap suc (fields-length base.axes u.largest (both_right (between 1 base.records u.slots) _ setup))

    made_long : AllLong 6 (map (row_at cs) numbers)
    made_long = rows_long long numbers (told-take (length cs) u.slots (contact_numbers t cs) (numbers_are t cs))

    pub made_many : length (map (row_at cs) numbers) ≡ u.slots
    made_many =
        let all = placed-length (live_in t) (best_pairing (map contact_point cs) (old_points t)) (length cs) in
        let live = length-map t (λ s. live (id_of s)) in
        length-map numbers (row_at cs) ∙ length-take-le u.slots (contact_numbers t cs) (omega (arith, all, live))

    -- The rows that the writer reads are the contacts' rows, by slot.
    pub made_rows : rows_of p (frame_of p t cs) ≡ map (row_at cs) numbers
    unfolding frame_of six made_long made_many
    made_rows =
        let rows = map (row_at cs) numbers in
        ap₂ (λ k n. rows_from k n (flat rows) 0) six (sym made_many) ∙ rows_flat 6 [] rows made_long

    -- It has as many numbers as the panel's rows, so 3 is never answered.
    pub made-sized : sized p (frame_of p t cs) ≡ true
    unfolding frame_of six made_long made_many
    made-sized =
        let rows = map (row_at cs) numbers in
        let is : length (flat rows) ≡ length p.fields * u.slots = flat_long 6 rows made_long ∙ ap₂ (λ k n. k * n) (sym six) made_many in
        ap (λ n. eqb n (length p.fields * u.slots)) is ∙ is_true _ (eqb_refl (length p.fields * u.slots))

    -- Its values are good where the contacts' are.
    pub made-values : contacts_good p cs ≡ true → values_good p (frame_of p t cs) ≡ true
    unfolding made_rows
    made-values g =
        ap (good_rows (axes_of p.fields)) made_rows ∙ rows_good p g numbers (told-take (length cs) u.slots (contact_numbers t cs) (numbers_are t cs))
