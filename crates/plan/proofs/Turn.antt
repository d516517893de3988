-- One turn of the plan: what a slot becomes, and the table and counter that are left to make.
-- Cited by the proofs here; `good-plain` by the writer. Assumes nothing.
use mathlib.Core.Path.{◌≡◌, refl, sym, ap, ap₂, ◌∙◌}
use mathlib.Core.Bool.{Bool, true, false, not, cond, ◌&&◌, ◌||◌}
use mathlib.Core.List.{List, [], ◌∷◌, ◌++◌, append_assoc, map-append}
use Prim.Native.Nat.{ℕ, ◌+◌, ◌-◌, ◌*◌, ◌<◌, ◌≤◌}
use native.Mathlib.Numerals.{add-one}
use native.Mathlib.Omega.{arith}
use lib.Dec.{eqb, leb, leb→le}
use lib.IntN.{ℤ, pos, negsuc}
use lib.ListN.{length, take, drop, get_or, set, take-append-drop}
use lib.Seq.{take-suc-set, drop-set-lt}
use lib.Signed.{le_z}
use borrow.Author.Tests.{ne_eqb}
use Rattle.model.specs.Panel.{Axis, base, axis_fields, per_slot}
use Rattle.model.specs.Numbers.{eq_z, between_z}
use Rattle.model.specs.Table.{Table, numbers_of, live}
use Rattle.model.specs.Records.{bits_of}
use Rattle.model.specs.Frame.{numbers_from, rows_from, kind_of, good_contact, good_row, good_rows, Fate, none, goes_on, begins, fate}
use Rattle.model.specs.Frame.{free_id, slot_after, taken_after, counter_after, Planned, after, planned}
use Rattle.model.proofs.Bools.{holds, and_left, and_right}
use Rattle.model.proofs.Rows.{rows_next, rows_none}
use Rattle.model.proofs.Tries.{Same, planned-same}
use Rattle.panel.specs.declared.Slot as S
use Rattle.panel.specs.declared.Setup.{Setup}
use Rattle.panel.specs.Seen.{slot_of, table_of, setup_of, axes_of, blank}
use Rattle.panel.proofs.Tables.{rest-is}
use Rattle.plan.specs.Row.{begun, contact_of, stayed, unsigned, plain_row}
use Rattle.plan.specs.Walk.{plan_from}

-- ---- a row's numbers

own_bits : (v : ℤ) (b : Bool) → (le_z (pos 0) v && b) ≡ true → pos (bits_of v) ≡ v
unfolding bits_of
own_bits (pos n) b e = refl
own_bits (negsuc n) b e = let z : ◌≡◌ {A = ℕ} 0 1 = cc in absurd (omega arith)

-- Five numbers that are not negative are held as they are.
own-numbers : (i k x y p major minor : ℤ) → (let vs = x ∷ y ∷ p ∷ major ∷ minor ∷ [] in unsigned vs ≡ true → slot_of (contact_of i (k ∷ vs)) ≡ i ∷ vs)
own-numbers i k x y p major minor e =
    let ey = and_right (le_z (pos 0) x) _ e in
    let ep = and_right (le_z (pos 0) y) _ ey in
    let ea = and_right (le_z (pos 0) p) _ ep in
    let ei = and_right (le_z (pos 0) major) _ ea in
    rw (own_bits x _ e, own_bits y _ ey, own_bits p _ ep, own_bits major _ ea, own_bits minor _ ei)

-- A contact's numbers are not negative, whatever the axes.
contact-unsigned : (axes : List Axis) (largest : List ℕ) (vs : List ℤ) → good_contact (axis_fields axes largest) vs ≡ true → unsigned vs ≡ true
contact-unsigned axes largest [] g = refl
contact-unsigned [] largest (v ∷ vs) g = let z : ◌≡◌ {A = ℕ} 0 1 = cc in absurd (omega arith)
contact-unsigned (a ∷ axes) [] (v ∷ vs) g = let z : ◌≡◌ {A = ℕ} 0 1 = cc in absurd (omega arith)
contact-unsigned (a ∷ axes) (m ∷ largest) (v ∷ vs) g =
    let range = between_z (pos 0) (pos m) v in
    let here = range && le_z (pos a.least) v in
    let more = good_contact (axis_fields axes largest) vs in
    let e = and_left (le_z (pos 0) v) (le_z v (pos m)) (and_left range _ (and_left here more g)) in
    ap₂ (λ c d. c && d) e (contact-unsigned axes largest vs (and_right here more g))

row_plain : (axes : List Axis) (largest : List ℕ) (g : List ℤ) → good_row (axis_fields axes largest) g ≡ true → plain_row g ≡ true
row_plain axes largest g e =
    let known = eq_z (kind_of g) (pos 1) || eq_z (kind_of g) (pos 2) in
    let vs = numbers_of g in
    (elim (eq_z (kind_of g) (pos 0)) as (λ b. (b || (known && good_contact (axis_fields axes largest) vs)) ≡ true → (b || unsigned vs) ≡ true) [
      | true ↦ λ h. refl
      | false ↦ λ h. contact-unsigned axes largest vs (and_right known _ h)
    ]) e

-- A row that is good for a setup is plain.
pub good-plain : (u : Setup) (g : List ℤ) → good_row (axes_of u) g ≡ true → plain_row g ≡ true
good-plain u g e = row_plain base.axes (setup_of u).largest g e

-- ---- a slot by its fate

is-begun : (f : Fate) → begun f ≡ true → f ≡ begins
is-begun none e = let z : ◌≡◌ {A = ℕ} 0 1 = cc in absurd (omega arith)
is-begun goes_on e = let z : ◌≡◌ {A = ℕ} 0 1 = cc in absurd (omega arith)
is-begun begins e = refl

abbrev fate_by : Bool → Bool → Bool → Fate
fate_by k0 k2 lives = cond k0 none (cond k2 begins (cond lives goes_on begins))

module _ (was : S.Slot) (f : List ℤ) (at : ℕ) (j : ℕ) where
  abbrev lent : List ℤ
  lent = numbers_from per_slot f at

  held : (i : ℤ) → unsigned (numbers_of lent) ≡ true → slot_of (contact_of i lent) ≡ i ∷ numbers_of lent
  held i e =
      let v : ℕ → ℤ = λ n. get_or f n (pos 0) in
      own-numbers i (v at) (v (at + 1)) (v (at + 1 + 1)) (v (at + 1 + 1 + 1)) (v (at + 1 + 1 + 1 + 1)) (v (at + 1 + 1 + 1 + 1 + 1)) e

  begun_by : (k0 k2 lives : Bool) → begun (fate_by k0 k2 lives) ≡ true → (k0 || unsigned (numbers_of lent)) ≡ true
      → slot_of (contact_of (pos j) lent) ≡ slot_after (fate_by k0 k2 lives) j (slot_of was) (numbers_of lent)
  begun_by true k2 lives e g = let z : ◌≡◌ {A = ℕ} 0 1 = cc in absurd (omega arith)
  begun_by false true lives e g = held (pos j) g
  begun_by false false true e g = let z : ◌≡◌ {A = ℕ} 0 1 = cc in absurd (omega arith)
  begun_by false false false e g = held (pos j) g

  stayed_by : (k0 k2 lives : Bool) → begun (fate_by k0 k2 lives) ≡ false → (k0 || unsigned (numbers_of lent)) ≡ true
      → slot_of (stayed k0 was lent) ≡ slot_after (fate_by k0 k2 lives) j (slot_of was) (numbers_of lent)
  stayed_by true k2 lives e g = refl
  stayed_by false true lives e g = let z : ◌≡◌ {A = ℕ} 0 1 = cc in absurd (omega arith)
  stayed_by false false true e g = held was.id.0 g
  stayed_by false false false e g = let z : ◌≡◌ {A = ℕ} 0 1 = cc in absurd (omega arith)

  -- A slot in which a contact begins has the given id and the row's numbers.
  pub begun-slot : begun (fate (kind_of lent) was.id.0) ≡ true → plain_row lent ≡ true
      → slot_of (contact_of (pos j) lent) ≡ slot_after (fate (kind_of lent) was.id.0) j (slot_of was) (numbers_of lent)
  begun-slot e g = begun_by (eq_z (kind_of lent) (pos 0)) (eq_z (kind_of lent) (pos 2)) (live was.id.0) e g

  -- In any other the id stays, or the contact is lifted.
  pub stayed-slot : begun (fate (kind_of lent) was.id.0) ≡ false → plain_row lent ≡ true
      → slot_of (stayed (eq_z (kind_of lent) (pos 0)) was lent) ≡ slot_after (fate (kind_of lent) was.id.0) j (slot_of was) (numbers_of lent)
  stayed-slot e g = stayed_by (eq_z (kind_of lent) (pos 0)) (eq_z (kind_of lent) (pos 2)) (live was.id.0) e g

-- ---- a contact that goes on

-- A good row of a kind that is not 0 gives a contact.
contact-of : (u : Setup) (g : List ℤ) → eq_z (kind_of g) (pos 0) ≡ false → good_row (axes_of u) g ≡ true → ((eq_z (kind_of g) (pos 1) || eq_z (kind_of g) (pos 2)) && good_contact (axes_of u) (numbers_of g)) ≡ true
contact-of u g e good = sym (ap (λ b. b || ((eq_z (kind_of g) (pos 1) || eq_z (kind_of g) (pos 2)) && good_contact (axes_of u) (numbers_of g))) e) ∙ good

-- And so a pressure: a slot that holds the row's numbers holds one.
pub gives-pressure : (u : Setup) (was : S.Slot) (f : List ℤ) (at : ℕ) → (let g = numbers_from per_slot f at in
    eq_z (kind_of g) (pos 0) ≡ false → good_row (axes_of u) g ≡ true → slot_of was ≡ slot_of (contact_of was.id.0 g) → not (eqb was.pressure 0) ≡ true)
gives-pressure u was f at e good same =
    let g = numbers_from per_slot f at in
    let contact = and_right (eq_z (kind_of g) (pos 1) || eq_z (kind_of g) (pos 2)) _ (contact-of u g e good) in
    let own = ap numbers_of (same ∙ held was f at 0 was.id.0 (contact-unsigned base.axes (setup_of u).largest (numbers_of g) contact)) in
    let here = ap (good_contact (axes_of u)) own ∙ contact in
    let rest = and_right (between_z (pos 0) (pos u.y) (pos was.y) && leb 0 was.y) _ (and_right (between_z (pos 0) (pos u.x) (pos was.x) && leb 0 was.x) _ here) in
    let pressure = and_left (between_z (pos 0) (pos u.pressure) (pos was.pressure) && leb 1 was.pressure) _ rest in
    let some = leb→le 1 was.pressure (holds _ (and_right (between_z (pos 0) (pos u.pressure) (pos was.pressure)) _ pressure)) in
    ap not (ne_eqb was.pressure 0 (λ z. omega (arith, some, z)))

pub begun-taken : (f : Fate) (j : ℕ) (l : List ℤ) → begun f ≡ true → taken_after f j l ≡ pos j ∷ l
begun-taken f j l e = ap (λ g. taken_after g j l) (is-begun f e)

pub begun-counter : (f : Fate) (j k : ℕ) → begun f ≡ true → counter_after f j k ≡ counter_after begins j k
begun-counter f j k e = ap (λ g. counter_after g j k) (is-begun f e)

pub stayed-taken : (f : Fate) (j : ℕ) (l : List ℤ) → begun f ≡ false → taken_after f j l ≡ l
stayed-taken none j l e = refl
stayed-taken goes_on j l e = refl
stayed-taken begins j l e = let z : ◌≡◌ {A = ℕ} 0 1 = cc in absurd (omega arith)

pub stayed-counter : (f : Fate) (j k : ℕ) → begun f ≡ false → counter_after f j k ≡ k
stayed-counter none j k e = refl
stayed-counter goes_on j k e = refl
stayed-counter begins j k e = let z : ◌≡◌ {A = ℕ} 0 1 = cc in absurd (omega arith)

after-after : (a b : Table) (p : Planned) → after a (after b p) ≡ after (a ++ b) p
after-after a b p = ap (λ t. record { table = t; counter = p.counter }) (sym (append_assoc a b p.table))

-- ---- slot s of the table t is made w, by the row g; `taken` and k are the ids taken and the counter before it, and more and n after it

module _ (taken : List ℤ) (k : ℕ) (t : List S.Slot) (s : ℕ) (h : s < length t) (g : List ℤ) (fr : List (List ℤ)) (w : S.Slot) (more : List ℤ) (n : ℕ) where
  abbrev becomes : Fate
  becomes = fate (kind_of g) (get_or t s blank).id.0

  abbrev given : ℕ
  given = free_id taken k

  made-is : table_of (take (s + 1) (set t s w)) ≡ table_of (take s t) ++ slot_of w ∷ []
  made-is =
      let e : take (s + 1) (set t s w) ≡ take s t ++ w ∷ [] = rw add-one (take-suc-set t s w h) in
      ap table_of e ∙ map-append slot_of (take s t) (w ∷ [])

  kept-is : drop (s + 1) (set t s w) ≡ drop (s + 1) t
  kept-is = drop-set-lt (s + 1) t s w (omega arith)

  -- What is planned from slot s on is that slot, and what is planned after it.
  plan-turn : slot_of w ≡ slot_after becomes given (slot_of (get_or t s blank)) (numbers_of g)
      → Same (taken_after becomes given taken) more → counter_after becomes given k ≡ n
      → after (table_of (take s t)) (planned taken k (g ∷ fr) (table_of (drop s t)))
      ≡ after (table_of (take (s + 1) (set t s w))) (planned more n fr (table_of (drop (s + 1) (set t s w))))
  plan-turn e q r =
      let front = table_of (take s t) in
      let d = table_of (drop (s + 1) t) in
      ap (λ l. after front (planned taken k (g ∷ fr) l)) (rest-is t s h)
      ∙ ap₂ (λ a p. after front (after (a ∷ []) p)) (sym e)
      (planned-same (taken_after becomes given taken) more (counter_after becomes given k) fr d q ∙ ap (λ m. planned more m fr d) r)
      ∙ after-after front (slot_of w ∷ []) (planned more n fr d)
      ∙ ap₂ (λ a b. after a (planned more n fr (table_of b))) (sym made-is) (sym kept-is)

-- ---- the row of slot s, and what is left to plan after it

module _ (frame : List ℤ) (s : ℕ) where
  abbrev pub row : List ℤ
  row = numbers_from per_slot frame (per_slot * s)

  abbrev pub kind : ℤ
  kind = kind_of row

  module _ (n : ℕ) (l : s < n) where
    abbrev pub rest : List (List ℤ)
    rest = rows_from per_slot (n - (s + 1)) frame (per_slot * (s + 1))

    rows_are : rows_from per_slot (n - s) frame (per_slot * s) ≡ row ∷ rest
    rows_are = rows_next per_slot n s frame l

    -- All from s on are good where the row of slot s is, and those after it.
    pub good_turn : (u : Setup) → good_rows (axes_of u) (rows_from per_slot (n - s) frame (per_slot * s)) ≡ (good_row (axes_of u) row && good_rows (axes_of u) rest)
    good_turn u = ap (good_rows (axes_of u)) rows_are

    -- Once slot s is w, the ids taken are `more` and the counter is m.
    pub row_turn : (taken : List ℤ) (k : ℕ) (t : List S.Slot) (h : s < length t) (w : S.Slot) (more : List ℤ) (m : ℕ)
        → (let f = fate kind (get_or t s blank).id.0 in let j = free_id taken k in
        slot_of w ≡ slot_after f j (slot_of (get_or t s blank)) (numbers_of row)
        → Same (taken_after f j taken) more → counter_after f j k ≡ m
        → plan_from taken k n frame t s ≡ plan_from more m n frame (set t s w) (s + 1))
    row_turn taken k t h w more m e same count =
        ap (λ r. after (table_of (take s t)) (planned taken k r (table_of (drop s t)))) rows_are
        ∙ plan-turn taken k t s h row rest w more m e same count

    -- The same where nothing begins: the ids taken and the counter stay.
    pub steady_turn : (taken : List ℤ) (k : ℕ) (t : List S.Slot) (h : s < length t) (w : S.Slot)
        → (let f = fate kind (get_or t s blank).id.0 in let j = free_id taken k in
        slot_of w ≡ slot_after f j (slot_of (get_or t s blank)) (numbers_of row) → begun f ≡ false
        → plan_from taken k n frame t s ≡ plan_from taken k n frame (set t s w) (s + 1))
    steady_turn taken k t h w e z =
        let f = fate kind (get_or t s blank).id.0 in
        let j = free_id taken k in
        let same : Same (taken_after f j taken) taken = rw (stayed-taken f j taken z) (λ i. refl) in
        row_turn taken k t h w taken k e same (stayed-counter f j k z)

-- Where no row is left, the table is made.
pub no_row : (taken : List ℤ) (k n : ℕ) (frame : List ℤ) (t : List S.Slot) (s : ℕ) → n ≤ s
    → plan_from taken k n frame t s ≡ record { table = table_of t; counter = k }
no_row taken k n frame t s h =
    let z : n - s ≡ 0 = omega arith in
    let front = table_of (take s t) in
    let none : rows_from per_slot (n - s) frame (per_slot * s) ≡ [] = ap (λ m. rows_from per_slot m frame (per_slot * s)) z ∙ rows_none per_slot frame (per_slot * s) in
    let all = sym (map-append slot_of (take s t) (drop s t)) ∙ ap table_of (take-append-drop s t) in
    ap (λ r. after front (planned taken k r (table_of (drop s t)))) none ∙ ap (λ x. record { table = x; counter = k }) all
