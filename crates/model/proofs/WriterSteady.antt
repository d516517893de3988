-- Steady, the writer's half: a frame's good rows keep a writer well formed. Cited by Calls and the writer's crates. Assumes nothing.
use mathlib.Core.Path.{◌≡◌, refl, ap, ◌∙◌}
use mathlib.Core.Bool.{true, false, cond, ◌&&◌, ◌||◌}
use mathlib.Core.List.{List, [], ◌∷◌}
use Prim.Native.Nat.{ℕ, zero, suc, ◌+◌, ◌≤◌, ◌<◌}
use native.Mathlib.Omega.{arith}
use lib.Dec.{T, ltb, lt→ltb, ltb→lt, le→leb}
use lib.IntN.{ℤ, pos}
use lib.ListN.{length}
use Rattle.model.proofs.Bools.{both, both_left, both_right}
use Rattle.model.proofs.Tables.{good_length, good-records, good-table}
use Rattle.model.proofs.Codes.{sending-good, last-below}
use Rattle.model.proofs.Ids.{fated, free_id-below, counter-below, ids-apart}
use Rattle.model.specs.Numbers.{eq_z}
use Rattle.model.specs.Panel.{Field, Panel, id_field, id_count, last_id}
use Rattle.model.specs.Table.{Slot, Table, id_of, numbers_of, live, ids, ids_differ, fits, good_slot, good_records, good_table}
use Rattle.model.specs.Frame.{taken_after, kind_of, given, good_contact, good_row, good_rows, Fate, none, goes_on, begins, fate, free_id, planned, new_table, new_counter}
use Rattle.model.specs.Sending.{sending, current_after}
use Rattle.model.specs.States.{Writer, good_writer}

-- ---- the writer's state

pub record SteadyWriter (p : Panel) (w : Writer) : Type 0 where
  pub good : T (good_table p w.table)
  pub differs : T (ids_differ w.table)
  pub below : w.current < p.slots
  pub counts : w.counter < id_count

pub writer_facts : (p : Panel) (w : Writer) → T (good_writer p w) → SteadyWriter p w
writer_facts p w g =
    let a = good_table p w.table in
    let b = ids_differ w.table in
    let c = ltb w.current p.slots in
    let x = both_left (a && b && c) _ g in
    let y = both_left (a && b) _ x in
    record {
      good = both_left a _ y;
      differs = both_right a _ y;
      below = ltb→lt w.current p.slots (both_right (a && b) _ x);
      counts = ltb→lt w.counter id_count (both_right (a && b && c) _ g);
    }

pub facts_writer : (p : Panel) (w : Writer) → SteadyWriter p w → T (good_writer p w)
facts_writer p w s =
    let a = good_table p w.table in
    let b = ids_differ w.table in
    let c = ltb w.current p.slots in
    both (a && b && c) _ (both (a && b) _ (both a _ s.good s.differs) (lt→ltb w.current p.slots s.below)) (lt→ltb w.counter id_count s.counts)

-- ---- a frame's table is good

-- What a frame may give is good in a table.
pub contact-slot : (axes : List Field) (vs : List ℤ) → T (good_contact axes vs) → T (good_slot axes vs)
contact-slot [] [] g = tt
contact-slot [] (v ∷ vs) g = g
contact-slot (f ∷ fs) [] g = g
contact-slot (f ∷ fs) (v ∷ vs) g =
    both (fits f v) _ (both_left (fits f v) _ (both_left (given f v) (good_contact fs vs) g)) (contact-slot fs vs (both_right (given f v) (good_contact fs vs) g))

-- A row that is good holds good numbers unless its kind is 0.
row_numbers : (axes : List Field) (g : List ℤ) → T (good_row axes g) → eq_z (kind_of g) (pos 0) ≡ false → T (good_slot axes (numbers_of g))
row_numbers axes g r e =
    let h : T ((eq_z (kind_of g) (pos 1) || eq_z (kind_of g) (pos 2)) && good_contact axes (numbers_of g)) = rw e at r in
    contact-slot axes (numbers_of g) (both_right (eq_z (kind_of g) (pos 1) || eq_z (kind_of g) (pos 2)) _ h)

-- A contact is there after the row.
abbrev Contact : Fate → Type 0
Contact none = ⊥
Contact goes_on = Unit {0}
Contact begins = Unit {0}

contact-kind : (kind id : ℤ) → Contact (fate kind id) → eq_z kind (pos 0) ≡ false
contact-kind kind id c =
    (elim (eq_z kind (pos 0)) as (λ b. Contact (cond b none (cond (eq_z kind (pos 2)) begins (cond (live id) goes_on begins))) → b ≡ false) [
      | true ↦ λ x. absurd x
      | false ↦ λ x. refl
    ]) c

id-fits : (j : ℕ) → j < id_count → T (fits id_field (pos j))
id-fits j l = le→leb j last_id (omega arith)

slot-id : (axes : List Field) (s : Slot) → T (good_slot (id_field ∷ axes) s) → T (fits id_field (id_of s))
slot-id axes [] g = absurd g
slot-id axes (v ∷ s) g = both_left (fits id_field v) (good_slot axes s) g

slot-numbers : (axes : List Field) (s : Slot) → T (good_slot (id_field ∷ axes) s) → T (good_slot axes (numbers_of s))
slot-numbers axes [] g = absurd g
slot-numbers axes (v ∷ s) g = both_right (fits id_field v) (good_slot axes s) g

-- No more rows than the panel has slots, all good, keep good records good.
rows_good : (axes : List Field) (n : ℕ) (taken : List ℤ) (k : ℕ) (fr : List (List ℤ)) (t : Table) → k < id_count → length fr ≤ n → T (good_rows axes fr)
    → T (good_records (id_field ∷ axes) n t) → T (good_records (id_field ∷ axes) n (planned taken k fr t).table)
rows_good axes n taken k [] t q l r g = g
rows_good axes zero taken k (x ∷ fr) t q l r g = absurd (omega arith)
rows_good axes (suc n) taken k (x ∷ fr) [] q l r g = absurd g
rows_good axes (suc n) taken k (x ∷ fr) (s ∷ t) q l r g =
    let fs = id_field ∷ axes in
    let j = free_id taken k in
    let here = both_left (good_slot fs s) (good_records fs n t) g in
    let more = both_right (good_slot fs s) (good_records fs n t) g in
    let rows = both_right (good_row axes x) (good_rows axes fr) r in
    let lj = free_id-below taken k q in
    (elim (fate (kind_of x) (id_of s)) as (λ f. (Contact f → T (good_slot axes (numbers_of x))) → T (good_records fs (suc n) (fated f taken k x fr s t))) [
      | none ↦ λ c. both (good_slot axes (numbers_of s)) _ (slot-numbers axes s here) (rows_good axes n taken k fr t q (omega arith) rows more)
      | goes_on ↦ λ c. both (good_slot fs (id_of s ∷ numbers_of x)) _ (both (fits id_field (id_of s)) _ (slot-id axes s here) (c tt)) (rows_good axes n taken k fr t q (omega arith) rows more)
      | begins ↦ λ c. both (good_slot fs (pos j ∷ numbers_of x)) _ (both (fits id_field (pos j)) _ (id-fits j lj) (c tt)) (rows_good axes n (pos j ∷ taken) _ fr t (omega arith) (omega arith) rows more)
    ]) (λ c. row_numbers axes x (both_left (good_row axes x) (good_rows axes fr) r) (contact-kind (kind_of x) (id_of s) c))

pub length_rows : (taken : List ℤ) (k : ℕ) (fr : List (List ℤ)) (t : Table) → length (planned taken k fr t).table ≡ length t
length_rows taken k [] t = refl
length_rows taken k (x ∷ fr) [] = refl
length_rows taken k (x ∷ fr) (s ∷ t) = ap suc (length_rows (taken_after (fate (kind_of x) (id_of s)) (free_id taken k) taken) _ fr t)

-- The writer after a frame's rows.
abbrev pub after_rows : List (List ℤ) → Writer → Writer
after_rows fr w = record { table = new_table w.counter fr w.table; current = current_after w.current w.table (new_table w.counter fr w.table); counter = new_counter w.counter fr w.table }

-- Good rows keep a writer well formed, on any panel whose first field is the id and that holds few enough records.
pub rows_steady : (n m : ℕ) (axes : List Field) (w : Writer) (fr : List (List ℤ)) → m + m < id_count → length fr ≤ n → T (good_rows axes fr)
    → SteadyWriter (record { slots = n; records = m; fields = id_field ∷ axes }) w → SteadyWriter (record { slots = n; records = m; fields = id_field ∷ axes }) (after_rows fr w)
rows_steady n m axes w fr small l r s =
    let p : Panel = record { slots = n; records = m; fields = id_field ∷ axes } in
    let lt = good_length p w.table s.good in
    let recs = rows_good axes n (ids w.table) w.counter fr w.table s.counts l r (good-records p w.table s.good) in
    record {
      good = good-table p _ (length_rows (ids w.table) w.counter fr w.table ∙ lt) recs;
      differs = ids-apart w.counter fr w.table s.counts (omega (arith, lt)) s.differs;
      below = last-below p.fields n w.current (sending w.current w.table (new_table w.counter fr w.table)) s.below (sending-good p.fields n w.current w.table _ (good-records p w.table s.good) recs);
      counts = counter-below (ids w.table) w.counter fr w.table s.counts;
    }
