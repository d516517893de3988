-- The tests of a state where it lies: the shown table by itself, what lies elsewhere, and two tables compared byte by byte. Cited by the proofs of `tables_same`, `tables_ok` and `state_ok`. Assumes nothing.
use mathlib.Core.Path.{◌≡◌, refl, sym, ap, ap₂, ◌∙◌}
use mathlib.Core.Bool.{Bool, true, false, ◌&&◌}
use mathlib.Core.List.{List}
use Prim.Native.Nat.{ℕ, zero, suc, ◌+◌, ◌≤◌, ◌<◌}
use native.Mathlib.Omega.{arith}
use borrow.Author.Tests.{eqb-true, eqb-false, eq-eqb}
use lib.Dec.{eqb, ltb}
use lib.ListN.{length, get_or, take, drop}
use lib.Seq.{get_or-take, get_or-drop}
use Rattle.model.specs.Panel.{base, records, setup_good}
use Rattle.model.specs.Table.{eq_table, ids_differ, good_records}
use Rattle.model.specs.States.{settled, good_reader, reader_good}
use Rattle.model.proofs.Bools.{holds, is_true, and_left, and_right}
use Rattle.model.proofs.Tables.{eq_table→eq, eq_table_self}
use Rattle.common.specs.Seen.{mode_of}
use Rattle.common.proofs.Signs.{and-false, and-true}
use Rattle.panel.specs.declared.Setup.{Setup}
use Rattle.panel.specs.declared.Slot.{Slot}
use Rattle.panel.specs.Seen.{table_of, table_from, setup_of, panel_seen, fields_of}
use Rattle.panel.proofs.Back.{table_back}
use Rattle.panel.proofs.Tables.{table-good}
use Rattle.reader.specs.declared.ReaderState.{ReaderState}
use Rattle.reader.specs.States.{seen}
use Rattle.lent.specs.Lent.{table_size, slots_from, table_in, table_bytes, Bytes}
use Rattle.lent.proofs.Slots.{Alike}
use Rattle.lent.proofs.Tables.{slots_length, slots-part, slots_same, table-bytes_back}
use Rattle.lent_reader.specs.Layout.{reader_size, mode_at, shown_at, pending_at, mode_in, unpacked}

-- ---- the five tests

-- In the order of the code: the shown table with its ids, the current slot, the pending table and whether nothing is pending.
pub in_order : (gs gp ids lt st : Bool) → ((((gs && gp) && ids) && lt) && st) ≡ (((gs && ids) && lt) && (gp && st))
in_order false gp ids lt st = refl
in_order true true ids lt st = refl
in_order true false ids lt st = sym (and-false (ids && lt) false refl)

-- Nothing may be pending unless the mode's byte is 0.
pub settled_by : (v : ℕ) (s p : List Slot) → (v ≡ 0 → ⊥) → settled (mode_of (mode_in v)) (table_of s) (table_of p) ≡ eq_table (table_of s) (table_of p)
settled_by zero s p h = absurd (h refl)
settled_by (suc zero) s p h = refl
settled_by (suc (suc v)) s p h = refl

-- Where nothing is, any mode will do.
pub settled_same : (v : ℕ) (s p : List Slot) → eq_table (table_of s) (table_of p) ≡ true → settled (mode_of (mode_in v)) (table_of s) (table_of p) ≡ true
settled_same zero s p e = refl
settled_same (suc zero) s p e = e
settled_same (suc (suc v)) s p e = e

pub same_tables : (s p : List Slot) → eq_table (table_of s) (table_of p) ≡ true → s ≡ p
same_tables s p e = sym (table_back s) ∙ ap table_from (eq_table→eq (table_of s) (table_of p) (holds _ e)) ∙ table_back p

-- ---- two tables, byte by byte

-- The first i bytes of both were compared.
pub record Compared (b : List ℕ) (same : Bool) (i : ℕ) : Type 0 where
  pub inside : i ≤ table_size
  pub alike : same ≡ true → Alike i b shown_at b pending_at
  pub found : Alike table_size b shown_at b pending_at → same ≡ true

pub compared_none : (b : List ℕ) → Compared b true 0
compared_none b = record { inside = omega arith; alike = λ e j h. absurd (omega arith); found = λ a. refl }

-- One byte more.
module _ (b : List ℕ) (same : Bool) (i : ℕ) (c : Compared b same i) (h : i < table_size) where
  abbrev alike_here : Bool
  alike_here = eqb (get_or b (shown_at + i) 0) (get_or b (pending_at + i) 0)

  alike_more : (same && alike_here) ≡ true → (j : ℕ) (t : Bool) → eqb j i ≡ t → j < i + 1 → get_or b (shown_at + j) 0 ≡ get_or b (pending_at + j) 0
  alike_more e j true q l = let x : j ≡ i = eqb-true j i q in rw x (eqb-true _ _ (and_right same alike_here e))
  alike_more e j false q l = let n = eqb-false j i q in c.alike (and_left same alike_here e) j (omega (arith, n))

  pub compared_more : Compared b (same && alike_here) (i + 1)
  compared_more = record {
    inside = omega arith;
    alike = λ e j l. alike_more e j (eqb j i) refl l;
    found = λ a. both_true same alike_here (c.found a) (eq-eqb _ _ (a i h));
  }
    where
      both_true : (x y : Bool) → x ≡ true → y ≡ true → (x && y) ≡ true
      both_true x y p q = rw (p, q)

-- Two tests that say the same of each other are one.
one_test : (r t : Bool) → (r ≡ true → t ≡ true) → (t ≡ true → r ≡ true) → r ≡ t
one_test true t f g = sym (f refl)
one_test false true f g = g refl
one_test false false f g = refl

-- All of them: the tables are equal where every byte is.
module _ (b : List ℕ) (made : Bytes b) (size : length b ≡ reader_size) where
  abbrev shown : List Slot
  shown = slots_from records b shown_at

  abbrev pending : List Slot
  pending = slots_from records b pending_at

  -- A byte of a table's bytes.
  byte_of : (at i : ℕ) → at + table_size ≤ reader_size → i < table_size → get_or (table_bytes (slots_from records b at)) i 0 ≡ get_or b (at + i) 0
  byte_of at i h l = ap (λ t. get_or t i 0) (table-bytes_back records b at made (omega (arith, size))) ∙ get_or-take table_size (drop at b) i 0 l ∙ get_or-drop at b i 0

  bytes_alike : shown ≡ pending → Alike table_size b shown_at b pending_at
  bytes_alike e i l = sym (byte_of shown_at i (omega arith) l) ∙ ap (λ t. get_or (table_bytes t) i 0) e ∙ byte_of pending_at i (omega arith) l

  pub compared_all : (same : Bool) (i : ℕ) → Compared b same i → table_size ≤ i → same ≡ eq_table (table_of shown) (table_of pending)
  compared_all same i c h =
      one_test same _
      (λ e. ap (λ t. eq_table (table_of shown) (table_of t)) (sym (slots_same records b shown_at b pending_at (λ j l. c.alike e j (omega arith)))) ∙ is_true _ (eq_table_self (table_of shown)))
      (λ e. c.found (bytes_alike (same_tables shown pending e)))

-- ---- the state behind its setup, by what was found

module _ (u : Setup) (b : List ℕ) (size : length b ≡ reader_size) where
  abbrev reader : ReaderState
  reader = unpacked b

  abbrev good : Bool
  good = good_reader (panel_seen u) (seen reader).reader

  -- The shown table with its ids, the current slot, the pending table, and whether nothing is pending.
  abbrev fine : List Slot → Bool
  fine t = good_records (fields_of u) u.n (table_of t) && ids_differ (table_of t)

  abbrev pub below : Bool
  below = ltb reader.current.0 u.n

  abbrev pends : Bool
  pends = good_records (fields_of u) u.n (table_of reader.pending)

  abbrev settles : Bool
  settles = settled (mode_of reader.mode) (table_of reader.shown) (table_of reader.pending)

  abbrev same : Bool
  same = eq_table (table_of reader.shown) (table_of reader.pending)

  tests : good ≡ ((fine reader.shown && below) && (pends && settles))
  tests =
      ap₂ (λ x y. (((x && y) && ids_differ (table_of reader.shown)) && below) && settles) (table-good u reader.shown (slots_length records b shown_at)) (table-good u reader.pending (slots_length records b pending_at))
      ∙ in_order (good_records (fields_of u) u.n (table_of reader.shown)) pends (ids_differ (table_of reader.shown)) below settles

  -- The tables are judged by their bytes alone.
  pub shown-part : (r : Bool) → r ≡ fine (table_in (take table_size (drop shown_at b))) → r ≡ fine reader.shown
  shown-part r e = e ∙ ap fine (sym (slots-part records b shown_at (omega (arith, size))))

  pub pending-part : (r : Bool) → r ≡ good_records (fields_of u) u.n (table_of (table_in (take table_size (drop pending_at b)))) → r ≡ pends
  pending-part r e = e ∙ ap (λ t. good_records (fields_of u) u.n (table_of t)) (sym (slots-part records b pending_at (omega (arith, size))))

  pub shown-bad : fine reader.shown ≡ false → false ≡ good
  shown-bad h = sym (tests ∙ ap (λ x. (x && below) && (pends && settles)) h)

  module _ (h : fine reader.shown ≡ true) where
    pub current_out : below ≡ false → false ≡ good
    current_out k = sym (tests ∙ ap₂ (λ x y. (x && y) && (pends && settles)) h k)

    module _ (k : below ≡ true) where
      rest : good ≡ (pends && settles)
      rest = tests ∙ ap₂ (λ x y. (x && y) && (pends && settles)) h k

      pub nothing_pends : same ≡ true → true ≡ good
      nothing_pends e =
          let p : pends ≡ true = ap (λ t. good_records (fields_of u) u.n (table_of t)) (sym (same_tables reader.shown reader.pending e)) ∙ and_left _ (ids_differ (table_of reader.shown)) h in
          sym (rest ∙ ap₂ (λ x y. x && y) p (settled_same (get_or b mode_at 0) reader.shown reader.pending e))

      pub pends_lost : same ≡ false → (get_or b mode_at 0 ≡ 0 → ⊥) → false ≡ good
      pends_lost e m = sym (rest ∙ and-false pends settles (settled_by (get_or b mode_at 0) reader.shown reader.pending m ∙ e))

      pub pends_by : get_or b mode_at 0 ≡ 0 → (r : Bool) → r ≡ pends → r ≡ good
      pends_by m r e =
          let any : settles ≡ true = ap (λ v. settled (mode_of (mode_in v)) (table_of reader.shown) (table_of reader.pending)) m in
          e ∙ sym (and-true pends) ∙ ap (λ x. pends && x) (sym any) ∙ sym rest

-- ---- the whole state

module _ (b : List ℕ) where
  pub setup-bad : setup_good base (setup_of (unpacked b).setup) ≡ false → false ≡ reader_good base (seen (unpacked b))
  unfolding reader_good
  setup-bad h = sym (ap (λ x. x && good_reader (panel_seen (unpacked b).setup) (seen (unpacked b)).reader) h)

  pub setup_fine : setup_good base (setup_of (unpacked b).setup) ≡ true → (r : Bool) → r ≡ good_reader (panel_seen (unpacked b).setup) (seen (unpacked b)).reader → r ≡ reader_good base (seen (unpacked b))
  unfolding reader_good
  setup_fine h r e = e ∙ sym (ap (λ x. x && good_reader (panel_seen (unpacked b).setup) (seen (unpacked b)).reader) h)
