-- A frame that leaves every slot as it is, and one that sends nothing: the state is handed back. Cited by the proof of `write`. Assumes nothing.
use mathlib.Core.Path.{◌≡◌, refl, sym, ap, ap₂, subst, ◌∙◌}
use mathlib.Core.Bool.{Bool, true, false, cond}
use mathlib.Core.List.{List, [], ◌∷◌}
use Prim.Native.Nat.{ℕ, zero, suc, ◌<◌, ◌+◌, ◌-◌, ◌*◌}
use native.Mathlib.Omega.{arith}
use lib.Dec.{T, eqb}
use lib.IntN.{ℤ}
use lib.ListN.{length, length-map}
use borrow.Author.Tests.{ne_eqb}
use Rattle.model.specs.Panel.{base, id_count, per_slot, records}
use Rattle.model.specs.Table.{Table, id_of, ids}
use Rattle.model.specs.Frame.{kind_of, values_good, good_rows, framed, rows_from, rows_of, none, goes_on, begins, fate, free_id, taken_after, counter_after, planned}
use Rattle.model.specs.Sending.{changed_numbers, changed_mask, changed_others, others_mask}
use Rattle.model.specs.Ranks.{fates}
use Rattle.model.specs.Calls.{room_for}
use Rattle.model.specs.Pointing.{pointer_good, pointer_call, pointer_buffer, good_pointing}
use Rattle.model.proofs.Count.{none-changed}
use Rattle.model.proofs.Ones.{mask_self}
use Rattle.model.proofs.RanksKept.{Kept, ids-kept}
use Rattle.model.proofs.Rows.{rows_none}
use Rattle.model.proofs.Emulated.{emulated_self}
use Rattle.model.proofs.Pointing.{on_facts}
use Rattle.panel.specs.declared.Slot.{Slot}
use Rattle.panel.specs.Seen.{slot_of, table_of, table_from, axes_of, panel_seen}
use Rattle.panel.proofs.Back.{table_back}
use Rattle.tally.specs.Told.{unchanged}
use Rattle.tally.proofs.Told.{others-told, events-told}
use Rattle.plan.specs.declared.Planned.{Planned}
use Rattle.plan.specs.Quiet.{QuietAt}
use Rattle.plan.specs.Walk.{Given}
use Rattle.plan.proofs.Turn.{no_row}
use Rattle.plan.proofs.Skipped.{Skipped, skipped}
use Rattle.pointer.specs.declared.Moved.{Moved}
use Rattle.pointer.specs.Seen.{pointer_of, pointing_of}
use Rattle.pointer.specs.Moved.{MovesBy}
use Rattle.pointer.proofs.Kept.{ranks-kept}
use Rattle.pointer.proofs.Unique.{moves_one}
use Rattle.writer.specs.declared.WriterState.{WriterState}
use Rattle.writer.specs.Seen.{seen, written_from, written_by, still_by, last_of, taken_by}
use Rattle.writer.proofs.States.{good-pointing, good-counter}
use Rattle.writer.proofs.Accepted.{GoodFrame, Known, new_is, counter-is, refused_by, quiet}

-- ---- a state that stays

-- Ranks and display stay where the table does.
rests : (s : WriterState) → pointer_good base (seen s) ≡ true → length s.table ≡ records → MovesBy s.pointer s.table s.table s.ranks s.told (last_of s)
rests s good held = by s.pointer (good-pointing s good)
  where
    by : (b : Bool) → T (good_pointing b (panel_seen s.setup) (table_of s.table) (pointing_of s.ranks s.told)) → MovesBy b s.table s.table s.ranks s.told (last_of s)
    by false g = refl
    by true g =
        let now = on_facts (panel_seen s.setup) (table_of s.table) (pointing_of s.ranks s.told) g in
        let l = ids (table_of s.table) in
        let size : length l ≡ records = length-map (table_of s.table) id_of ∙ length-map s.table slot_of ∙ held in
        record { ranks = sym (ranks-kept l s.ranks size now.ranked); told = now.given }

-- The counter stays where nothing begins.
counter-stays : (taken : List ℤ) (k : ℕ) (fr : List (List ℤ)) (t : Table) → Kept (fates fr t) (ids t) → (planned taken k fr t).counter ≡ k
counter-stays taken k [] t y = refl
counter-stays taken k (g ∷ fr) [] y = refl
counter-stays taken k (g ∷ fr) (s ∷ t) y =
    let j = free_id taken k in
    (elim (fate (kind_of g) (id_of s)) as (λ a. Kept (a ∷ fates fr t) (id_of s ∷ ids t) → (planned (taken_after a j taken) (counter_after a j k) fr t).counter ≡ k) [
      | none ↦ λ z. counter-stays taken k fr t z.1
      | goes_on ↦ λ z. counter-stays taken k fr t z.1
      | begins ↦ λ z. absurd z
    ]) y

-- Tables of which no number differs are the same.
same_tables : (a b : List Slot) → length a ≡ length b → changed_numbers (table_of a) (table_of b) ≡ 0 → table_of a ≡ table_of b
same_tables [] [] l e = refl
same_tables [] (y ∷ b) l e = absurd (omega arith)
same_tables (x ∷ a) [] l e = absurd (omega arith)
same_tables (x ∷ a) (y ∷ b) l e = ap₂ {C = Table} (λ s t. s ∷ t) (none-changed (slot_of x) (slot_of y) tt (omega arith)) (same_tables a b (omega arith) (omega arith))

none-fewest : (n o : ℕ) → cond (eqb n 0) 0 (1 + n + o) ≡ 0 → n ≡ 0
none-fewest zero o e = refl
none-fewest (suc n) o e =
    let some = ne_eqb (suc n) 0 (λ z. omega arith) in
    let q : 1 + suc n + o ≡ 0 = sym (ap (λ b. cond b 0 (1 + suc n + o)) some) ∙ e in
    absurd (omega (arith, q))

-- ---- no events: the answer that is planned is the state itself

module _ {s : WriterState} {f : List ℤ} {p : Planned} {m : Moved} {others events : ℕ} (k : Known s f p m others events) (e : events ≡ 0) where
  abbrev old : Table
  old = table_of s.table

  same_seen : old ≡ table_of p.table
  same_seen =
      let none-counted = none-fewest (changed_numbers old (table_of p.table)) (changed_others s.current.0 old (table_of p.table)) (omega (arith, k.count, e)) in
      same_tables s.table p.table (k.frame.held ∙ sym k.frame.made) none-counted

  same-table : p.table ≡ s.table
  same-table = sym (table_back p.table) ∙ ap table_from (sym same_seen) ∙ table_back s.table

  same-counter : p.counter ≡ s.counter
  same-counter =
      let rows = rows_of (panel_seen s.setup) f in
      let few : length (ids old) < id_count = omega (arith, length-map old id_of, length-map s.table slot_of, k.frame.held) in
      let kept = ids-kept (ids old) s.counter rows old (good-counter s k.frame.good.state) few (λ v u. u) (ap ids (sym (new_is k.frame) ∙ sym same_seen)) in
      counter-is k.frame ∙ counter-stays (ids old) s.counter rows old kept

  same-moved : m ≡ last_of s
  same-moved =
      moves_one s.pointer s.table s.table s.ranks s.told m (last_of s)
      (subst (λ t. MovesBy s.pointer s.table t s.ranks s.told m) same-table k.moves) (rests s k.frame.good.state k.frame.held)

  none-changes : p.changes.slots ≡ 0
  none-changes = k.frame.plans.tells.slots ∙ ap (changed_mask old) (sym same_seen) ∙ mask_self old

  -- It is handed back.
  pub handed_back : (at : ℕ) (buf : List ℕ) → room_for (8 * events) at (length buf) ≡ true
      → (still_by s (room_for 0 at (length buf)) ≡ written_from (pointer_call base (seen s) f at (length buf))) × (buf ≡ pointer_buffer base (seen s) f at buf)
  handed_back at buf roomy =
      let r = quiet k at buf roomy e in
      let room = sym (ap (λ n. room_for (8 * n) at (length buf)) e) ∙ roomy in
      let same : taken_by p.table m (record { setup = s.setup; current = s.current; counter = p.counter; pointer = s.pointer }) events p.changes.slots ≡ written_by s 0 0 =
      λ i. written_by (record { table = same-table i; ranks = (same-moved i).ranks; setup = s.setup; current = s.current; counter = same-counter i; told = (same-moved i).told; pointer = s.pointer }) (e i) (none-changes i) in
      (ap (still_by s) room ∙ sym same ∙ r.0, r.1)

-- ---- a frame whose rows are quiet

module _ (s : WriterState) (f : List ℤ) (good : pointer_good base (seen s) ≡ true) (given : Given s.setup s.table s.counter f) (held : length s.table ≡ records)
    (all : (i : ℕ) → i < s.setup.n → QuietAt f s.table i) where
  -- Nothing is planned.
  abbrev plan : Planned
  plan = record { table = s.table; counter = s.counter; changes = unchanged; good = true }

  over : Skipped s.setup s.table s.counter f given held s.setup.n
  over = skipped s.setup s.table s.counter f given held s.setup.n (omega arith) all

  values : values_good (panel_seen s.setup) f ≡ true
  values =
      let n = s.setup.n in
      let start = ap (λ m. good_rows (axes_of s.setup) (rows_from per_slot m f 0)) (let z : n ≡ n - 0 = omega arith in z) in
      let end = ap (λ m. good_rows (axes_of s.setup) (rows_from per_slot m f (per_slot * n))) (let z : n - n ≡ 0 = omega arith in z) in
      start ∙ over.good ∙ end ∙ ap (good_rows (axes_of s.setup)) (rows_none per_slot f (per_slot * n))

  frame : GoodFrame s f
  frame = record { state = good; size = given.size; values = values }

  planned-is : framed s.counter (rows_from per_slot s.setup.n f 0) (table_of s.table) ≡ record { table = table_of s.table; counter = s.counter }
  planned-is =
      let n = s.setup.n in
      let start = ap (λ m. framed s.counter (rows_from per_slot m f 0) (table_of s.table)) (let z : n ≡ n - 0 = omega arith in z) in
      start ∙ over.whole ∙ no_row (ids (table_of s.table)) s.counter n f s.table n (omega arith)

  known : Known s f plan (last_of s) 0 0
  known =
      let current = s.current.0 in
      let others : ◌≡◌ {A = ℕ} 0 (others_mask current (table_of s.table) (table_of s.table)) = others-told s.table s.table current s.setup.n unchanged over.tells in
      let events = events-told s.table s.table current s.setup.n unchanged over.tells 0 others in
      let none = ap length (emulated_self (pointer_of s.told)) in
      record {
        frame = record { good = frame; plans = record { plan = sym planned-is; tells = over.tells; good = refl }; held = held; made = held };
        moves = rests s good held;
        opened = others;
        count = ap₂ (λ a b. a + b) events (sym none);
      }

  -- The state is handed back; a position past the end is refused.
  pub still : (at : ℕ) (buf : List ℕ)
      → (still_by s (room_for 0 at (length buf)) ≡ written_from (pointer_call base (seen s) f at (length buf))) × (buf ≡ pointer_buffer base (seen s) f at buf)
  still at buf =
      (elim (room_for 0 at (length buf)) as (λ b. room_for 0 at (length buf) ≡ b → (still_by s b ≡ written_from (pointer_call base (seen s) f at (length buf))) × (buf ≡ pointer_buffer base (seen s) f at buf)) [
        | true ↦ λ e. quiet known at buf e refl
        | false ↦ λ e. refused_by known at buf e
      ]) refl
