-- A well-formed writer's numbers have room in its bytes, so that what is stored of it is read again. Its table, setup and current slot are those of its own reader, of
-- which lent_reader's Fits says it. Cited by Hosts. Assumes nothing.
use mathlib.Core.Path.{◌≡◌, sym, ap, ◌∙◌, subst}
use mathlib.Core.Bool.{Bool, true, false}
use mathlib.Core.List.{List}
use Prim.Native.Nat.{ℕ, zero, suc, ◌≤◌, ◌<◌, ◌^◌}
use native.Mathlib.Omega.{arith}
use lib.Dec.{T, leb, leb→le}
use lib.IntN.{pos}
use lib.ListN.{length, length-map, length-replicate}
use Rattle.model.specs.Numbers.{between_z}
use Rattle.model.specs.Panel.{base, records}
use Rattle.model.specs.Table.{id_of, ids}
use Rattle.model.specs.Ranks.{zero_unused, live_count}
use Rattle.model.specs.Pointer as P
use Rattle.model.specs.Pointer.{tool_of}
use Rattle.model.specs.Pointing.{Pointing, good_pointing}
use Rattle.model.proofs.Bools.{is_true, holds, both_left, both_right}
use Rattle.model.proofs.Ranks.{length-ranks}
use Rattle.model.proofs.Link.{pupil-good}
use Rattle.model.proofs.Pointing.{on_facts, off_only, pointer_facts}
use Rattle.common.specs.Seen.{natural}
use Rattle.panel.specs.declared.Slot.{Slot}
use Rattle.panel.specs.declared.Setup.{Setup}
use Rattle.panel.specs.Seen.{slot_of, table_of, panel_seen}
use Rattle.panel.proofs.Setups.{Small, small}
use Rattle.pointer.specs.declared.Pointer.{Pointer}
use Rattle.pointer.specs.Seen.{pointing_of}
use Rattle.writer.specs.declared.WriterState.{WriterState}
use Rattle.writer.specs.Seen.{plain, seen}
use Rattle.writer.proofs.States.{good-setup, good-pointing, good-counter}
use Rattle.lent_writer.proofs.Back.{StateFits}
use Rattle.lent_reader.proofs.Fits.{good-fits}
use Rattle.link.specs.Promises.{GoodWriter, GoodReader, pupil_of}

-- A well-formed writer's own reader is well formed.
pub own-good : (s : WriterState) → GoodWriter s → GoodReader (pupil_of s)
own-good s g = is_true _ (pupil-good base (plain s) (pointer_facts base (seen s) (holds _ g)).writer)

-- ---- what an old display was told

number_fits : (top v : ℕ) → top ≤ 32_767 → T (between_z (pos 0) (pos top) (pos v)) → v < 2 ^ 32
number_fits top v few t = omega (arith, leb→le v top (both_right (leb 0 v) (leb v top) t), few)

zero-fits : (v : ℕ) → pos v ≡ pos 0 → v < 2 ^ 32
zero-fits v e = let z : v ≡ 0 = ap natural e in omega (arith, z)

tool-fits : (m : ℕ) → tool_of m < 2 ^ 16
tool-fits zero = omega arith
tool-fits (suc zero) = omega arith
tool-fits (suc (suc zero)) = omega arith
tool-fits (suc (suc (suc zero))) = omega arith
tool-fits (suc (suc (suc (suc zero)))) = omega arith
tool-fits (suc (suc (suc (suc (suc m))))) = omega arith

record ToldFits (rs : List ℕ) (p : Pointer) : Type 0 where
  ranked : length rs ≡ records
  x : p.x < 2 ^ 32
  y : p.y < 2 ^ 32
  tool : p.tool < 2 ^ 16

told-fits : (on : Bool) (u : Setup) (t : List Slot) (rs : List ℕ) (p : Pointer) → Small u → length t ≡ records
    → T (good_pointing on (panel_seen u) (table_of t) (pointing_of rs p)) → ToldFits rs p
told-fits true u t rs p few whole g =
    let facts = on_facts (panel_seen u) (table_of t) (pointing_of rs p) g in
    let l = ids (table_of t) in
    let x = between_z (pos 0) (pos u.x) (pos p.x) in
    record {
      ranked = length-ranks l rs (both_left (zero_unused l rs) _ facts.ranked) ∙ length-map (table_of t) id_of ∙ length-map t slot_of ∙ whole;
      x = number_fits u.x p.x few.x (both_left x _ facts.ranges);
      y = number_fits u.y p.y few.y (both_right x _ facts.ranges);
      tool = subst (λ v. v < 2 ^ 16) (sym (ap (λ (z : P.Pointer). z.tool) facts.given)) (tool-fits (live_count l));
    }
told-fits false u t rs p few whole g =
    let z = off_only (panel_seen u) (table_of t) (pointing_of rs p) g in
    record {
      ranked = ap (λ (q : Pointing). length q.ranks) z ∙ length-replicate {A = ℕ} records 0;
      x = zero-fits p.x (ap (λ (q : Pointing). q.last.x) z);
      y = zero-fits p.y (ap (λ (q : Pointing). q.last.y) z);
      tool = omega (arith, ap (λ (q : Pointing). q.last.tool) z);
    }

-- ---- the whole state

pub writer-fits : (s : WriterState) → GoodWriter s → StateFits s
writer-fits s g =
    let own = good-fits (pupil_of s) (own-good s g) in
    let told = told-fits s.pointer s.setup s.table s.ranks s.told (small s.setup (good-setup s g)) own.whole (good-pointing s g) in
    record {
      full = own.whole;
      slots = own.shown;
      ranked = told.ranked;
      setup = own.setup;
      current = own.current;
      counter = omega (arith, good-counter s g);
      x = told.x;
      y = told.y;
      tool = told.tool;
    }
