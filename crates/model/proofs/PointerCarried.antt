-- Records can carry the events of a frame with pointer emulation (K6), so they read back from bytes. Cited by PointerBytes and PointerShift. Assumes nothing.
use mathlib.Core.Path.{sym, subst}
use mathlib.Core.Bool.{Bool, true, false, ◌&&◌, ◌||◌}
use mathlib.Core.List.{List, [], ◌∷◌, ◌++◌}
use Prim.Native.Nat.{ℕ, zero, suc, ◌+◌, ◌≤◌, ◌<◌}
use native.Mathlib.Omega.{arith}
use lib.Dec.{T, ltb, leb, eqb, ltb→lt, leb→le, le→leb}
use lib.IntN.{ℤ, pos, negsuc}
use Rattle.model.proofs.Bools.{both_left, both_right}
use Rattle.model.proofs.Bytes.{signed32, Carried, AllCarried, frame-carried}
use Rattle.model.proofs.Layouts.{panel-tellable}
use Rattle.model.proofs.Calls.{writer-state}
use Rattle.model.proofs.Emulated.{contact-ended}
use Rattle.model.proofs.Pointing.{on_facts, off_only, pointer_facts, touched_by}
use Rattle.model.proofs.PointerFrame.{after-good}
use Rattle.model.specs.Numbers.{eq_z, between}
use Rattle.model.specs.Panel.{Axis, Layout, Setup, Field, id_count, largest_good, setup_good, id_field, axis_fields, panel_of, slot_code, codes_differ, axis_codes, axes_carried, good_layout}
use Rattle.model.specs.Table.{Table, fits}
use Rattle.model.specs.Events.{Event}
use Rattle.model.specs.Frame.{rows_of, values_good, new_table}
use Rattle.model.specs.Sending.{unless, event_of, send_report}
use Rattle.model.specs.Pointer.{pointer_x, pointer_y, touch_code, Pointer, touch_of, tool_of, button, axis, events_before, moves, swaps, events_after, ended, contact_events}
use Rattle.model.specs.Pointing.{Pointing, in_range, good_pointing, PointerState, pointer_good, pointer_events, pointer_after}

pub carried_append : (xs ys : List Event) → AllCarried xs → AllCarried ys → AllCarried (xs ++ ys)
carried_append [] ys c d = d
carried_append (x ∷ xs) ys c d = (c.0, carried_append xs ys c.1 d)

carried_front : (xs ys : List Event) → AllCarried (xs ++ ys) → AllCarried xs
carried_front [] ys c = tt
carried_front (x ∷ xs) ys c = (c.0, carried_front xs ys c.1)

carried-unless : (b : Bool) (e : Event) (es : List Event) → Carried e → AllCarried es → AllCarried (unless b e es)
carried-unless true e es c d = d
carried-unless false e es c d = (c, d)

carried-ended : (es : List Event) → AllCarried es → AllCarried (ended es)
carried-ended [] c = tt
carried-ended (e ∷ es) c = carried_append (e ∷ es) (event_of [] send_report ∷ []) c (record { type = omega arith; code = omega arith; value = tt }, tt)

ended-carried : (es : List Event) → AllCarried (ended es) → AllCarried es
ended-carried [] c = tt
ended-carried (e ∷ es) c = carried_front (e ∷ es) (event_of [] send_report ∷ []) c

-- The numbers of a pointer that events can carry.
record Told (q : Pointer) : Type 0 where
  touch : q.touch ≤ 1
  tool : q.tool < 65_536
  x : T (signed32 q.x)
  y : T (signed32 q.y)

carried-button : (c v : ℕ) → c < 65_536 → v ≤ 1 → Carried (button c v)
carried-button c v a b = record { type = omega arith; code = a; value = le→leb v 2_147_483_647 (omega arith) }

carried-axis : (c : ℕ) (v : ℤ) → c < 65_536 → T (signed32 v) → Carried (axis c v)
carried-axis c v a b = record { type = omega arith; code = a; value = b }

carried-before : (q z : Pointer) → Told z → AllCarried (events_before q z)
carried-before q z b = carried-unless (eqb q.touch z.touch) (button touch_code z.touch) [] (carried-button touch_code z.touch (omega arith) b.touch) tt

carried-swaps : (a b : ℕ) → a < 65_536 → b < 65_536 → AllCarried (swaps a b)
carried-swaps a b c d =
    carried-unless (eqb a b || eqb a 0) (button a 0) (unless (eqb a b || eqb b 0) (button b 1) []) (carried-button a 0 c (omega arith))
    (carried-unless (eqb a b || eqb b 0) (button b 1) [] (carried-button b 1 d (omega arith)) tt)

carried-moves : (q z : Pointer) → Told z → AllCarried (moves q z)
carried-moves q z b =
    carried-unless (eq_z q.x z.x) (axis pointer_x z.x) (unless (eq_z q.y z.y) (axis pointer_y z.y) []) (carried-axis pointer_x z.x (omega arith) b.x)
    (carried-unless (eq_z q.y z.y) (axis pointer_y z.y) [] (carried-axis pointer_y z.y (omega arith) b.y) tt)

carried-whole : (es : List Event) (q z : Pointer) → Told q → Told z → AllCarried es → AllCarried (ended (events_before q z ++ (es ++ events_after q z)))
carried-whole es q z a b c =
    let last = carried_append (swaps q.tool z.tool) (moves q z) (carried-swaps q.tool z.tool a.tool b.tool) (carried-moves q z b) in
    carried-ended (events_before q z ++ (es ++ events_after q z))
    (carried_append (events_before q z) (es ++ events_after q z) (carried-before q z b) (carried_append es (events_after q z) c last))

tool-below : (a : ℕ) → tool_of a < 65_536
tool-below zero = omega arith
tool-below (suc zero) = omega arith
tool-below (suc (suc zero)) = omega arith
tool-below (suc (suc (suc zero))) = omega arith
tool-below (suc (suc (suc (suc zero)))) = omega arith
tool-below (suc (suc (suc (suc (suc a))))) = omega arith

touch-below : (a : ℕ) → touch_of a ≤ 1
touch-below zero = omega arith
touch-below (suc a) = omega arith

axis-fits : (a : Axis) (v : ℕ) (x : ℤ) → T (between 1 a.most v) → a.most < 2_147_483_648
    → T (fits (record { code = a.code; low = pos 0; high = pos v; least = pos a.least }) x) → T (signed32 x)
axis-fits a v (pos k) b m f = le→leb k 2_147_483_647 (omega (arith, leb→le v a.most (both_right (leb 1 v) _ b), leb→le k v (both_right (leb 0 k) _ f)))
axis-fits a v (negsuc k) b m f = absurd f

range_carried : (axes : List Axis) (vs : List ℕ) (i : Field) (x y : ℤ) → T (axes_carried axes) → T (largest_good axes vs) → T (in_range (i ∷ axis_fields axes vs) x y)
    → T (signed32 x) × T (signed32 y)
range_carried [] vs i x y c g r = absurd r
range_carried (a ∷ axes) [] i x y c g r = absurd r
range_carried (a ∷ []) (v ∷ vs) i x y c g r = absurd r
range_carried (a ∷ b ∷ axes) (v ∷ []) i x y c g r = absurd r
range_carried (a ∷ b ∷ axes) (v ∷ w ∷ vs) i x y c g r =
    let fx : Field = record { code = a.code; low = pos 0; high = pos v; least = pos a.least } in
    let here : (d : Axis) (more : Bool) → T (ltb d.code 65_536 && ltb d.most 2_147_483_648 && more) → d.most < 2_147_483_648 =
    λ d more h. ltb→lt d.most 2_147_483_648 (both_right (ltb d.code 65_536) _ (both_left (ltb d.code 65_536 && ltb d.most 2_147_483_648) more h)) in
    let c' = both_right (ltb a.code 65_536 && ltb a.most 2_147_483_648) _ c in
    let g' = both_right (between 1 a.most v) (largest_good (b ∷ axes) (w ∷ vs)) g in
    (axis-fits a v x (both_left (between 1 a.most v) _ g) (here a _ c) (both_left (fits fx x) _ r), axis-fits b w y (both_left (between 1 b.most w) _ g') (here b _ c') (both_right (fits fx x) _ r))

-- The numbers of a well-formed state.
told : (l : Layout) (u : Setup) (on : Bool) (t : Table) (q : Pointing) → T (good_layout l) → T (setup_good l u) → T (good_pointing on (panel_of l u) t q) → Told q.last
told l u true t q lay g h =
    let a = touched_by true (panel_of l u) t q h in
    let carries = both_right (ltb (l.records + l.records) id_count && codes_differ (slot_code ∷ id_field.code ∷ axis_codes l.axes)) (axes_carried l.axes) lay in
    let r =
    range_carried l.axes u.largest id_field q.last.x q.last.y carries (both_right (between 1 l.records u.slots) _ g)
    (on_facts (panel_of l u) t q h).ranges in
    record { touch = omega (arith, a.1.touches, touch-below a.0); tool = omega (arith, a.1.tools, tool-below a.0); x = r.0; y = r.1 }
told l u false t q lay g h =
    subst (λ (z : Pointing). Told z.last) (sym (off_only (panel_of l u) t q h)) (record { touch = omega arith; tool = omega arith; x = tt; y = tt })

-- ---- a frame

module _ (l : Layout) (s : PointerState) (f : List ℤ) (g : T (good_layout l)) (good : T (pointer_good l s)) (vals : T (values_good (panel_of l s.base.setup) f)) where
  -- Records can carry the events of a frame.
  pub pointer_carried : AllCarried (pointer_events l s f)
  pointer_carried =
      let p = panel_of l s.base.setup in
      let w = s.base.writer in
      let old = pointer_facts l s good in
      let new = pointer_facts l (pointer_after l s f) (after-good l s f g good vals) in
      let facts = writer-state l s.base old.writer in
      let after = writer-state l (pointer_after l s f).base new.writer in
      let next = new_table w.counter (rows_of p f) w.table in
      let c = frame-carried p w.table next w.current (panel-tellable l s.base.setup g facts.setup) facts.writer.good after.writer.good in
      carried-whole (contact_events p w.current w.table next) s.pointing.last (pointer_after l s f).pointing.last
      (told l s.base.setup s.on w.table s.pointing g facts.setup old.pointing)
      (told l s.base.setup s.on next (pointer_after l s f).pointing g facts.setup new.pointing)
      (ended-carried (contact_events p w.current w.table next) (subst AllCarried (contact-ended p w.current w.table next) c))
