-- A frame with pointer emulation (K6), over any well-formed state, the option on or off: what a reader makes of it and counts, how many events it has, that none is
-- emulated alone, that the state stays well formed, and what a display shows. Assumes nothing.
use mathlib.Core.Path.{◌≡◌, refl, sym, ap, ap₂, ◌∙◌}
use mathlib.Core.Bool.{Bool, true, false}
use mathlib.Core.List.{List, []}
use Prim.Native.Nat.{◌+◌, ◌-◌, ◌*◌, ◌≤◌}
use native.Mathlib.Omega.{arith}
use lib.Dec.{T}
use lib.IntN.{ℤ}
use lib.ListN.{length}
use Rattle.model.proofs.Count.{changed_in_self}
use Rattle.model.proofs.Ones.{event_limit}
use Rattle.model.proofs.Calls.{writer-state, state-writer, after_steady, frame_limit}
use Rattle.model.proofs.Emulated.{emulated_self, none-whole, reads-alone, on_top}
use Rattle.model.proofs.EmulatedNumbers.{at-most-four, one_each}
use Rattle.model.proofs.EmulatedCounts.{counts_following, counts_lost}
use Rattle.model.proofs.Display.{whole-heard}
use Rattle.model.proofs.Pointing.{pointer_facts, facts_pointer, touched, touched_by, panel-unpointed, none-alone, pointing_steady}
use Rattle.model.specs.Panel.{Layout, Setup, Panel, panel_of, field_codes, good_layout, base, crane}
use Rattle.model.specs.Table.{ids}
use Rattle.model.specs.Frame.{rows_of, values_good, new_table}
use Rattle.model.specs.Sending.{body, changed_in}
use Rattle.model.specs.Reader.{following, Lost, Reader, read, ignoring, plus, run}
use Rattle.model.specs.States.{Writer}
use Rattle.model.specs.Calls.{writer_after, frame_events, most_events}
use Rattle.model.specs.Ranks.{live_count}
use Rattle.model.specs.Pointer.{unpointed, pointable, display, emulated, heard, with_pointer}
use Rattle.model.specs.Pointing.{Pointing, good_pointing, pointing_after, PointerState, pointer_good, pointer_events, pointer_after}

changed_by : (p : Panel) (w : Writer) (f : List ℤ) (on : Bool) (q : Pointing) → T (good_pointing on p w.table q)
    → length (emulated q.last (pointing_after on p w q f).last) ≡ changed_in (display q.last) (display (pointing_after on p w q f).last)
changed_by p w f false q g = ap length (emulated_self q.last) ∙ sym (changed_in_self (display q.last))
changed_by p w f true q g =
    one_each (live_count (ids w.table)) (live_count (ids (new_table w.counter (rows_of p f) w.table))) q.last (pointing_after true p w q f).last
    (touched p w.table q g) (record { touches = refl; tools = refl })

most_by : (p : Panel) (w : Writer) (f : List ℤ) (on : Bool) (q : Pointing) → T (good_pointing on p w.table q)
    → length (emulated q.last (pointing_after on p w q f).last) ≤ 4
most_by p w f false q g = omega (arith, ap length (emulated_self q.last))
most_by p w f true q g =
    at-most-four (live_count (ids w.table)) (live_count (ids (new_table w.counter (rows_of p f) w.table))) q.last (pointing_after true p w q f).last
    (touched p w.table q g) (record { touches = refl; tools = refl })

module _ (l : Layout) (s : PointerState) (f : List ℤ) (lay : T (good_layout l)) (good : T (pointer_good l s)) (vals : T (values_good (panel_of l s.base.setup) f)) where
  alone : (let p = panel_of l s.base.setup in let w = s.base.writer in
      body w.current w.table (new_table w.counter (rows_of p f) w.table) ≡ [] → s.pointing.last ≡ (pointer_after l s f).pointing.last)
  alone =
      let h = pointer_facts l s good in
      none-alone l s.base f lay (writer-state l s.base h.writer) vals s.on s.pointing h.pointing

  -- A frame with no contact event has no event at all.
  pub none-none : frame_events (panel_of l s.base.setup) s.base.writer f ≡ [] → pointer_events l s f ≡ []
  none-none e =
      let p = panel_of l s.base.setup in
      let w = s.base.writer in
      none-whole p w.current w.table (new_table w.counter (rows_of p f) w.table) s.pointing.last (pointer_after l s f).pointing.last alone e

  -- Any reader of any panel without the codes of ABS_X and ABS_Y, in any mode, ends with the same tables, current slot and mode as by the contact events alone.
  pub reads_same : (g : Panel) (r : Reader) → T (unpointed (field_codes g.fields))
      → read g r (pointer_events l s f) ≡ read g r (frame_events (panel_of l s.base.setup) s.base.writer f)
  reads_same g r n =
      let p = panel_of l s.base.setup in
      let w = s.base.writer in
      reads-alone g p w.current w.table (new_table w.counter (rows_of p f) w.table) s.pointing.last (pointer_after l s f).pointing.last r n alone

  -- Each changed number of the display is one event.
  pub each_changed : length (emulated s.pointing.last (pointer_after l s f).pointing.last) ≡ changed_in (display s.pointing.last) (display (pointer_after l s f).pointing.last)
  each_changed = changed_by (panel_of l s.base.setup) s.base.writer f s.on s.pointing (pointer_facts l s good).pointing

  -- At most four.
  pub four-most : length (emulated s.pointing.last (pointer_after l s f).pointing.last) ≤ 4
  four-most = most_by (panel_of l s.base.setup) s.base.writer f s.on s.pointing (pointer_facts l s good).pointing

  -- They are on top of the contact events.
  pub count_adds : length (pointer_events l s f) ≡ length (frame_events (panel_of l s.base.setup) s.base.writer f) + changed_in (display s.pointing.last) (display (pointer_after l s f).pointing.last)
  count_adds =
      let p = panel_of l s.base.setup in
      let w = s.base.writer in
      on_top p w.current w.table (new_table w.counter (rows_of p f) w.table) s.pointing.last (pointer_after l s f).pointing.last alone
      ∙ ap (λ n. length (frame_events p w f) + n) each_changed

  -- A panel of n slots with k numbers has 1 + kn + (n - 1) + 4 events at most.
  pub pointer_limit : (let n = s.base.setup.slots in length (pointer_events l s f) ≤ 1 + n * length (panel_of l s.base.setup).fields + (n - 1) + 4)
  pointer_limit =
      let p = panel_of l s.base.setup in
      let facts = writer-state l s.base (pointer_facts l s good).writer in
      let contact =
      event_limit p s.base.writer.current s.base.writer.table (writer_after p s.base.writer f).table facts.writer.below facts.writer.good
      (after_steady l s.base f lay facts vals).good in
      omega (arith, count_adds, four-most, each_changed, contact)

  -- So `most_events` and four whatever the setup.
  pub pointer_most : length (pointer_events l s f) ≤ most_events l + 4
  pointer_most = omega (arith, count_adds, four-most, each_changed, frame_limit l s.base f lay (pointer_facts l s good).writer vals)

  -- The state after a frame is well formed.
  pub after-good : T (pointer_good l (pointer_after l s f))
  after-good =
      let h = pointer_facts l s good in
      let facts = writer-state l s.base h.writer in
      facts_pointer l (pointer_after l s f)
      (record {
        writer = state-writer l _ (record { setup = facts.setup; writer = after_steady l s.base f lay facts vals });
        pointing = pointing_steady l s.base f lay facts vals s.on s.pointing h.pointing;
      })

  -- If it follows after the contact events, its run differs from theirs by the emulated events: each changed button is one more of an unknown type, a
  -- changed X or Y one more of an unknown code, and BTN_TOUCH is the first skipped where it is sent.
  pub runs_following : (g : Panel) (r : Reader) → T (unpointed (field_codes g.fields))
      → (let es = frame_events (panel_of l s.base.setup) s.base.writer f in
      (read g r es).mode ≡ following
      → run g r (pointer_events l s f) ≡ record { reader = (run g r es).reader; counts = with_pointer s.pointing.last (pointer_after l s f).pointing.last (run g r es).counts })
  unfolding run
  runs_following g r n e =
      let p = panel_of l s.base.setup in
      let w = s.base.writer in
      let new = new_table w.counter (rows_of p f) w.table in
      let q = s.pointing.last in
      let z = (pointer_after l s f).pointing.last in
      let a = touched_by s.on p w.table s.pointing (pointer_facts l s good).pointing in
      let b = touched_by s.on p new (pointer_after l s f).pointing (pointer_facts l (pointer_after l s f) after-good).pointing in
      ap₂ (λ x c. record { reader = x; counts = c }) (reads_same g r n)
      (counts_following g a.0 b.0 q z n a.1 b.1 p w.current w.table new r alone e)

  -- If it had lost track before, by the emulated events counted as ignored.
  pub runs_lost : (g : Panel) (r : Reader) → T (unpointed (field_codes g.fields)) → Lost r.mode
      → (let es = frame_events (panel_of l s.base.setup) s.base.writer f in
      run g r (pointer_events l s f) ≡ record { reader = (run g r es).reader; counts = plus (run g r es).counts (ignoring (changed_in (display s.pointing.last) (display (pointer_after l s f).pointing.last))) })
  unfolding run
  runs_lost g r n e =
      let p = panel_of l s.base.setup in
      let w = s.base.writer in
      let new = new_table w.counter (rows_of p f) w.table in
      ap₂ (λ a c. record { reader = a; counts = c }) (reads_same g r n)
      (counts_lost g p w.current w.table new s.pointing.last (pointer_after l s f).pointing.last r alone e
      ∙ ap (λ m. plus (run g r (frame_events p w f)).counts (ignoring m)) each_changed)

  -- A display that shows the numbers told last and hears the frame's events shows the new numbers.
  pub display-told : T (pointable l) → heard (display s.pointing.last) (pointer_events l s f) ≡ display (pointer_after l s f).pointing.last
  display-told able =
      let p = panel_of l s.base.setup in
      let w = s.base.writer in
      let new = new_table w.counter (rows_of p f) w.table in
      let was = pointer_facts l s good in
      let is = pointer_facts l (pointer_after l s f) after-good in
      let a = touched_by s.on p w.table s.pointing was.pointing in
      let b = touched_by s.on p new (pointer_after l s f).pointing is.pointing in
      whole-heard p w.current w.table new a.0 b.0 s.pointing.last (pointer_after l s f).pointing.last
      (panel-unpointed l s.base.setup able) (writer-state l s.base was.writer).writer.good
      (writer-state l (pointer_after l s f).base is.writer).writer.good a.1 b.1

-- ---- the product's layout

-- 228 events and 1,824 bytes at most.
pub base_pointer_most : (s : PointerState) (f : List ℤ) → T (pointer_good base s) → T (values_good (panel_of base s.base.setup) f)
    → length (pointer_events base s f) ≤ 228
base_pointer_most s f g v = pointer_most base s f tt g v

-- The cranes' reader has neither code.
pub crane-unpointed : (u : Setup) → T (unpointed (field_codes (panel_of crane u).fields))
crane-unpointed u = panel-unpointed crane u tt
