-- What becomes of a good frame of a good state: refused for want of room, or written. Cited by the proof of `write`. Assumes nothing.
use mathlib.Core.Path.{◌≡◌, sym, ap, ap₂, ◌∙◌, subst}
use mathlib.Core.Bool.{Bool, true, false}
use mathlib.Core.List.{List, [], ◌++◌}
use Prim.Native.Nat.{ℕ, ◌<◌, ◌≤◌, ◌+◌, ◌-◌, ◌*◌}
use native.Mathlib.Omega.{arith}
use lib.Dec.{T, leb, leb→le}
use lib.IntN.{ℤ}
use lib.ListN.{length, length-append, length-map}
use borrow.Author.Tests.{eq-eqb}
use Rattle.model.specs.Panel.{base, per_slot, records}
use Rattle.model.specs.Panel as M
use Rattle.model.specs.Table.{Table, ids, good_table}
use Rattle.model.specs.Records.{bytes_of, lay}
use Rattle.model.specs.Frame as F
use Rattle.model.specs.Frame.{rows_of, sized, values_good, framed, new_table, new_counter}
use Rattle.model.specs.Sending.{last_opened, current_after, changed_mask, others_mask, fewest}
use Rattle.model.specs.Calls as C
use Rattle.model.specs.Calls.{frame_events, room_for}
use Rattle.model.specs.Ranks.{good_ranks, fates, ranks_after}
use Rattle.model.specs.Pointer.{pointed, emulated, whole_events}
use Rattle.model.specs.Pointing.{Pointing, good_pointing, pointer_good, pointing_after, pointer_events, pointer_need, pointer_taken, pointer_call, pointer_buffer}
use Rattle.model.proofs.Bools.{holds, both_left, both_right}
use Rattle.model.proofs.Bytes.{bytes-length}
use Rattle.model.proofs.Calls.{after_steady, frame-count}
use Rattle.model.proofs.Instances.{base-good}
use Rattle.model.proofs.Pointing.{on_facts, pointing_steady}
use Rattle.model.proofs.PointerFrame.{each_changed, count_adds}
use Rattle.common.specs.declared.Verdict.TheVariants.{NoRoom}
use Rattle.panel.specs.Seen.{slot_of, table_of, table_from, panel_seen}
use Rattle.panel.proofs.Back.{table_back}
use Rattle.panel.proofs.Tables.{table-rest}
use Rattle.records.proofs.Over.{lay_nil, lay-lay, lay-length}
use Rattle.plan.specs.declared.Planned.{Planned}
use Rattle.plan.specs.Walk.{Plans}
use Rattle.pointer.specs.declared.Moved.{Moved}
use Rattle.pointer.specs.Seen.{pointer_of, pointer_from, pointing_of, fates_by}
use Rattle.pointer.specs.Moved.{ranks_by, MovingIf, MovesBy, StillIf}
use Rattle.pointer.proofs.Fates.{fates_are}
use Rattle.send.specs.declared.Reached.{Reached}
use Rattle.send.specs.Sent.{bytes_sent, sent_by, Reaches}
use Rattle.send.specs.Told.{touch_bytes, end_bytes}
use Rattle.writer.specs.declared.WriterState.{WriterState}
use Rattle.writer.specs.declared.Written.{Written}
use Rattle.writer.specs.declared.Own.{Own}
use Rattle.writer.specs.Seen.{plain, seen, written_from, not_written_by, written_by, last_of, taken_by}
use Rattle.writer.proofs.States.{good_facts, good-pointing, good-size, good-rest, good-current, good-counter}
use Rattle.writer.proofs.Outcome.{answer_by, buffer_by, refusal_is}
use Rattle.writer.proofs.Events.{none-sent, no_events, last-is, frame-bytes}

-- A good frame of a good state: all tests but that of the room have passed.
pub record GoodFrame (s : WriterState) (frame : List ℤ) : Type 0 where
  pub state : pointer_good base (seen s) ≡ true
  pub size : length frame ≡ per_slot * s.setup.n
  pub values : values_good (panel_seen s.setup) frame ≡ true

-- And its plan.
pub record PlannedFrame (s : WriterState) (f : List ℤ) (p : Planned) : Type 0 where
  pub good : GoodFrame s f
  pub plans : Plans s.setup.n s.table (framed s.counter (rows_of (panel_seen s.setup) f) (table_of s.table)) p
  pub held : length s.table ≡ records
  pub made : length p.table ≡ records

-- ---- ranks and what is told

module _ {s : WriterState} {f : List ℤ} {p : Planned} (k : PlannedFrame s f p) where
  abbrev rows : List (List ℤ)
  rows = rows_of (panel_seen s.setup) f

  pub new_is : table_of p.table ≡ new_table s.counter rows (table_of s.table)
  new_is = ap (λ (q : F.Planned). q.table) k.plans.plan

  pub counter-is : p.counter ≡ new_counter s.counter rows (table_of s.table)
  counter-is = ap (λ (q : F.Planned). q.counter) k.plans.plan

  -- What becomes of each record is told by the ids.
  fates-told : fates_by (ids (table_of s.table)) (ids (table_of p.table)) ≡ fates rows (table_of s.table)
  fates-told =
      ap (λ t. fates_by (ids (table_of s.table)) (ids t)) new_is
      ∙ fates_are s.counter rows (table_of s.table) (good-counter s k.good.state) (omega (arith, k.held, length-map s.table slot_of))

  ranks-told : ranks_by s.table p.table s.ranks ≡ ranks_after (fates rows (table_of s.table)) s.ranks
  ranks-told = ap (λ fs. ranks_after fs s.ranks) fates-told

  -- Before and after the frame the ranks are good, where the option is on.
  pub moving : MovingIf s.pointer s.setup.n s.table p.table p.changes.slots (last_of s)
  moving = by s.pointer (good-pointing s k.good.state)
    where
      by : (b : Bool) → T (good_pointing b (panel_seen s.setup) (table_of s.table) (pointing_of s.ranks s.told)) → MovingIf b s.setup.n s.table p.table p.changes.slots (last_of s)
      by false g = tt
      by true g =
          let now = on_facts (panel_seen s.setup) (table_of s.table) (pointing_of s.ranks s.told) g in
          let steady = pointing_steady base (plain s) f base-good (good_facts s k.good.state) (holds _ k.good.values) true (pointing_of s.ranks s.told) g in
          let later = on_facts (panel_seen s.setup) (new_table s.counter rows (table_of s.table)) (pointing_after true (panel_seen s.setup) (plain s).writer (pointing_of s.ranks s.told) f) steady in
          record {
            held = record { few = good-size s k.good.state; rest = good-rest s k.good.state };
            made = record { few = good-size s k.good.state; rest = table-rest s.setup p.table (subst (λ t. T (good_table (panel_seen s.setup) t)) (sym new_is) (after_steady base (plain s) f base-good (good_facts s k.good.state) (holds _ k.good.values)).good) };
            before = now.ranked;
            after = subst (λ r. T (good_ranks (ids (table_of p.table)) r)) (sym ranks-told) (subst (λ t. T (good_ranks (ids t) (ranks_after (fates rows (table_of s.table)) s.ranks))) (sym new_is) later.ranked);
            changed = k.plans.tells.slots;
            shown = now.given;
          }

  -- With the option off the display stays as it was told.
  pub stays-told : (m : Moved) → MovesBy s.pointer s.table p.table s.ranks s.told m → StillIf s.pointer (pointer_of s.told) (pointer_of m.told)
  stays-told m h = by s.pointer h
    where
      by : (b : Bool) → MovesBy b s.table p.table s.ranks s.told m → StillIf b (pointer_of s.told) (pointer_of m.told)
      by false h = sym (ap (λ (x : Moved). pointer_of x.told) h)
      by true h = tt

  -- What moved is what the model's frame makes of it.
  pub moved-is : (m : Moved) → MovesBy s.pointer s.table p.table s.ranks s.told m
      → pointing_of m.ranks m.told ≡ pointing_after s.pointer (panel_seen s.setup) (plain s).writer (pointing_of s.ranks s.told) f
  moved-is m h = by s.pointer h
    where
      by : (b : Bool) → MovesBy b s.table p.table s.ranks s.told m
          → pointing_of m.ranks m.told ≡ pointing_after b (panel_seen s.setup) (plain s).writer (pointing_of s.ranks s.told) f
      by false h = ap (λ (x : Moved). pointing_of x.ranks x.told) h
      by true h =
          let rs = h.ranks ∙ ranks-told in
          ◌∙◌ {A = Pointing} (λ i. record { ranks = m.ranks; last = h.told i })
          (λ i. record { ranks = rs i; last = pointed (new_is i) (rs i) (pointer_of s.told) })

-- What is known of a good frame f of the state s once p is planned and m moved, and the changed slots other than the current one and the events are counted.
pub record Known (s : WriterState) (f : List ℤ) (p : Planned) (m : Moved) (others events : ℕ) : Type 0 where
  pub frame : PlannedFrame s f p
  pub moves : MovesBy s.pointer s.table p.table s.ranks s.told m
  pub opened : others ≡ others_mask s.current.0 (table_of s.table) (table_of p.table)
  pub count : events ≡ fewest s.current.0 (table_of s.table) (table_of p.table) + length (emulated (pointer_of s.told) (pointer_of m.told))

lay-none : (at : ℕ) (buf : List ℕ) → lay at (bytes_of []) buf ≡ buf
unfolding bytes_of
lay-none at buf = lay_nil at buf

module _ {s : WriterState} {f : List ℤ} {p : Planned} {m : Moved} {others events : ℕ} (k : Known s f p m others events) (at : ℕ) (buf : List ℕ) where
  abbrev panel : M.Panel
  panel = panel_seen s.setup

  abbrev old : Table
  old = table_of s.table

  abbrev new : Table
  new = table_of p.table

  abbrev current : ℕ
  current = s.current.0

  -- The changed slots, as they are told.
  abbrev changed : ℕ
  changed = p.changes.slots

  -- The answer and the buffer that the model gives.
  abbrev Promised : Written → List ℕ → Type 0
  Promised r b = (r ≡ written_from (pointer_call base (seen s) f at (length buf))) × (b ≡ pointer_buffer base (seen s) f at buf)

  whole : sized panel f ≡ true
  whole = eq-eqb (length f) (per_slot * s.setup.n) k.frame.good.size

  told_is : pointing_of m.ranks m.told ≡ pointing_after s.pointer panel (plain s).writer (pointing_of s.ranks s.told) f
  told_is = moved-is k.frame m k.moves

  -- ---- how many events

  count-is : events ≡ length (pointer_events base (seen s) f)
  count-is =
      let good = holds _ k.frame.good.state in
      let vals = holds _ k.frame.good.values in
      let contact = frame-count base (plain s) f in
      let same = ap (fewest current old) (new_is k.frame) in
      let told = ap (λ (x : Pointing). length (emulated (pointer_of s.told) x.last)) told_is in
      omega (arith, k.count, contact, same, told, each_changed base (seen s) f base-good good vals, count_adds base (seen s) f base-good good vals)

  pub need-is : 8 * events ≡ pointer_need base (seen s) f
  need-is = ap (λ n. 8 * n) count-is

  -- ---- no room

  pub refused_by : room_for (8 * events) at (length buf) ≡ false → Promised (not_written_by NoRoom s (8 * events)) buf
  refused_by h =
      let e = sym (ap (λ n. room_for n at (length buf)) need-is) ∙ h in
      let g = k.frame.good in
      let answer = answer_by base (seen s) f at buf true true true false g.state whole g.values e in (
        ap (not_written_by NoRoom s) need-is ∙ refusal_is C.no_room s (pointer_need base (seen s) f) ∙ ap written_from (sym answer),
        sym (buffer_by base (seen s) f at buf true true true false g.state whole g.values e),
      )

  -- ---- written

  -- What is left of the state, where the slot last written is `last`.
  abbrev own : ℕ → Own
  own last = record { setup = s.setup; current = record { 0 = last }; counter = p.counter; pointer = s.pointer }

  taken_is : (last : ℕ) → last ≡ current_after current old new → taken_by p.table m (own last) events changed ≡ written_from (pointer_taken base (seen s) f)
  taken_is last e =
      let t = sym (table_back p.table) ∙ ap table_from (new_is k.frame) in
      let l = e ∙ ap (current_after current old) (new_is k.frame) in
      let c = k.frame.plans.tells.slots ∙ ap (changed_mask old) (new_is k.frame) in
      let n = counter-is k.frame in
      λ i. written_by (record { table = t i; ranks = (told_is i).ranks; setup = s.setup; current = record { 0 = l i }; counter = n i; told = pointer_from (told_is i).last; pointer = s.pointer }) (count-is i) (c i)

  module _ (roomy : room_for (8 * events) at (length buf) ≡ true) where
    written : (last : ℕ) (b : List ℕ) → last ≡ current_after current old new → b ≡ lay at (bytes_of (pointer_events base (seen s) f)) buf
        → Promised (taken_by p.table m (own last) events changed) b
    written last b el eb =
        let e = sym (ap (λ n. room_for n at (length buf)) need-is) ∙ roomy in
        let g = k.frame.good in
        let answer = answer_by base (seen s) f at buf true true true true g.state whole g.values e in (
          taken_is last el ∙ ap written_from (sym answer),
          eb ∙ sym (buffer_by base (seen s) f at buf true true true true g.state whole g.values e),
        )

    -- Nothing changed.
    pub quiet : events ≡ 0 → Promised (taken_by p.table m (own current) events changed) buf
    quiet e =
        let none = none-sent s.table p.table current (omega (arith, k.count, e)) in
        let empty = no_events (pointer_events base (seen s) f) (sym count-is ∙ e) in
        written current buf (sym (ap (last_opened current) none)) (sym (ap (λ es. lay at (bytes_of es) buf) empty ∙ lay-none at buf))

    -- Something changed: BTN_TOUCH, the contact events, and the rest with the report.
    module _ (n : events ≡ 0 → ⊥) where
      abbrev touch : List ℕ
      touch = touch_bytes s.told m.told

      abbrev slots : List ℕ
      slots = bytes_sent (sent_by s.table p.table others current)

      abbrev end : List ℕ
      end = end_bytes s.told m.told

      below : current < records
      below = good-current s k.frame.good.state

      bytes_are : bytes_of (pointer_events base (seen s) f) ≡ (touch ++ slots) ++ end
      bytes_are =
          let events-are = sym (λ i. whole_events panel current old (new_is k.frame i) (pointer_of s.told) (told_is i).last) in
          frame-bytes s.table p.table k.frame.held k.frame.made current below others k.opened s.setup s.told m.told
          (pointer_events base (seen s) f) events-are (λ e. n (count-is ∙ e))

      room : at + length touch + length slots + length end ≤ length buf
      room =
          let has = holds (room_for (8 * events) at (length buf)) roomy in
          let inside = leb→le at (length buf) (both_left (leb at (length buf)) _ has) in
          let enough = leb→le (8 * events) (length buf - at) (both_right (leb at (length buf)) _ has) in
          let size = sym (ap length bytes_are) ∙ bytes-length (pointer_events base (seen s) f) in
          omega (arith, inside, enough, size, count-is, length-append (touch ++ slots) end, length-append touch slots)

      -- All of it as one run of bytes: it has room, and once it is laid the frame is written.
      pub room_whole : at + length ((touch ++ slots) ++ end) ≤ length buf
      room_whole = omega (arith, room, length-append (touch ++ slots) end, length-append touch slots)

      pub sent-whole : (last : ℕ) (b : List ℕ) → last ≡ last_opened current (sent_by s.table p.table others current) → b ≡ lay at ((touch ++ slots) ++ end) buf
          → Promised (taken_by p.table m (own last) events changed) b
      sent-whole last b el eb =
          let opened = last-is s.table p.table k.frame.held k.frame.made current below others k.opened in
          written last b (el ∙ opened) (eb ∙ ap (λ bs. lay at bs buf) (sym bytes_are))

      -- Part by part.
      pub fits-touch : at + length touch ≤ length buf
      fits-touch = omega (arith, room)

      module _ (from : ℕ) (b₁ : List ℕ) (ef : from ≡ at + length touch) (e₁ : b₁ ≡ lay at touch buf) where
        first-length : length b₁ ≡ length buf
        first-length = ap length e₁ ∙ lay-length at touch buf fits-touch

        pub fits-slots : from + length slots ≤ length b₁
        fits-slots = omega (arith, room, first-length)

        module _ (r : Reached) (b₂ : List ℕ) (h : Reaches from s.table p.table others current b₁ r b₂) where
          second-length : length b₂ ≡ length buf
          second-length = ap length h.bytes ∙ lay-length from slots b₁ fits-slots ∙ first-length

          pub fits_end : r.end + length end ≤ length b₂
          fits_end = omega (arith, room, second-length, h.ends)

          pub same_size : (b₃ : List ℕ) → b₃ ≡ lay r.end end b₂ → length b₃ ≡ length buf
          same_size b₃ e₃ = ap length e₃ ∙ lay-length r.end end b₂ fits_end ∙ second-length

          pub sent : (b₃ : List ℕ) → b₃ ≡ lay r.end end b₂ → Promised (taken_by p.table m (own r.last.0) events changed) b₃
          sent b₃ e₃ =
              let two : b₂ ≡ lay at (touch ++ slots) buf = h.bytes ∙ ap₂ (λ x b. lay x slots b) ef e₁ ∙ lay-lay at touch slots buf fits-touch in
              let ends : r.end ≡ at + length (touch ++ slots) = omega (arith, h.ends, length-append touch slots) in
              let three = e₃ ∙ ap₂ (λ x b. lay x end b) ends two ∙ lay-lay at (touch ++ slots) end buf (omega (arith, room, length-append touch slots)) in
              sent-whole r.last.0 b₃ h.last three
