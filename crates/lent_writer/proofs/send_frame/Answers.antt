-- `lent_writer::send_frame` plans a frame in a copy of the table, and refuses it, hands the state back or sends it. Assumes nothing.
use mathlib.Core.Path.{◌≡◌, refl, sym, ap, ap₂, subst, ◌∙◌}
use mathlib.Core.Bool.{Bool, true, false, false≢true}
use mathlib.Core.List.{List, ◌++◌}
use Prim.Native.Nat.{ℕ, ◌+◌, ◌-◌, ◌*◌, ◌^◌, ◌≤◌}
use native.Mathlib.Omega.{arith}
use lib.Bits.{bit_and}
use lib.ListN.{length, drop, length-drop}
use lib.Seq.{length-take-le}
use borrow.Author.Tests.{eq-eqb, not-true, not-false}
use Rattle.model.specs.Panel.{base, per_slot, records}
use Rattle.model.specs.Records.{lay}
use Rattle.model.specs.Frame.{rows_from, values_good, framed}
use Rattle.model.specs.Sending.{last_opened, others_mask}
use Rattle.model.specs.Calls.{room_for}
use Rattle.model.specs.Pointer.{emulated}
use Rattle.model.specs.Pointing.{pointer_need, pointer_call, pointer_buffer}
use Rattle.common.specs.declared.Verdict.TheVariants.{NoRoom}
use Rattle.panel.specs.declared.Slot.{Slot}
use Rattle.panel.specs.declared.Setup.{Setup}
use Rattle.panel.specs.Seen.{table_of, panel_seen}
use Rattle.plan.specs.declared.Planned.{Planned}
use Rattle.tally.proofs.Told.{others-told, events-told}
use Rattle.pointer.specs.declared.Pointer.{Pointer}
use Rattle.pointer.specs.declared.Moved.{Moved}
use Rattle.pointer.specs.Seen.{pointer_of}
use Rattle.pointer.specs.Moved.{MovesBy}
use Rattle.send.specs.Sent.{bytes_sent, sent_by}
use Rattle.send.specs.Told.{touch_bytes, end_bytes}
use Rattle.writer.specs.declared.Written.{Written}
use Rattle.writer.specs.Seen.{seen, written_from, not_written_by, written_by, still_by, own_of, taken_by}
use Rattle.writer.proofs.States.{good-size, good-current}
use Rattle.writer.proofs.Accepted.{PlannedFrame, Known, moving, refused_by, room_whole, sent-whole}
use Rattle.writer.proofs.Quiet.{handed_back}
use Rattle.lent.specs.Lent.{table_size, table_in, table_bytes}
use Rattle.lent.proofs.Tables.{slots_length, table-length}
use Rattle.lent_plan.specs.InPlace.{PlansIn, with_table}
use Rattle.lent_plan.proofs.Unique.{verdict_of}
use Rattle.lent_writer.specs.Layout.{state_size, ranks_at}
use Rattle.lent_writer.specs.Seen.{unpacked, packed, told_of}
use Rattle.lent_writer.specs.InPlace.{table_part, MovesOn, Sends, changed_to}
use Rattle.lent_writer.proofs.Back.{packed_back, moved_in_place}
use Rattle.lent_writer.proofs.Outcomes.{table_is, part-size, table-full, promised, not-sent, handed, refused_as, ready_as, plans_are, last-small}
use borrow.Author.Rules.{rules}
use Rattle.lent_writer.proofs.send_frame.Goals.{After-counted-s, After-plan_frame-p}
use Rattle.lent_writer.proofs.send_frame.Goals as goal

-- ---- the plan

planned : (p : After-plan_frame-p) → (let a = p.args in let s = unpacked a.state.now in
    PlansIn (values_good (panel_seen s.setup) a.frame.now) s.setup.n s.table s.counter (framed s.counter (rows_from per_slot s.setup.n a.frame.now 0) (table_of s.table))
    p.plan_frame-p.result (table_in p.plan_frame-p.new.t))
planned p =
    let b = p.args.state.now in
    let new = table_in p.plan_frame-p.new.t in
    plans_are b p.args.frame.now _ _ (table_in (table_part b)) p.plan_frame-p.result new p.setup_at-setup.ensures p.word_at-counter.ensures (table_is b p.requires.bytes.size) p.plan_frame-p.ensures

values-are : (p : After-plan_frame-p) → p.plan_frame-p.result.good ≡ values_good (panel_seen (unpacked p.args.state.now).setup) p.args.frame.now
values-are p =
    let f = p.args.frame.now in
    let s = unpacked p.args.state.now in
    let all = framed s.counter (rows_from per_slot s.setup.n f 0) (table_of s.table) in
    verdict_of (values_good (panel_seen s.setup) f) s.setup.n s.table s.counter all p.plan_frame-p.result (table_in p.plan_frame-p.new.t) (planned p)

-- Where no row is bad.
frame-planned : (p : After-plan_frame-p) → p.plan_frame-p.result.good ≡ true → PlannedFrame (unpacked p.args.state.now) p.args.frame.now (with_table p.plan_frame-p.result (table_in p.plan_frame-p.new.t))
frame-planned p good =
    let s = unpacked p.args.state.now in
    let all = framed s.counter (rows_from per_slot s.setup.n p.args.frame.now 0) (table_of s.table) in
    let values = sym (values-are p) ∙ good in
    record {
      good = record { state = p.requires.good; size = p.requires.size; values = values };
      plans = subst (λ v. PlansIn v s.setup.n s.table s.counter all p.plan_frame-p.result (table_in p.plan_frame-p.new.t)) values (planned p);
      held = table-full p.args.state.now;
      made = slots_length records p.plan_frame-p.new.t 0;
    }

-- ---- what is told, of the plan's table

abbrev made : After-counted-s → Planned
made t = with_table t.plan_frame-p.result (table_in t.plan_frame-p.new.t)

abbrev KnownAt : After-counted-s → Type 0
KnownAt t = Known (unpacked t.args.state.now) t.args.frame.now (made t) t.counted-s.result.moved t.counted-s.result.others t.counted-s.result.events

known : (t : After-counted-s) → PlannedFrame (unpacked t.args.state.now) t.args.frame.now (made t) → KnownAt t
known t f =
    let s = unpacked t.args.state.now in
    let p = made t in
    let r = t.counted-s.result in
    let told = t.counted-s.ensures in
    let opened : r.others ≡ others_mask s.current.0 (table_of s.table) (table_of p.table) =
    told.others
    ∙ ap (λ c. p.changes.slots - bit_and p.changes.slots (2 ^ c)) told.current
    ∙ others-told s.table p.table s.current.0 s.setup.n p.changes f.plans.tells in
    let contact = events-told s.table p.table s.current.0 s.setup.n p.changes f.plans.tells r.others opened in
    record {
      frame = f;
      moves = told.moved;
      opened = opened;
      count = told.events ∙ ap₂ (λ a q. a + length (emulated (pointer_of q) (pointer_of r.moved.told))) contact told.told;
    }

-- What is sent, of the numbers as the code has them.
abbrev told-bytes : After-counted-s → List Slot → Pointer → ℕ → List ℕ
told-bytes t l q c =
    let z = t.counted-s.result.moved.told in
    (touch_bytes q z ++ bytes_sent (sent_by l (table_in t.plan_frame-p.new.t) t.counted-s.result.others c)) ++ end_bytes q z

bytes_are : (t : After-counted-s) → (let b = t.args.state.now in let s = unpacked b in let r = t.counted-s.result in
    told-bytes t (table_in (table_part b)) r.told r.current.0 ≡ told-bytes t s.table s.told s.current.0)
bytes_are t =
    let l = table_is t.args.state.now t.requires.bytes.size in
    let q = t.counted-s.ensures.told in
    let c = t.counted-s.ensures.current in
    λ i. told-bytes t (l i) (q i) (c i)

-- The answer, where r is the slot last written.
abbrev answer : After-counted-s → ℕ → Written
answer t r =
    let s = unpacked t.args.state.now in
    let p = made t in
    taken_by p.table t.counted-s.result.moved (own_of s.setup (record { 0 = r }) p.counter s.pointer) t.counted-s.result.events p.changes.slots

sent : (t : After-counted-s) → KnownAt t → room_for (8 * t.counted-s.result.events) t.args.at (length t.args.buf.now) ≡ true → (t.counted-s.result.events ≡ 0 → ⊥)
    → (r : ℕ) (b : List ℕ) → (let a = t.args in let s = seen (unpacked a.state.now) in
    Sends a.at (table_in (table_part a.state.now)) (table_in t.plan_frame-p.new.t) t.counted-s.result a.buf.now r b
    → (answer t r ≡ written_from (pointer_call base s a.frame.now a.at (length a.buf.now))) × (b ≡ pointer_buffer base s a.frame.now a.at a.buf.now))
sent t k room some r b h =
    let a = t.args in
    let new = table_in t.plan_frame-p.new.t in
    let c = t.counted-s.ensures.current in
    let l = table_is a.state.now t.requires.bytes.size in
    let opened = h.last ∙ (λ i. last_opened (c i) (sent_by (l i) new t.counted-s.result.others (c i))) in
    sent-whole k a.at a.buf.now room some r b opened (h.bytes ∙ ap (λ x. lay a.at x a.buf.now) (bytes_are t))

-- ---- what is stored

-- With the option off nothing moved.
still : (on : Bool) (old new : List Slot) (rs : List ℕ) (q : Pointer) (m : Moved) → MovesBy on old new rs q m → on ≡ false → m ≡ record { ranks = rs; told = q }
still true old new rs q m h e = absurd (false≢true (sym e))
still false old new rs q m h e = h

ranks-long : (b : List ℕ) → length b ≡ state_size → length (unpacked b).ranks ≡ records
ranks-long b e = length-take-le records (drop ranks_at b) (omega (arith, length-drop ranks_at b, e))

-- ---- the needs

pub plan_frame-p-requires : goal.plan_frame-p-requires
plan_frame-p-requires c =
    let b = c.args.state.now in
    let size = c.requires.bytes.size in
    record {
      ready = ready_as b c.args.frame.now c.args.from c.requires _ _ (table_in (table_part b)) c.setup_at-setup.ensures c.word_at-counter.ensures (table_is b size);
      old_size = part-size b size;
      size = ap length c.copy_of-new.ensures ∙ part-size b size;
      copied = ap table_in c.copy_of-new.ensures;
    }

pub returns-then-not-p : goal.returns-then-not-p
returns-then-not-p c =
    let a = c.args in
    let b = a.state.now in
    let s = unpacked b in
    let v : values_good (panel_seen s.setup) a.frame.now ≡ false = sym (values-are (goal.at.returns-then-not-p c).After-plan_frame-p) ∙ not-true c.plan_frame-p.result.good c.if-not-p.true in
    let room = room_for (pointer_need base (seen s) a.frame.now) a.at (length a.buf.now) in
    refused_as b a.frame.now a.at a.buf.now c.requires.bytes.formed true true false room c.requires.good (eq-eqb (length a.frame.now) (per_slot * s.setup.n) c.requires.size) v refl refl
    c.unsent.result c.unsent.new.answer c.unsent.ensures.0 c.unsent.ensures.1

pub counted-s-requires : goal.counted-s-requires
counted-s-requires c =
    let s = unpacked c.args.state.now in
    let p = c.plan_frame-p in
    let f = frame-planned (goal.at.counted-s-requires c).After-plan_frame-p (not-false p.result.good c.if-not-p.false) in
    record {
      size = c.requires.bytes.size;
      whole = search rules;
      moves = subst (λ (u : Setup). MovesOn c.args.state.now p.new.t u.n p.result.changes.slots) (sym c.setup_at-setup.ensures) (moving f);
      current = good-current s c.requires.good;
      few = omega (arith, f.plans.tells.before.numbers, good-size s c.requires.good);
    }

pub returns-then-not-has_room : goal.returns-then-not-has_room
returns-then-not-has_room c =
    let a = c.args in
    let b = a.state.now in
    let form = c.requires.bytes.formed in
    let f = frame-planned (goal.at.returns-then-not-has_room c).After-plan_frame-p (not-false c.plan_frame-p.result.good c.if-not-p.false) in
    let k = known (goal.at.returns-then-not-has_room c).After-counted-s f in
    let need = 8 * c.counted-s.result.events in
    let u = c.unsent-then-not-has_room in
    promised b a.frame.now a.at a.buf.now form (not_written_by NoRoom (unpacked b) need) u.result b u.new.answer a.buf.now
    (refused_by k a.at a.buf.now (sym c.has_room.ensures ∙ c.if-not-has_room.true))
    (not-sent b a.frame.now a.at a.buf.now form NoRoom need u.result u.new.answer refl u.ensures.0 u.ensures.1)

pub returns-then-events-eq0 : goal.returns-then-events-eq0
returns-then-events-eq0 c =
    let a = c.args in
    let b = a.state.now in
    let form = c.requires.bytes.formed in
    let none = c.if-events-eq0.true in
    let f = frame-planned (goal.at.returns-then-events-eq0 c).After-plan_frame-p (not-false c.plan_frame-p.result.good c.if-not-p.false) in
    let k = known (goal.at.returns-then-events-eq0 c).After-counted-s f in
    let roomy = sym c.has_room.ensures ∙ c.if-not-has_room.false in
    let back = handed_back k none a.at a.buf.now roomy in
    let room = sym (ap (λ n. room_for (8 * n) a.at (length a.buf.now)) none) ∙ roomy in
    let same = packed_back b c.slice_known-1.given form in
    let u = c.unsent-then-events-eq0 in
    promised b a.frame.now a.at a.buf.now form (written_by (unpacked b) 0 0) u.result b u.new.answer a.buf.now
    (sym (ap (still_by (unpacked b)) room) ∙ back.0, back.1)
    (handed b a.frame.now a.at a.buf.now form same u.result u.new.answer u.ensures)

pub send_all-last-requires : goal.send_all-last-requires
send_all-last-requires c =
    let a = c.args in
    let s = unpacked a.state.now in
    let t = (goal.at.send_all-last-requires c).After-counted-s in
    let f = frame-planned (goal.at.send_all-last-requires c).After-plan_frame-p (not-false c.plan_frame-p.result.good c.if-not-p.false) in
    let roomy = sym c.has_room.ensures ∙ c.if-not-has_room.false in (
      omega (arith, c.counted-s.ensures.current, good-current s c.requires.good),
      part-size a.state.now c.requires.bytes.size,
      search rules,
      subst (λ l. a.at + length l ≤ length a.buf.now) (sym (bytes_are t)) (room_whole (known t f) a.at a.buf.now roomy c.if-events-eq0.false),
    )

pub store-requires : goal.store-requires
store-requires c =
    let a = c.args in
    let s = unpacked a.state.now in
    let t = (goal.at.store-requires c).After-counted-s in
    let f = frame-planned (goal.at.store-requires c).After-plan_frame-p (not-false c.plan_frame-p.result.good c.if-not-p.false) in
    let roomy = sym c.has_room.ensures ∙ c.if-not-has_room.false in
    let last = c.send_all-last in
    let all = sent t (known t f) roomy c.if-events-eq0.false last.result.0 last.new.b last.ensures in (
      record { formed = c.requires.bytes.formed; size = c.requires.bytes.size; whole = search rules; told = f.plans.tells.slots },
      last-small s a.frame.now a.at a.buf.now (answer t last.result.0) all.0 refl,
    )

pub returns : goal.returns
returns c =
    let a = c.args in
    let b = a.state.now in
    let s = unpacked b in
    let t = (goal.at.returns c).After-counted-s in
    let p = c.plan_frame-p in
    let f = frame-planned (goal.at.returns c).After-plan_frame-p (not-false p.result.good c.if-not-p.false) in
    let roomy = sym c.has_room.ensures ∙ c.if-not-has_room.false in
    let last = c.send_all-last in
    let all = sent t (known t f) roomy c.if-events-eq0.false last.result.0 last.new.b last.ensures in
    let w = answer t last.result.0 in
    -- the state with all that was stored
    let changed = changed_to s (table_in p.new.t) last.result.0 p.result.counter in
    let full : length changed.table ≡ records = slots_length records p.new.t 0 in
    let size : length (table_bytes changed.table) ≡ table_size = omega (arith, table-length changed.table, full) in
    let m = c.counted-s.result.moved in
    let off = still s.pointer s.table changed.table s.ranks s.told m c.counted-s.ensures.moved in
    let stored : c.store_moved.new.b ≡ packed w.state =
    c.store_moved.ensures ∙ moved_in_place changed m size (ranks-long b c.requires.bytes.size) c.counted-s.ensures.ranked c.store.new.b c.store.ensures off in
    promised b a.frame.now a.at a.buf.now c.requires.bytes.formed w 0 c.store_moved.new.b (told_of w) last.new.b all (record { number = refl; state = stored; answer = refl })
