-- `writer::write` answers as the model's call does, refusal by refusal, and writes a good frame that has room. Assumes nothing.
use mathlib.Core.Path.{◌≡◌, refl, sym, ap, ap₂, subst, ◌∙◌}
use mathlib.Core.Bool.{true, false}
use Prim.Native.Nat.{ℕ, ◌<◌, ◌+◌, ◌*◌}
use native.Mathlib.Omega.{arith}
use lib.ListN.{length}
use borrow.Author.Tests.{eq-eqb, ne_eqb, not-true, not-false}
use Rattle.model.specs.Panel.{base, per_slot, records}
use Rattle.model.specs.Frame.{rows_from, sized, values_good, framed}
use Rattle.model.specs.Calls as C
use Rattle.model.specs.Calls.{room_for}
use Rattle.model.specs.Pointing.{pointer_good, pointer_need}
use Rattle.panel.specs.Seen.{table_of, panel_seen}
use Rattle.panel.proofs.Tables.{unmapped}
use Rattle.plan.specs.Quiet.{QuietAt}
use Rattle.plan.specs.Walk.{Given, Plans, PlansBy}
use Rattle.plan.proofs.Unique.{verdict_of}
use Rattle.pointer.specs.declared.Moved.{Moved}
use Rattle.pointer.specs.Moved.{MovingIf, MovesBy}
use Rattle.tally.proofs.Told.{others-told, events-told}
use Rattle.writer.specs.Seen.{seen, written_from, with_last, taken_by}
use Rattle.writer.proofs.States.{good-setup, good-size, good-slots, good-current, good-counter}
use Rattle.writer.proofs.Outcome.{answer_by, buffer_by, refusal_is}
use Rattle.writer.proofs.Accepted.{GoodFrame, PlannedFrame, Known, moving, refused_by, fits-touch, fits-slots, fits_end, sent}
use Rattle.writer.proofs.Quiet.{handed_back, still}
use borrow.Author.Rules.{rules}
use Rattle.writer.proofs.write.Goals.{After-emulated, After-first_loud-from, After-move_on-moved, After-plan_frame-p, Else-frame-setup, Else-not-has_room, Else-not-p, Else-not-state_ok, Start}
use Rattle.writer.proofs.write.Goals as goal

state-good : (c : Else-not-state_ok) → pointer_good base (seen c.args.state) ≡ true
state-good c = sym c.state_ok.ensures ∙ c.if-not-state_ok.false

state-good-at-After-first_loud-from : (c : After-first_loud-from) → pointer_good base (seen c.args.state) ≡ true
state-good-at-After-first_loud-from c = sym c.state_ok.ensures ∙ c.if-not-state_ok.false

state-good-at-Else-not-p : (c : Else-not-p) → pointer_good base (seen c.args.state) ≡ true
state-good-at-Else-not-p c = sym c.state_ok.ensures ∙ c.if-not-state_ok.false

state-good-at-After-emulated : (c : After-emulated) → pointer_good base (seen c.args.state) ≡ true
state-good-at-After-emulated c = sym c.state_ok.ensures ∙ c.if-not-state_ok.false

frame-whole : (c : Else-frame-setup) → (sized (panel_seen c.args.state.setup) c.args.frame.now) ≡ true
frame-whole c = eq-eqb _ _ c.if-frame-setup.false

held-full-at-After-first_loud-from : (s : After-first_loud-from) → length s.args.state.table ≡ records
held-full-at-After-first_loud-from s = search (rules, unmapped)

held-full : (s : Start) → length s.args.state.table ≡ records
held-full s = search (rules, unmapped)

held-full-at-Else-not-p : (s : Else-not-p) → length s.args.state.table ≡ records
held-full-at-Else-not-p s = search (rules, unmapped)

held-full-at-After-emulated : (s : After-emulated) → length s.args.state.table ≡ records
held-full-at-After-emulated s = search (rules, unmapped)

good-state : (q : After-first_loud-from) → pointer_good base (seen q.args.state) ≡ true
good-state q = state-good-at-After-first_loud-from q

good-state-at-Else-not-p : (q : Else-not-p) → pointer_good base (seen q.args.state) ≡ true
good-state-at-Else-not-p q = state-good-at-Else-not-p q

good-state-at-After-emulated : (q : After-emulated) → pointer_good base (seen q.args.state) ≡ true
good-state-at-After-emulated q = state-good-at-After-emulated q

given : (q : After-first_loud-from) → (let s = q in Given s.args.state.setup s.args.state.table s.args.state.counter s.args.frame.now)
given q =
    let s = q in
    let g = good-state q in
    record { setup = good-setup s.args.state g; slots = good-slots s.args.state g (held-full-at-After-first_loud-from s); counts = good-counter s.args.state g; size = q.if-frame-setup.false }

made-full-at-Else-not-p : (p : Else-not-p) → length p.plan_frame-p.result.table ≡ records
made-full-at-Else-not-p p = search (rules, unmapped)

made-full-at-After-emulated : (p : After-emulated) → length p.plan_frame-p.result.table ≡ records
made-full-at-After-emulated p = search (rules, unmapped)

-- Whether it is good says whether the frame's values are.
values-are : (p : After-plan_frame-p) → p.plan_frame-p.result.good ≡ (values_good (panel_seen p.args.state.setup) p.args.frame.now)
values-are p =
    let s = p in
    verdict_of (values_good (panel_seen s.args.state.setup) s.args.frame.now) s.args.state.setup.n s.args.state.table s.args.state.counter (framed s.args.state.counter (rows_from per_slot s.args.state.setup.n s.args.frame.now 0) (table_of s.args.state.table)) p.plan_frame-p.result p.plan_frame-p.ensures

values-are-at-Else-not-p : (p : Else-not-p) → p.plan_frame-p.result.good ≡ (values_good (panel_seen p.args.state.setup) p.args.frame.now)
values-are-at-Else-not-p p =
    let s = p in
    verdict_of (values_good (panel_seen s.args.state.setup) s.args.frame.now) s.args.state.setup.n s.args.state.table s.args.state.counter (framed s.args.state.counter (rows_from per_slot s.args.state.setup.n s.args.frame.now 0) (table_of s.args.state.table)) p.plan_frame-p.result p.plan_frame-p.ensures

values-are-at-After-emulated : (p : After-emulated) → p.plan_frame-p.result.good ≡ (values_good (panel_seen p.args.state.setup) p.args.frame.now)
values-are-at-After-emulated p =
    let s = p in
    verdict_of (values_good (panel_seen s.args.state.setup) s.args.frame.now) s.args.state.setup.n s.args.state.table s.args.state.counter (framed s.args.state.counter (rows_from per_slot s.args.state.setup.n s.args.frame.now 0) (table_of s.args.state.table)) p.plan_frame-p.result p.plan_frame-p.ensures

values-good : (c : Else-not-p) → (values_good (panel_seen c.args.state.setup) c.args.frame.now) ≡ true
values-good c = sym (values-are-at-Else-not-p c) ∙ not-false c.plan_frame-p.result.good c.if-not-p.false

values-good-at-After-emulated : (c : After-emulated) → (values_good (panel_seen c.args.state.setup) c.args.frame.now) ≡ true
values-good-at-After-emulated c = sym (values-are-at-After-emulated c) ∙ not-false c.plan_frame-p.result.good c.if-not-p.false

plans : (c : Else-not-p) → (let p = c in let s = p in
    Plans s.args.state.setup.n s.args.state.table (framed s.args.state.counter (rows_from per_slot s.args.state.setup.n s.args.frame.now 0) (table_of s.args.state.table)) p.plan_frame-p.result)
plans c =
    let p = c in
    let s = p in
    subst (λ v. PlansBy v s.args.state.setup.n s.args.state.table s.args.state.counter (framed s.args.state.counter (rows_from per_slot s.args.state.setup.n s.args.frame.now 0) (table_of s.args.state.table)) p.plan_frame-p.result) (values-good c) p.plan_frame-p.ensures

plans-at-After-emulated : (c : After-emulated) → (let p = c in let s = p in
    Plans s.args.state.setup.n s.args.state.table (framed s.args.state.counter (rows_from per_slot s.args.state.setup.n s.args.frame.now 0) (table_of s.args.state.table)) p.plan_frame-p.result)
plans-at-After-emulated c =
    let p = c in
    let s = p in
    subst (λ v. PlansBy v s.args.state.setup.n s.args.state.table s.args.state.counter (framed s.args.state.counter (rows_from per_slot s.args.state.setup.n s.args.frame.now 0) (table_of s.args.state.table)) p.plan_frame-p.result) (values-good-at-After-emulated c) p.plan_frame-p.ensures

good : (c : Else-not-p) → GoodFrame c.args.state c.args.frame.now
good c =
    let q = c in
    record { state = good-state-at-Else-not-p q; size = q.if-frame-setup.false; values = values-good c }

good-at-After-emulated : (c : After-emulated) → GoodFrame c.args.state c.args.frame.now
good-at-After-emulated c =
    let q = c in
    record { state = good-state-at-After-emulated q; size = q.if-frame-setup.false; values = values-good-at-After-emulated c }

frame-planned : (c : Else-not-p) → PlannedFrame c.args.state c.args.frame.now c.plan_frame-p.result
frame-planned c = record { good = good c; plans = plans c; held = held-full-at-Else-not-p c; made = made-full-at-Else-not-p c }

frame-planned-at-After-emulated : (c : After-emulated) → PlannedFrame c.args.state c.args.frame.now c.plan_frame-p.result
frame-planned-at-After-emulated c = record { good = good-at-After-emulated c; plans = plans-at-After-emulated c; held = held-full-at-After-emulated c; made = made-full-at-After-emulated c }

abbrev moved : After-emulated → Moved
moved t = t.move_on-moved.result

-- What moved, from the state's ranks and what it told.
moves : (c : After-move_on-moved) → (let s = c.args.state in
    MovesBy s.pointer s.table c.plan_frame-p.result.table s.ranks s.told c.move_on-moved.result)
moves c =
    let p = c in
    let s = p.args.state in
    subst (λ (l : Moved). MovesBy s.pointer s.table p.plan_frame-p.result.table l.ranks l.told c.move_on-moved.result) c.last_of.ensures c.move_on-moved.ensures

moves-at-After-emulated : (c : After-emulated) → (let s = c.args.state in
    MovesBy s.pointer s.table c.plan_frame-p.result.table s.ranks s.told c.move_on-moved.result)
moves-at-After-emulated c =
    let p = c in
    let s = p.args.state in
    subst (λ (l : Moved). MovesBy s.pointer s.table p.plan_frame-p.result.table l.ranks l.told c.move_on-moved.result) c.last_of.ensures c.move_on-moved.ensures

known : (t : After-emulated)
    → Known t.args.state t.args.frame.now t.plan_frame-p.result (moved t) t.without_current-others.result (t.event_count.result + t.emulated.result)
known t =
    let s = t.args.state in
    let p = t.plan_frame-p.result in
    let tells = (plans-at-After-emulated t).tells in
    let others = t.without_current-others.ensures ∙ others-told s.table p.table s.current.0 s.setup.n p.changes tells in
    let events = events-told s.table p.table s.current.0 s.setup.n p.changes tells t.without_current-others.result others in
    record {
      frame = frame-planned-at-After-emulated t;
      moves = moves-at-After-emulated t;
      opened = others;
      count = ap₂ (λ a b. a + b) (t.event_count.ensures.0 ∙ events) t.emulated.ensures.0;
    }

-- There is room.
roomy : (e : Else-not-has_room) → (room_for (8 * (e.event_count.result + e.emulated.result)) e.args.at (length e.args.buf.now)) ≡ true
roomy e = sym e.has_room.ensures ∙ e.if-not-has_room.false

pub returns-then-not-state_ok : goal.returns-then-not-state_ok
returns-then-not-state_ok c =
    let k = c in
    let s = k in
    let buf = s.args.buf.now in
    let g : pointer_good base (seen s.args.state) ≡ false = sym k.state_ok.ensures ∙ c.if-not-state_ok.true in
    let answer = answer_by base (seen s.args.state) s.args.frame.now s.args.at buf false (sized (panel_seen s.args.state.setup) s.args.frame.now) (values_good (panel_seen s.args.state.setup) s.args.frame.now) (room_for (pointer_need base (seen s.args.state) s.args.frame.now) s.args.at (length s.args.buf.now)) g refl refl refl in (
      c.refused.ensures ∙ refusal_is C.state s.args.state (pointer_need base (seen s.args.state) s.args.frame.now) ∙ ap written_from (sym answer),
      sym (buffer_by base (seen s.args.state) s.args.frame.now s.args.at buf false (sized (panel_seen s.args.state.setup) s.args.frame.now) (values_good (panel_seen s.args.state.setup) s.args.frame.now) (room_for (pointer_need base (seen s.args.state) s.args.frame.now) s.args.at (length s.args.buf.now)) g refl refl refl),
    )

pub overflow_mul-setup : goal.overflow_mul-setup
overflow_mul-setup c = omega (arith, good-size c.args.state (state-good (goal.at.overflow_mul-setup c).Else-not-state_ok))

pub returns-then-frame-setup : goal.returns-then-frame-setup
returns-then-frame-setup c =
    let e = c in
    let s = e in
    let buf = s.args.buf.now in
    let g = state-good (goal.at.returns-then-frame-setup e).Else-not-state_ok in
    let z : (sized (panel_seen s.args.state.setup) s.args.frame.now) ≡ false = ne_eqb (length s.args.frame.now) (per_slot * s.args.state.setup.n) c.if-frame-setup.true in
    let answer = answer_by base (seen s.args.state) s.args.frame.now s.args.at buf true false (values_good (panel_seen s.args.state.setup) s.args.frame.now) (room_for (pointer_need base (seen s.args.state) s.args.frame.now) s.args.at (length s.args.buf.now)) g z refl refl in (
      c.refused-then-frame-setup.ensures ∙ refusal_is C.frame s.args.state (pointer_need base (seen s.args.state) s.args.frame.now) ∙ ap written_from (sym answer),
      sym (buffer_by base (seen s.args.state) s.args.frame.now s.args.at buf true false (values_good (panel_seen s.args.state.setup) s.args.frame.now) (room_for (pointer_need base (seen s.args.state) s.args.frame.now) s.args.at (length s.args.buf.now)) g z refl refl),
    )

pub first_loud-from-requires : goal.first_loud-from-requires
first_loud-from-requires c =
    let w = c in
    let e = w in
    (good-size e.args.state (state-good (goal.at.first_loud-from-requires e).Else-not-state_ok), w.if-frame-setup.false)

pub returns-then-from-setup : goal.returns-then-from-setup
returns-then-from-setup c =
    let at = goal.at.returns-then-from-setup c in
    let q = c in
    let s = q in
    let all_quiet : (i : ℕ) → i < s.args.state.setup.n → QuietAt s.args.frame.now s.args.state.table i = λ i h. q.first_loud-from.ensures.quiet i (omega arith) (omega (arith, h, c.if-from-setup.true)) in
    let r = still s.args.state s.args.frame.now (good-state at.After-first_loud-from) (given at.After-first_loud-from) (held-full at.Start) all_quiet s.args.at s.args.buf.now in
    (c.unchanged.ensures ∙ r.0, r.1)

pub plan_frame-p-requires : goal.plan_frame-p-requires
plan_frame-p-requires c =
    let q = c in
    record { given = given (goal.at.plan_frame-p-requires q).After-first_loud-from; inside = q.first_loud-from.ensures.inside; quiet = λ i h. q.first_loud-from.ensures.quiet i (omega arith) h }

pub returns-then-not-p : goal.returns-then-not-p
returns-then-not-p c =
    let at = goal.at.returns-then-not-p c in
    let p = c in
    let s = p in
    let buf = s.args.buf.now in
    let g = good-state at.After-first_loud-from in
    let z = frame-whole at.Else-frame-setup in
    let v : (values_good (panel_seen s.args.state.setup) s.args.frame.now) ≡ false = sym (values-are at.After-plan_frame-p) ∙ not-true p.plan_frame-p.result.good c.if-not-p.true in
    let answer = answer_by base (seen s.args.state) s.args.frame.now s.args.at buf true true false (room_for (pointer_need base (seen s.args.state) s.args.frame.now) s.args.at (length s.args.buf.now)) g z v refl in (
      c.refused-then-not-p.ensures ∙ refusal_is C.value s.args.state (pointer_need base (seen s.args.state) s.args.frame.now) ∙ ap written_from (sym answer),
      sym (buffer_by base (seen s.args.state) s.args.frame.now s.args.at buf true true false (room_for (pointer_need base (seen s.args.state) s.args.frame.now) s.args.at (length s.args.buf.now)) g z v refl),
    )

pub move_on-moved-requires : goal.move_on-moved-requires
move_on-moved-requires c =
    let d = c in
    let s = d.args.state in
    let p = d.plan_frame-p.result in
    subst (MovingIf s.pointer s.setup.n s.table p.table p.changes.slots) (sym c.last_of.ensures) (moving (frame-planned (goal.at.move_on-moved-requires d).Else-not-p))

pub without_current-others-requires : goal.without_current-others-requires
without_current-others-requires c =
    let d = c in
    good-current d.args.state (good (goal.at.without_current-others-requires d).Else-not-p).state

pub event_count-requires : goal.event_count-requires
event_count-requires c =
    let here = (goal.at.event_count-requires c).Else-not-p in
    let d = c in
    omega (arith, (plans here).tells.before.numbers, good-size d.args.state (good here).state)

pub returns-then-not-has_room : goal.returns-then-not-has_room
returns-then-not-has_room c =
    let h = c in
    let t = h in
    let without = sym h.has_room.ensures ∙ c.if-not-has_room.true in
    let r = refused_by (known (goal.at.returns-then-not-has_room t).After-emulated) t.args.at t.args.buf.now without in
    (c.refused-then-not-has_room.ensures ∙ r.0, r.1)

pub returns-then-events-eq0 : goal.returns-then-events-eq0
returns-then-events-eq0 c =
    let at = goal.at.returns-then-events-eq0 c in
    let e = c in
    let t = e in
    let r = handed_back (known at.After-emulated) c.if-events-eq0.true t.args.at t.args.buf.now (roomy at.Else-not-has_room) in
    (c.unchanged-then-events-eq0.ensures ∙ r.0, r.1)

pub send_touch-start-requires : goal.send_touch-start-requires
send_touch-start-requires c =
    let at = goal.at.send_touch-start-requires c in
    let n = c in
    let t = n in
    fits-touch (known at.After-emulated) t.args.at t.args.buf.now (roomy at.Else-not-has_room) n.if-events-eq0.false

pub send_slots-sent-requires : goal.send_slots-sent-requires
send_slots-sent-requires c =
    let at = goal.at.send_slots-sent-requires c in
    let o = c in
    let n = o in
    let t = n in
    let touch = o.send_touch-start in (
      good-current t.args.state (good at.Else-not-p).state,
      fits-slots (known at.After-emulated) t.args.at t.args.buf.now (roomy at.Else-not-has_room) n.if-events-eq0.false touch.result touch.new.b touch.ensures.0 touch.ensures.1,
    )

pub send_end-requires : goal.send_end-requires
send_end-requires c =
    let at = goal.at.send_end-requires c in
    let l = c in
    let o = l in
    let n = o in
    let t = n in
    let touch = o.send_touch-start in
    fits_end (known at.After-emulated) t.args.at t.args.buf.now (roomy at.Else-not-has_room) n.if-events-eq0.false touch.result touch.new.b touch.ensures.0 touch.ensures.1
    l.send_slots-sent.result l.send_slots-sent.new.b l.send_slots-sent.ensures

pub returns : goal.returns
returns c =
    let at = goal.at.returns c in
    let e = c in
    let l = e in
    let o = l in
    let n = o in
    let t = n in
    let touch = o.send_touch-start in
    let r = sent (known at.After-emulated) t.args.at t.args.buf.now (roomy at.Else-not-has_room) n.if-events-eq0.false touch.result touch.new.b touch.ensures.0 touch.ensures.1
    l.send_slots-sent.result l.send_slots-sent.new.b l.send_slots-sent.ensures e.send_end.new.b e.send_end.ensures in
    (c.taken.ensures ∙ ap (λ w. taken_by t.plan_frame-p.result.table (moved at.After-emulated) w (t.event_count.result + t.emulated.result) t.plan_frame-p.result.changes.slots) (c.with.ensures ∙ ap (λ o. with_last o l.send_slots-sent.result.last) t.own_of-own.ensures) ∙ r.0, r.1)
