-- `crane_follow::follow`: a run that begins following. The loop has read k records; what is left of the run is the whole run's answer. Assumes nothing.
use borrow.Author.Rules.{rules}
use mathlib.Core.Path.{◌≡◌, refl, sym, ap, ap₂, ◌∙◌}
use mathlib.Core.Bool.{true}
use mathlib.Core.List.{List}
use Prim.Native.Nat.{ℕ, suc, ◌+◌, ◌-◌, ◌*◌, ◌/◌, ◌<◌}
use native.Mathlib.Omega.{arith}
use lib.IntN.{pos}
use lib.ListN.{length, get_or}
use Rattle.model.specs.Panel.{crane_records}
use Rattle.model.specs.Table.{ids_differ}
use Rattle.model.specs.Events as E
use Rattle.model.specs.Events.{Event, classify}
use Rattle.model.specs.Reader as R
use Rattle.model.specs.Reader.{following, nothing}
use Rattle.model.specs.Records.{event_at, events_from}
use Rattle.common.specs.declared.Counts.{Counts}
use Rattle.common.specs.Seen.{counts_of, counts_from}
use Rattle.common.proofs.Back.{counts-seen}
use Rattle.crane_panel.specs.declared.Setup.{Setup}
use Rattle.crane_panel.specs.declared.Slot.{Slot}
use Rattle.crane_panel.specs.Seen.{slot_of, table_of, panel_seen, blank, unused}
use Rattle.crane_panel.proofs.Setups.{small}
use Rattle.crane_acts.specs.declared.Act.{Act}
use Rattle.crane_acts.specs.Seen.{act_of}
use Rattle.crane_follow.specs.declared.Ended.{Ended}
use Rattle.crane_follow.specs.Seen.{reader_of}
use Rattle.common.specs.Runs.{onward, counted, first_at}
use Rattle.common.proofs.Firsts.{names, stays_within}
use Rattle.common.proofs.Turns.{uncompared, compared, with_id, with_number, sofar, selected}
use Rattle.common.proofs.Turns.{Place, asks, skips-type, skips-code, selects, shows, repeats, drops, spoils, stores}
use Rattle.crane_follow.specs.Runs.{ended_from, lost_at}
use Rattle.crane_follow.proofs.Ends.{kept_at, ends, loses}
use Rattle.crane_follow.proofs.follow.Goals.{in-UnknownType, in-UnknownCode, in-Report, in-Select, in-Id, in-X, in-Y, in-Pressure, then-written+else-not-ids_differ, else-written, After-act_of}
use Rattle.crane_follow.proofs.follow.Goals as goal

abbrev setup : After-act_of → Setup
setup p = p.args.setup

abbrev bytes : After-act_of → List ℕ
bytes p = p.args.bytes.now

inside : (p : After-act_of) → p.loop-k.k < (length (bytes p) / 8)
inside p = search rules

abbrev here : After-act_of → Place slot_of blank
here p =
    let l = p.loop-k in
    record {
      panel = panel_seen (setup p);
      bytes = bytes p;
      count = (length (bytes p) / 8);
      k = l.k;
      inside = inside p;
      shown = l.shown;
      pending = l.pending;
      current = l.current;
      frames = l.frames;
      types = l.types;
      codes = l.codes;
      first = first_at (bytes p) (l.types + l.codes) l.first;
    }

held : (p : After-act_of) → p.loop-k.current < length p.loop-k.pending
held p = let inv = p.loop-k.invariant in omega (arith, inv.below, inv.slots, inv.pends.full)

-- An act, as what this turn's record asks.
abbrev act : After-act_of → Act → E.Act
act p a = act_of (event_at (bytes p) (8 * p.loop-k.k)).type (event_at (bytes p) (8 * p.loop-k.k)).code a

asked : (p : After-act_of) → asks (here p) ≡ (act_of (event_at (bytes p) (8 * p.loop-k.k)).type (event_at (bytes p) (8 * p.loop-k.k)).code p.act_of.result)
asked p =
    let e = p.record_at.ensures in
    sym (ap₂ (λ (x y : Event). act_of x.type y.code p.act_of.result) (sym e) (sym e) ∙ p.act_of.ensures ∙ ap (classify (panel_seen (setup p))) e)

told : (p : After-act_of) (a : Act) → p.act_of.result ≡ a → asks (here p) ≡ act p a
told p a e = asked p ∙ ap (act p) e

-- The call's end, where track is lost.
abbrev lost_with : (p : After-act_of) → R.Mode → R.Counts → Ended
lost_with p m a =
    let l = p.loop-k in
    lost_at l.shown (record { 0 = l.current }) m a (events_from ((length (bytes p) / 8) - (l.k + 1)) (bytes p) (8 * (l.k + 1)))

-- The events after this turn's.
abbrev after : (p : After-act_of) → List Event
after p = let l = p.loop-k in events_from ((length (bytes p) / 8) - (l.k + 1)) (bytes p) (8 * (l.k + 1))

-- The reader that this turn finds.
abbrev now : (p : After-act_of) → R.Reader
now p = let l = p.loop-k in reader_of l.shown l.pending l.current following

-- What was counted before this turn, and so many bad ones.
abbrev with_bad : (p : After-act_of) → ℕ → R.Counts
with_bad p d =
    let l = p.loop-k in
    counted l.frames l.types l.codes d (first_at (bytes p) (l.types + l.codes) l.first)

-- It is known by the contract of what makes it.
tells : (p : After-act_of) (m : R.Mode) (a : Counts) (x : R.Counts) → a ≡ counts_from x → lost_with p m (counts_of a) ≡ lost_with p m x
tells p m a x e = ap (lost_with p m) (ap counts_of e ∙ counts-seen x)

-- ---- the needs

pub loop-k-init : goal.loop-k-init
loop-k-init c =
    let n = length c.args.bytes.now / 8 in
    let z : n - 0 ≡ n = omega arith in
    let s = c.args in
    let table = uncompared slot_of blank unused crane_records s.setup.n s.pending0 (search rules) c.requires.2 in
    record {
      inside = search rules;
      below = c.requires.1;
      few = search rules;
      pends = table;
      left = rw z;
      slots = (small s.setup c.requires.0).n;
      there = tt;
    }

pub returns-in-Bad : goal.returns-in-Bad
returns-in-Bad c =
    let p = c in
    let l = p.loop-k in
    let told = asked (goal.at.returns-in-Bad p).After-act_of ∙ ap (act (goal.at.returns-in-Bad p).After-act_of) c.in-Bad.is in
    c.lost.ensures
    ∙ tells (goal.at.returns-in-Bad p).After-act_of R.dropped _ (with_bad (goal.at.returns-in-Bad p).After-act_of 1) c.counted-c.ensures
    ∙ loses (here (goal.at.returns-in-Bad p).After-act_of) R.dropped 1 tt (spoils (here (goal.at.returns-in-Bad p).After-act_of) told)
    ∙ ap ended_from (sym l.invariant.left)

pub ids_differ-requires : goal.ids_differ-requires
ids_differ-requires c =
    let l = c.loop-k in
    (l.invariant.slots, l.invariant.pends.rest)

pub returns-then-not-ids_differ : goal.returns-then-not-ids_differ
returns-then-not-ids_differ c =
    let i = c in
    let p = i in
    let equal = sym i.ids_differ.ensures ∙ c.if-not-ids_differ.true in
    let l = p.loop-k in
    let told = asked (goal.at.returns-then-not-ids_differ p).After-act_of ∙ ap (act (goal.at.returns-then-not-ids_differ p).After-act_of) i.in-Report.is in
    c.lost-then-not-ids_differ.ensures
    ∙ tells (goal.at.returns-then-not-ids_differ p).After-act_of R.stale _ (with_bad (goal.at.returns-then-not-ids_differ p).After-act_of 1) c.counted-c-then-not-ids_differ.ensures
    ∙ loses (here (goal.at.returns-then-not-ids_differ p).After-act_of) R.stale 1 tt (repeats (here (goal.at.returns-then-not-ids_differ p).After-act_of) told equal)
    ∙ ap ended_from (sym l.invariant.left)

pub returns-in-Loss : goal.returns-in-Loss
returns-in-Loss c =
    let p = c in
    let l = p.loop-k in
    let told = asked (goal.at.returns-in-Loss p).After-act_of ∙ ap (act (goal.at.returns-in-Loss p).After-act_of) c.in-Loss.is in
    c.lost-in-Loss.ensures
    ∙ tells (goal.at.returns-in-Loss p).After-act_of R.dropped _ (with_bad (goal.at.returns-in-Loss p).After-act_of 0) c.counted-c-in-Loss.ensures
    ∙ loses (here (goal.at.returns-in-Loss p).After-act_of) R.dropped 0 tt (drops (here (goal.at.returns-in-Loss p).After-act_of) told)
    ∙ ap ended_from (sym l.invariant.left)

pub returns : goal.returns
returns c =
    let a = c.args in
    let l = c.loop-k in
    let s = a.bytes.now in
    let so = sofar l.frames l.types l.codes (first_at s (l.types + l.codes) l.first) in
    let end = ends a.setup s (length s / 8) l.k l.shown l.pending l.current so (search rules) in
    ap (kept_at l.shown l.pending (record { 0 = l.current })) c.counted.ensures ∙ end ∙ ap ended_from (sym l.invariant.left)

-- What each arm leaves.
pub loop-k-preserved : goal.loop-k-preserved
loop-k-preserved c =
    let p = (goal.at.loop-k-preserved c).After-act_of in
    let l = c.loop-k in
    let u = c.args.setup in
    let n = l.types + l.codes in
    let event = event_at (bytes p) (8 * l.k) in
    let o = get_or l.pending l.current blank in
    elim c.match-act_of.branch [
      | in-UnknownType w ↦
          let more : suc n ≡ l.types + 1 + l.codes = omega arith in
          let name = names (bytes p) n _ l.first _ l.k more w.earliest-first.ensures event.type event.code refl refl in
          let kept =
          l.invariant.left ∙ skips-type (here p) event.type event.code (told p _ w.in-UnknownType.is)
          ∙ ap (λ f. onward (panel_seen u) (now p) (sofar l.frames (l.types + 1) l.codes f) (after p)) name in
          let first-there = stays_within (bytes p) n _ l.first _ l.k more w.earliest-first.ensures (length (bytes p)) l.invariant.there (search rules) in
          rw (w.shown-is, w.pending-is, w.written-is, w.current-is, w.frames-is, w.types-is, w.codes-is, w.first-is) (record { inside = search rules; below = l.invariant.below; few = search rules; pends = l.invariant.pends; left = kept; slots = l.invariant.slots; there = first-there })
      | in-UnknownCode w ↦
          let more : suc n ≡ l.types + (l.codes + 1) = omega arith in
          let name = names (bytes p) n _ l.first _ l.k more w.earliest-first-in-UnknownCode.ensures event.type event.code refl refl in
          let kept =
          l.invariant.left ∙ skips-code (here p) event.type event.code (told p _ w.in-UnknownCode.is)
          ∙ ap (λ f. onward (panel_seen u) (now p) (sofar l.frames l.types (l.codes + 1) f) (after p)) name in
          let first-there = stays_within (bytes p) n _ l.first _ l.k more w.earliest-first-in-UnknownCode.ensures (length (bytes p)) l.invariant.there (search rules) in
          rw (w.shown-is, w.pending-is, w.written-is, w.current-is, w.frames-is, w.types-is, w.codes-is, w.first-is) (record { inside = search rules; below = l.invariant.below; few = search rules; pends = l.invariant.pends; left = kept; slots = l.invariant.slots; there = first-there })
      | in-Report w ↦
          let differ : ids_differ (table_of l.pending) ≡ true =
          elim w.if-written.branch [ then-written+else-not-ids_differ q ↦ sym q.ids_differ.ensures ∙ q.if-not-ids_differ.false | else-written q ↦ l.invariant.pends.apart q.if-written.false ] in
          let kept = l.invariant.left ∙ shows (here p) (told p _ w.in-Report.is) differ in
          let table = compared u.n l.written w.if-written.written l.pending l.invariant.pends differ in
          rw (w.shown-is, w.pending-is, w.written-is, w.current-is, w.frames-is, w.types-is, w.codes-is, w.first-is) (record { inside = search rules; below = l.invariant.below; few = search rules; pends = table; left = kept; slots = l.invariant.slots; there = l.invariant.there })
      | in-Select w ↦
          let j = w.in-Select.s.0 in
          let e = told p _ w.in-Select.is in
          let kept = l.invariant.left ∙ selects (here p) j e in
          rw (w.shown-is, w.pending-is, w.written-is, w.current-is, w.frames-is, w.types-is, w.codes-is, w.first-is) (record { inside = search rules; below = selected (panel_seen u) event j e; few = search rules; pends = l.invariant.pends; left = kept; slots = l.invariant.slots; there = l.invariant.there })
      | in-Id w ↦
          let v = w.in-Id.v in
          let x : Slot = record { id = v; x = o.x; y = o.y; pressure = o.pressure } in
          let kept = l.invariant.left ∙ stores (here p) 0 v.0 x (told p _ w.in-Id.is) (held p) refl in
          let table = with_id u.n l.written l.pending l.invariant.pends l.current x l.invariant.below in
          rw (w.shown-is, w.pending-is, w.written-is, w.current-is, w.frames-is, w.types-is, w.codes-is, w.first-is) (record { inside = search rules; below = l.invariant.below; few = search rules; pends = table; left = kept; slots = l.invariant.slots; there = l.invariant.there })
      | in-X w ↦
          let v = w.in-X.v in
          let x : Slot = record { id = o.id; x = v; y = o.y; pressure = o.pressure } in
          let kept = l.invariant.left ∙ stores (here p) 1 (pos v) x (told p _ w.in-X.is) (held p) refl in
          let table = with_number u.n l.written l.pending l.invariant.pends l.current x l.invariant.below refl in
          rw (w.shown-is, w.pending-is, w.written-is, w.current-is, w.frames-is, w.types-is, w.codes-is, w.first-is) (record { inside = search rules; below = l.invariant.below; few = search rules; pends = table; left = kept; slots = l.invariant.slots; there = l.invariant.there })
      | in-Y w ↦
          let v = w.in-Y.v in
          let x : Slot = record { id = o.id; x = o.x; y = v; pressure = o.pressure } in
          let kept = l.invariant.left ∙ stores (here p) 2 (pos v) x (told p _ w.in-Y.is) (held p) refl in
          let table = with_number u.n l.written l.pending l.invariant.pends l.current x l.invariant.below refl in
          rw (w.shown-is, w.pending-is, w.written-is, w.current-is, w.frames-is, w.types-is, w.codes-is, w.first-is) (record { inside = search rules; below = l.invariant.below; few = search rules; pends = table; left = kept; slots = l.invariant.slots; there = l.invariant.there })
      | in-Pressure w ↦
          let v = w.in-Pressure.v in
          let x : Slot = record { id = o.id; x = o.x; y = o.y; pressure = v } in
          let kept = l.invariant.left ∙ stores (here p) 3 (pos v) x (told p _ w.in-Pressure.is) (held p) refl in
          let table = with_number u.n l.written l.pending l.invariant.pends l.current x l.invariant.below refl in
          rw (w.shown-is, w.pending-is, w.written-is, w.current-is, w.frames-is, w.types-is, w.codes-is, w.first-is) (record { inside = search rules; below = l.invariant.below; few = search rules; pends = table; left = kept; slots = l.invariant.slots; there = l.invariant.there })
    ]
