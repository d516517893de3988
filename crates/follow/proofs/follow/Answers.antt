-- `follow::follow`: a run that begins following. The loop has read k records; what is left of the run is the whole run's answer. Assumes nothing.
use borrow.Author.Rules.{rules}
use mathlib.Core.Path.{◌≡◌, refl, sym, ap, ap₂, ◌∙◌}
use mathlib.Core.Bool.{Bool, true, false, cond}
use mathlib.Core.List.{List}
use Prim.Native.Nat.{ℕ, ◌+◌, ◌*◌, ◌/◌, ◌<◌}
use native.Mathlib.Omega.{arith}
use lib.IntN.{ℤ, pos}
use lib.ListN.{length, get_or}
use mir.Syntax.{w32}
use mir.Val.{SFits, to_z, of_z}
use mir.ValLaws.{to_z-of_z}
use Rattle.model.specs.Panel.{id_field}
use Rattle.model.specs.Table.{fits, ids_differ}
use Rattle.model.specs.Events as E
use Rattle.model.specs.Events.{Event, classify}
use Rattle.model.specs.Reader as R
use Rattle.model.specs.Reader.{following}
use Rattle.model.specs.Records.{signed_of, event_at}
use Rattle.common.proofs.Values.{slot-in, slot_out, number-good, number-bad}
use Rattle.common.proofs.Turns.{asks}
use Rattle.records.specs.Seen.{headed}
use Rattle.records.proofs.Words.{words_event}
use Rattle.panel.specs.declared.Setup.{Setup}
use Rattle.panel.specs.declared.Slot.{Slot}
use Rattle.panel.specs.Seen.{table_of, panel_seen, blank}
use Rattle.panel.proofs.Setups.{Small, small}
use Rattle.acts.specs.declared.Act.{Act}
use Rattle.acts.specs.declared.Act.TheVariants.{Id}
use Rattle.acts.specs.Seen.{act_of}
use Rattle.follow.specs.Runs.{ended_from, left_from, so_far, Skips}
use Rattle.follow.proofs.Ends.{kept_at, ends, counts-told}
use Rattle.follow.proofs.Kept as K
use Rattle.follow.proofs.Kept.{Kept, kept-begins, kept_select, kept-report, kept-id, kept-number, kept-type, kept-code}
use Rattle.follow.proofs.Kept.{two-shown, ends-bad, ends_lost, ends_stale}
use Rattle.follow.proofs.follow.Goals.{in-UnknownType, in-UnknownCode, in-Report, in-Select+else-setup-slot, in-Id+else-not-id_ok, in-X+else-setup-value, in-Y+else-setup-value-2, in-Pressure+else-setup-value-3, in-Major+else-setup-value-4, in-Minor+else-setup-value-5}
use Rattle.follow.proofs.follow.Goals.{then-written+else-not-ids_differ, else-written, then-opened-lt2, else-opened-lt2, After-word_at-value}
use Rattle.follow.proofs.follow.Goals as goal

abbrev setup : After-word_at-value → Setup
setup p = p.args.setup

abbrev bytes : After-word_at-value → List ℕ
bytes p = p.args.bytes.now

inside : (p : After-word_at-value) → p.loop-k.k < length (bytes p) / 8
inside p = search rules

skips : (p : After-word_at-value) → Skips p.loop-k.so (length (bytes p))
skips p = K.skips p.loop-k.invariant (inside p) (search rules)

-- The numbers of a good setup are small.
bounds : (p : After-word_at-value) → Small (setup p)
bounds p = small (setup p) p.requires.0

is_read : (p : After-word_at-value) → (headed p.word_at.result (signed_of p.word_at-value.result)) ≡ event_at (bytes p) (8 * p.loop-k.k)
is_read p =
    ap₂ (λ h v. headed h (signed_of v)) p.word_at.ensures p.word_at-value.ensures
    ∙ words_event (bytes p) (8 * p.loop-k.k) p.shared_slice_known-1.given

-- What the record asks, by its act.
asked : (p : After-word_at-value) (a : Act) → p.act_of-act.result ≡ a → asks (K.here p.loop-k.invariant (inside p)) ≡ act_of (setup p) (headed p.word_at.result (signed_of p.word_at-value.result)) a
asked p a e =
    ap (classify (panel_seen (setup p))) (sym (is_read p))
    ∙ sym (p.act_of-act.ensures (setup p) (signed_of p.word_at-value.result))
    ∙ ap (act_of (setup p) (headed p.word_at.result (signed_of p.word_at-value.result))) e

id-judged : (v z : ℤ) (b : Bool) → v ≡ z → fits id_field z ≡ b → cond (fits id_field v) (E.number 0 v) E.bad ≡ cond b (E.number 0 z) E.bad
id-judged v z b e g = rw (e, g)

-- What it asks, by whether it is good.
id-asked : (p : After-word_at-value) (z : ℤ) → SFits w32 z → (b : Bool) → p.act_of-act.result ≡ Id → z ≡ signed_of p.word_at-value.result → b ≡ fits id_field (to_z w32 (of_z w32 z))
    → asks (K.here p.loop-k.invariant (inside p)) ≡ cond b (E.number 0 (to_z w32 (of_z w32 z))) E.bad
id-asked p z f b i e g = asked p _ i ∙ id-judged _ (to_z w32 (of_z w32 z)) b (sym (to_z-of_z w32 z f ∙ e)) (sym g)

-- ---- the needs

pub loop-k-init : goal.loop-k-init
loop-k-init c =
    let s = c.args in
    let g = c.requires in
    kept-begins s.setup s.bytes.now s.shown0 s.pending0 s.current0.0 _
    g.0 g.1 (search rules) (search rules) g.2 (omega arith) (omega arith)

pub ids_differ-requires : goal.ids_differ-requires
ids_differ-requires c =
    let l = c.loop-k in
    (l.invariant.slots, l.invariant.pends.rest)

pub returns-then-not-ids_differ : goal.returns-then-not-ids_differ
returns-then-not-ids_differ c =
    let i = c in
    let p = i in
    let l = p.loop-k in
    let e = asked (goal.at.returns-then-not-ids_differ p).After-word_at-value _ i.in-Report.is in
    let equal = sym i.ids_differ.ensures ∙ c.if-not-ids_differ.true in
    let so = so_far (bytes (goal.at.returns-then-not-ids_differ p).After-word_at-value) l.so 1 in
    let after = left_from (bytes (goal.at.returns-then-not-ids_differ p).After-word_at-value) (l.k + 1) in
    let told = counts-told l.shown (record { 0 = l.current }) R.stale _ so after _ c.lost.ensures c.counted-c.ensures in
    ends_stale l.invariant (inside (goal.at.returns-then-not-ids_differ p).After-word_at-value) _ told e equal

pub drops-requires : goal.drops-requires
drops-requires c =
    let p = c in
    (inside (goal.at.drops-requires p).After-word_at-value, skips (goal.at.drops-requires p).After-word_at-value)

pub returns-in-Loss : goal.returns-in-Loss
returns-in-Loss c =
    let p = c in
    ends_lost p.loop-k.invariant (inside (goal.at.returns-in-Loss p).After-word_at-value) _ c.drops.ensures (asked (goal.at.returns-in-Loss p).After-word_at-value _ c.in-Loss.is)

pub drops-requires-then-setup-slot : goal.drops-requires-then-setup-slot
drops-requires-then-setup-slot c =
    let p = c in
    (inside (goal.at.drops-requires-then-setup-slot p).After-word_at-value, skips (goal.at.drops-requires-then-setup-slot p).After-word_at-value)

pub returns-then-setup-slot : goal.returns-then-setup-slot
returns-then-setup-slot c =
    let p = c in
    let e = asked (goal.at.returns-then-setup-slot p).After-word_at-value _ c.in-Select.is ∙ slot_out (setup (goal.at.returns-then-setup-slot p).After-word_at-value).n p.word_at-value.result c.if-setup-slot.true in
    ends-bad p.loop-k.invariant (inside (goal.at.returns-then-setup-slot p).After-word_at-value) _ c.drops-then-setup-slot.ensures e

pub drops-requires-then-not-id_ok : goal.drops-requires-then-not-id_ok
drops-requires-then-not-id_ok c =
    let p = c in
    (inside (goal.at.drops-requires-then-not-id_ok p).After-word_at-value, skips (goal.at.drops-requires-then-not-id_ok p).After-word_at-value)

pub returns-then-not-id_ok : goal.returns-then-not-id_ok
returns-then-not-id_ok c =
    let p = (goal.at.returns-then-not-id_ok c).After-word_at-value in
    let f : SFits w32 c.signed_of-v.result = search rules in
    let e = id-asked p c.signed_of-v.result f false c.in-Id.is c.signed_of-v.ensures (sym c.if-not-id_ok.true ∙ c.id_ok.ensures) in
    ends-bad c.loop-k.invariant (inside p) _ c.drops-then-not-id_ok.ensures e

pub drops-requires-then-setup-value : goal.drops-requires-then-setup-value
drops-requires-then-setup-value c =
    let p = c in
    (inside (goal.at.drops-requires-then-setup-value p).After-word_at-value, skips (goal.at.drops-requires-then-setup-value p).After-word_at-value)

pub returns-then-setup-value : goal.returns-then-setup-value
returns-then-setup-value c =
    let p = c in
    let e = asked (goal.at.returns-then-setup-value p).After-word_at-value _ c.in-X.is ∙ number-bad 1 (setup (goal.at.returns-then-setup-value p).After-word_at-value).x p.word_at-value.result c.if-setup-value.true in
    ends-bad p.loop-k.invariant (inside (goal.at.returns-then-setup-value p).After-word_at-value) _ c.drops-then-setup-value.ensures e

pub drops-requires-then-setup-value-2 : goal.drops-requires-then-setup-value-2
drops-requires-then-setup-value-2 c =
    let p = c in
    (inside (goal.at.drops-requires-then-setup-value-2 p).After-word_at-value, skips (goal.at.drops-requires-then-setup-value-2 p).After-word_at-value)

pub returns-then-setup-value-2 : goal.returns-then-setup-value-2
returns-then-setup-value-2 c =
    let p = c in
    let e = asked (goal.at.returns-then-setup-value-2 p).After-word_at-value _ c.in-Y.is ∙ number-bad 2 (setup (goal.at.returns-then-setup-value-2 p).After-word_at-value).y p.word_at-value.result c.if-setup-value-2.true in
    ends-bad p.loop-k.invariant (inside (goal.at.returns-then-setup-value-2 p).After-word_at-value) _ c.drops-then-setup-value-2.ensures e

pub drops-requires-then-setup-value-3 : goal.drops-requires-then-setup-value-3
drops-requires-then-setup-value-3 c =
    let p = c in
    (inside (goal.at.drops-requires-then-setup-value-3 p).After-word_at-value, skips (goal.at.drops-requires-then-setup-value-3 p).After-word_at-value)

pub returns-then-setup-value-3 : goal.returns-then-setup-value-3
returns-then-setup-value-3 c =
    let p = c in
    let e = asked (goal.at.returns-then-setup-value-3 p).After-word_at-value _ c.in-Pressure.is ∙ number-bad 3 (setup (goal.at.returns-then-setup-value-3 p).After-word_at-value).pressure p.word_at-value.result c.if-setup-value-3.true in
    ends-bad p.loop-k.invariant (inside (goal.at.returns-then-setup-value-3 p).After-word_at-value) _ c.drops-then-setup-value-3.ensures e

pub drops-requires-then-setup-value-4 : goal.drops-requires-then-setup-value-4
drops-requires-then-setup-value-4 c =
    let p = c in
    (inside (goal.at.drops-requires-then-setup-value-4 p).After-word_at-value, skips (goal.at.drops-requires-then-setup-value-4 p).After-word_at-value)

pub returns-then-setup-value-4 : goal.returns-then-setup-value-4
returns-then-setup-value-4 c =
    let p = c in
    let e = asked (goal.at.returns-then-setup-value-4 p).After-word_at-value _ c.in-Major.is ∙ number-bad 4 (setup (goal.at.returns-then-setup-value-4 p).After-word_at-value).major p.word_at-value.result c.if-setup-value-4.true in
    ends-bad p.loop-k.invariant (inside (goal.at.returns-then-setup-value-4 p).After-word_at-value) _ c.drops-then-setup-value-4.ensures e

pub drops-requires-then-setup-value-5 : goal.drops-requires-then-setup-value-5
drops-requires-then-setup-value-5 c =
    let p = c in
    (inside (goal.at.drops-requires-then-setup-value-5 p).After-word_at-value, skips (goal.at.drops-requires-then-setup-value-5 p).After-word_at-value)

pub returns-then-setup-value-5 : goal.returns-then-setup-value-5
returns-then-setup-value-5 c =
    let p = c in
    let e = asked (goal.at.returns-then-setup-value-5 p).After-word_at-value _ c.in-Minor.is ∙ number-bad 5 (setup (goal.at.returns-then-setup-value-5 p).After-word_at-value).minor p.word_at-value.result c.if-setup-value-5.true in
    ends-bad p.loop-k.invariant (inside (goal.at.returns-then-setup-value-5 p).After-word_at-value) _ c.drops-then-setup-value-5.ensures e

pub returns : goal.returns
returns c =
    let a = c.args in
    let l = c.loop-k in
    let s = a.bytes.now in
    let end = ends a.setup s (length s / 8) l.k l.shown l.pending l.current (so_far s l.so 0) (search rules) in
    ap (kept_at l.shown l.pending (record { 0 = l.current })) c.counted.ensures ∙ end ∙ ap ended_from (sym l.invariant.left)

-- What each arm leaves.
pub loop-k-preserved : goal.loop-k-preserved
loop-k-preserved c =
    let p = (goal.at.loop-k-preserved c).After-word_at-value in
    let h = inside p in
    let l = c.loop-k in
    let u = c.args.setup in
    let value = c.word_at-value.result in
    let head = headed c.word_at.result (signed_of value) in
    let o = get_or l.pending l.current blank in
    elim c.match-act.branch [
      | in-UnknownType w ↦
          rw (w.shown-is, w.pending-is, w.written-is, w.current-is, w.so-is, w.from-is, w.opened-is) (kept-type l.invariant h _ w.earliest.ensures head (is_read p) (asked p _ w.in-UnknownType.is))
      | in-UnknownCode w ↦
          rw (w.shown-is, w.pending-is, w.written-is, w.current-is, w.so-is, w.from-is, w.opened-is) (kept-code l.invariant h _ w.earliest-in-UnknownCode.ensures head (is_read p) (asked p _ w.in-UnknownCode.is))
      | in-Report w ↦
          let differ : ids_differ (table_of l.pending) ≡ true =
          elim w.if-written.branch [ then-written+else-not-ids_differ q ↦ sym q.ids_differ.ensures ∙ q.if-not-ids_differ.false | else-written q ↦ l.invariant.pends.apart q.if-written.false ] in
          let same : w.if-opened-lt2.shown ≡ l.pending =
          elim w.if-opened-lt2.branch [ then-opened-lt2 q ↦ q.shown-is ∙ two-shown l.invariant h q.if-opened-lt2.true | else-opened-lt2 q ↦ q.shown-is ] in
          rw (w.shown-is, w.pending-is, w.written-is, w.current-is, w.so-is, w.from-is, w.opened-is) (kept-report l.invariant h _ _ same (asked p _ w.in-Report.is) differ)
      | in-Select+else-setup-slot w ↦
          let good = slot-in u.n value w.if-setup-slot.false (omega (arith, (bounds p).n)) in
          rw (w.shown-is, w.pending-is, w.written-is, w.current-is, w.so-is, w.from-is, w.opened-is) (kept_select l.invariant h value w.if-setup-slot.false (asked p _ w.in-Select.is ∙ good))
      | in-Id+else-not-id_ok w ↦
          let z = w.signed_of-v.result in
          let f : SFits w32 z = search rules in
          let x : Slot = record { id = record { 0 = to_z w32 (of_z w32 z) }; x = o.x; y = o.y; pressure = o.pressure; major = o.major; minor = o.minor } in
          let e = id-asked p z f true w.in-Id.is w.signed_of-v.ensures (sym w.if-not-id_ok.false ∙ w.id_ok.ensures) in
          rw (w.shown-is, w.pending-is, w.written-is, w.current-is, w.so-is, w.from-is, w.opened-is) (kept-id l.invariant h 0 (to_z w32 (of_z w32 z)) x e refl)
      | in-X+else-setup-value w ↦
          let x : Slot = record { id = o.id; x = value; y = o.y; pressure = o.pressure; major = o.major; minor = o.minor } in
          let good = number-good 1 u.x value (omega (arith, (bounds p).x)) w.if-setup-value.false in
          rw (w.shown-is, w.pending-is, w.written-is, w.current-is, w.so-is, w.from-is, w.opened-is) (kept-number l.invariant h 1 (pos value) x (asked p _ w.in-X.is ∙ good) refl refl)
      | in-Y+else-setup-value-2 w ↦
          let x : Slot = record { id = o.id; x = o.x; y = value; pressure = o.pressure; major = o.major; minor = o.minor } in
          let good = number-good 2 u.y value (omega (arith, (bounds p).y)) w.if-setup-value-2.false in
          rw (w.shown-is, w.pending-is, w.written-is, w.current-is, w.so-is, w.from-is, w.opened-is) (kept-number l.invariant h 2 (pos value) x (asked p _ w.in-Y.is ∙ good) refl refl)
      | in-Pressure+else-setup-value-3 w ↦
          let x : Slot = record { id = o.id; x = o.x; y = o.y; pressure = value; major = o.major; minor = o.minor } in
          let good = number-good 3 u.pressure value (omega (arith, (bounds p).pressure)) w.if-setup-value-3.false in
          rw (w.shown-is, w.pending-is, w.written-is, w.current-is, w.so-is, w.from-is, w.opened-is) (kept-number l.invariant h 3 (pos value) x (asked p _ w.in-Pressure.is ∙ good) refl refl)
      | in-Major+else-setup-value-4 w ↦
          let x : Slot = record { id = o.id; x = o.x; y = o.y; pressure = o.pressure; major = value; minor = o.minor } in
          let good = number-good 4 u.major value (omega (arith, (bounds p).major)) w.if-setup-value-4.false in
          rw (w.shown-is, w.pending-is, w.written-is, w.current-is, w.so-is, w.from-is, w.opened-is) (kept-number l.invariant h 4 (pos value) x (asked p _ w.in-Major.is ∙ good) refl refl)
      | in-Minor+else-setup-value-5 w ↦
          let x : Slot = record { id = o.id; x = o.x; y = o.y; pressure = o.pressure; major = o.major; minor = value } in
          let good = number-good 5 u.minor value (omega (arith, (bounds p).minor)) w.if-setup-value-5.false in
          rw (w.shown-is, w.pending-is, w.written-is, w.current-is, w.so-is, w.from-is, w.opened-is) (kept-number l.invariant h 5 (pos value) x (asked p _ w.in-Minor.is ∙ good) refl refl)
    ]
