-- `lent_follow::follow`: a run that begins following, on tables in lent bytes. The loop has read k records; what is left of the run is the whole run's answer. Assumes nothing.
use borrow.Author.Rules.{rules}
use mathlib.Core.Path.{◌≡◌, refl, sym, ap, ap₂, ◌∙◌}
use mathlib.Core.Bool.{Bool, true, false, cond}
use mathlib.Core.List.{List}
use Prim.Native.Nat.{ℕ, ◌+◌, ◌*◌, ◌/◌, ◌<◌}
use native.Mathlib.Omega.{arith}
use lib.IntN.{ℤ, pos}
use lib.ListN.{length}
use mir.Syntax.{w32}
use mir.Val.{SFits, of_z, to_z}
use mir.ValLaws.{to_z-of_z}
use Rattle.model.specs.Panel.{id_field, records}
use Rattle.model.specs.Table.{fits, ids_differ}
use Rattle.model.specs.Events as E
use Rattle.model.specs.Events.{Event, classify}
use Rattle.model.specs.Reader as R
use Rattle.model.specs.Reader.{following}
use Rattle.model.specs.Records.{signed_of, event_at}
use Rattle.common.proofs.Values.{slot-in, slot_out, number-good, number-bad}
use Rattle.common.proofs.Turns.{asks}
use Rattle.records.specs.Seen.{headed}
use Rattle.records.proofs.Words.{words_event}
use Rattle.panel.specs.declared.Setup.{Setup}
use Rattle.panel.specs.Seen.{table_of, panel_seen}
use Rattle.panel.proofs.Setups.{Small, small}
use Rattle.acts.specs.declared.Act.{Act}
use Rattle.acts.specs.declared.Act.TheVariants.{Id}
use Rattle.acts.specs.Seen.{act_of}
use Rattle.follow.specs.Runs.{ended_from, left_from, so_far}
use Rattle.follow.proofs.Ends.{kept_at, ends, counts-told}
use Rattle.follow.proofs.Kept as K
use Rattle.follow.proofs.Kept.{kept-begins, kept_select, kept-report, kept-id, kept-number, kept-type, kept-code}
use Rattle.follow.proofs.Kept.{two-shown, ends-bad, ends_lost, ends_stale}
use Rattle.lent.specs.Lent.{table_size}
use Rattle.lent.proofs.Tables.{slots_length}
use Rattle.lent_follow.specs.InPlace.{shown_in, pending_in}
use Rattle.lent_follow.proofs.Runs.{goes_on}
use Rattle.lent_follow.proofs.Words.{id-stored, x-stored, y-stored, pressure-stored, major-stored, minor-stored}
use Rattle.lent_follow.proofs.follow.Goals.{then-written+else-not-ids_apart, else-written, After-word_at-value}
use Rattle.lent_follow.proofs.follow.Goals as goal

abbrev setup : After-word_at-value → Setup
setup p = p.args.setup

abbrev bytes : After-word_at-value → List ℕ
bytes p = p.args.bytes.now

inside : (p : After-word_at-value) → p.loop-k.k < length (bytes p) / 8
inside p = search rules

below : (p : After-word_at-value) → p.loop-k.current < records
below p = let i = p.loop-k.invariant.kept in omega (arith, i.below, i.slots)

-- The numbers of a good setup are small.
bounds : (p : After-word_at-value) → Small (setup p)
bounds p = small (setup p) p.requires.0

is_read : (p : After-word_at-value) → (headed p.word_at.result (signed_of p.word_at-value.result)) ≡ event_at (bytes p) (8 * p.loop-k.k)
is_read p =
    ap₂ (λ h v. headed h (signed_of v)) p.word_at.ensures p.word_at-value.ensures
    ∙ words_event (bytes p) (8 * p.loop-k.k) p.shared_slice_known-1.given

-- What the record asks, by its act.
asked : (p : After-word_at-value) (a : Act) → p.act_of-act.result ≡ a → asks (K.here p.loop-k.invariant.kept (inside p)) ≡ act_of (setup p) (headed p.word_at.result (signed_of p.word_at-value.result)) a
asked p a e =
    ap (classify (panel_seen (setup p))) (sym (is_read p))
    ∙ sym (p.act_of-act.ensures (setup p) (signed_of p.word_at-value.result))
    ∙ ap (act_of (setup p) (headed p.word_at.result (signed_of p.word_at-value.result))) e

-- What an id z asks, by whether it is good.
id-asked : (p : After-word_at-value) → p.act_of-act.result ≡ Id → (z : ℤ) → SFits w32 z → z ≡ signed_of p.word_at-value.result → (r b : Bool) → r ≡ fits id_field (to_z w32 (of_z w32 z)) → r ≡ b
    → asks (K.here p.loop-k.invariant.kept (inside p)) ≡ cond b (E.number 0 (signed_of p.word_at-value.result)) E.bad
id-asked p i z f e r b h k =
    let is = to_z-of_z w32 z f ∙ e in
    asked p _ i ∙ ap (λ g. cond g (E.number 0 (signed_of p.word_at-value.result)) E.bad) (ap (fits id_field) (sym is) ∙ sym h ∙ k)

-- ---- the needs

pub loop-k-init : goal.loop-k-init
loop-k-init c =
    let s = c.args in
    let g = c.requires in
    let t = s.t.now in
    record {
      size = g.2;
      kept = kept-begins s.setup s.bytes.now (shown_in t) (pending_in t) s.current0.0 _ g.0 g.1 (slots_length records t 0) (slots_length records t table_size) g.3 (omega arith) (omega arith);
    }

pub loop-k-preserved-in-UnknownType : goal.loop-k-preserved-in-UnknownType
loop-k-preserved-in-UnknownType c =
    let p = (goal.at.loop-k-preserved-in-UnknownType c).After-word_at-value in
    let l = c.loop-k in
    let e = asked p _ c.in-UnknownType.is in
    record { size = l.invariant.size; kept = kept-type l.invariant.kept (inside p) _ c.earliest-f.ensures (headed c.word_at.result (signed_of c.word_at-value.result)) (is_read p) e }

pub loop-k-preserved-in-UnknownCode : goal.loop-k-preserved-in-UnknownCode
loop-k-preserved-in-UnknownCode c =
    let p = (goal.at.loop-k-preserved-in-UnknownCode c).After-word_at-value in
    let l = c.loop-k in
    let e = asked p _ c.in-UnknownCode.is in
    record { size = l.invariant.size; kept = kept-code l.invariant.kept (inside p) _ c.earliest-f-in-UnknownCode.ensures (headed c.word_at.result (signed_of c.word_at-value.result)) (is_read p) e }

pub returns-then-not-ids_apart : goal.returns-then-not-ids_apart
returns-then-not-ids_apart c =
    let p = (goal.at.returns-then-not-ids_apart c).After-word_at-value in
    let l = c.loop-k in
    let e = asked p _ c.in-Report.is in
    let equal = sym c.ids_apart.ensures ∙ c.if-not-ids_apart.true in
    let so = so_far (bytes p) l.so 1 in
    let after = left_from (bytes p) (l.k + 1) in
    let end = counts-told (shown_in l.t) (record { 0 = l.current }) R.stale _ so after _ c.lost.ensures c.counted-c.ensures in
    ends_stale l.invariant.kept (inside p) _ end e equal

pub show-requires : goal.show-requires
show-requires c =
    let l = c.loop-k in
    let i = l.invariant.kept in
    (omega (arith, i.last, i.slots), omega (arith, i.below, i.slots), l.invariant.size, two-shown i (inside (goal.at.show-requires c).After-word_at-value))

pub loop-k-preserved-in-Report : goal.loop-k-preserved-in-Report
loop-k-preserved-in-Report c =
    let p = (goal.at.loop-k-preserved-in-Report c).After-word_at-value in
    let l = c.loop-k in
    let e = asked p _ c.in-Report.is in
    let differ : ids_differ (table_of (pending_in l.t)) ≡ true =
    elim c.if-written.branch [ then-written+else-not-ids_apart w ↦ sym w.ids_apart.ensures ∙ w.if-not-ids_apart.false | else-written w ↦ l.invariant.kept.pends.apart w.if-written.false ] in
    goes_on _ (search rules) c.show.ensures (kept-report l.invariant.kept (inside p) (pending_in l.t) _ refl e differ)

pub returns-in-Loss : goal.returns-in-Loss
returns-in-Loss c =
    let p = (goal.at.returns-in-Loss c).After-word_at-value in
    ends_lost c.loop-k.invariant.kept (inside p) _ c.drops.ensures (asked p _ c.in-Loss.is)

pub returns-then-setup-slot : goal.returns-then-setup-slot
returns-then-setup-slot c =
    let p = (goal.at.returns-then-setup-slot c).After-word_at-value in
    let e = asked p _ c.in-Select.is ∙ slot_out (setup p).n c.word_at-value.result c.if-setup-slot.true in
    ends-bad c.loop-k.invariant.kept (inside p) _ c.drops-then-setup-slot.ensures e

pub loop-k-preserved-in-Select : goal.loop-k-preserved-in-Select
loop-k-preserved-in-Select c =
    let p = (goal.at.loop-k-preserved-in-Select c).After-word_at-value in
    let l = c.loop-k in
    let good = slot-in (setup p).n c.word_at-value.result c.if-setup-slot.false (omega (arith, (bounds p).n)) in
    record { size = l.invariant.size; kept = kept_select l.invariant.kept (inside p) c.word_at-value.result c.if-setup-slot.false (asked p _ c.in-Select.is ∙ good) }

pub returns-then-not-id_ok : goal.returns-then-not-id_ok
returns-then-not-id_ok c =
    let p = (goal.at.returns-then-not-id_ok c).After-word_at-value in
    let v = c.signed_of-v in
    let f : SFits w32 v.result = search rules in
    let e = id-asked p c.in-Id.is v.result f v.ensures _ false c.id_ok.ensures c.if-not-id_ok.true in
    ends-bad c.loop-k.invariant.kept (inside p) _ c.drops-then-not-id_ok.ensures e

pub loop-k-preserved-in-Id : goal.loop-k-preserved-in-Id
loop-k-preserved-in-Id c =
    let p = (goal.at.loop-k-preserved-in-Id c).After-word_at-value in
    let l = c.loop-k in
    let v = c.signed_of-v in
    let f : SFits w32 v.result = search rules in
    let e = id-asked p c.in-Id.is v.result f v.ensures _ true c.id_ok.ensures c.if-not-id_ok.false in
    let s = id-stored l.t l.current c.word_at-value.result l.invariant.size (below p) (search rules) _ c.put_word.ensures in
    goes_on _ (search rules) s (kept-id l.invariant.kept (inside p) 0 (signed_of c.word_at-value.result) _ e refl)

pub returns-then-setup-value : goal.returns-then-setup-value
returns-then-setup-value c =
    let p = (goal.at.returns-then-setup-value c).After-word_at-value in
    let e = asked p _ c.in-X.is ∙ number-bad 1 (setup p).x c.word_at-value.result c.if-setup-value.true in
    ends-bad c.loop-k.invariant.kept (inside p) _ c.drops-then-setup-value.ensures e

pub loop-k-preserved-in-X : goal.loop-k-preserved-in-X
loop-k-preserved-in-X c =
    let p = (goal.at.loop-k-preserved-in-X c).After-word_at-value in
    let l = c.loop-k in
    let good = number-good 1 (setup p).x c.word_at-value.result (omega (arith, (bounds p).x)) c.if-setup-value.false in
    let s = x-stored l.t l.current c.word_at-value.result l.invariant.size (below p) (search rules) _ c.put_word-in-X.ensures in
    goes_on _ (search rules) s (kept-number l.invariant.kept (inside p) 1 (pos c.word_at-value.result) _ (asked p _ c.in-X.is ∙ good) refl refl)

pub returns-then-setup-value-2 : goal.returns-then-setup-value-2
returns-then-setup-value-2 c =
    let p = (goal.at.returns-then-setup-value-2 c).After-word_at-value in
    let e = asked p _ c.in-Y.is ∙ number-bad 2 (setup p).y c.word_at-value.result c.if-setup-value-2.true in
    ends-bad c.loop-k.invariant.kept (inside p) _ c.drops-then-setup-value-2.ensures e

pub loop-k-preserved-in-Y : goal.loop-k-preserved-in-Y
loop-k-preserved-in-Y c =
    let p = (goal.at.loop-k-preserved-in-Y c).After-word_at-value in
    let l = c.loop-k in
    let good = number-good 2 (setup p).y c.word_at-value.result (omega (arith, (bounds p).y)) c.if-setup-value-2.false in
    let s = y-stored l.t l.current c.word_at-value.result l.invariant.size (below p) (search rules) _ c.put_word-in-Y.ensures in
    goes_on _ (search rules) s (kept-number l.invariant.kept (inside p) 2 (pos c.word_at-value.result) _ (asked p _ c.in-Y.is ∙ good) refl refl)

pub returns-then-setup-value-3 : goal.returns-then-setup-value-3
returns-then-setup-value-3 c =
    let p = (goal.at.returns-then-setup-value-3 c).After-word_at-value in
    let e = asked p _ c.in-Pressure.is ∙ number-bad 3 (setup p).pressure c.word_at-value.result c.if-setup-value-3.true in
    ends-bad c.loop-k.invariant.kept (inside p) _ c.drops-then-setup-value-3.ensures e

pub loop-k-preserved-in-Pressure : goal.loop-k-preserved-in-Pressure
loop-k-preserved-in-Pressure c =
    let p = (goal.at.loop-k-preserved-in-Pressure c).After-word_at-value in
    let l = c.loop-k in
    let good = number-good 3 (setup p).pressure c.word_at-value.result (omega (arith, (bounds p).pressure)) c.if-setup-value-3.false in
    let s = pressure-stored l.t l.current c.word_at-value.result l.invariant.size (below p) (search rules) _ c.put_word-in-Pressure.ensures in
    goes_on _ (search rules) s (kept-number l.invariant.kept (inside p) 3 (pos c.word_at-value.result) _ (asked p _ c.in-Pressure.is ∙ good) refl refl)

pub returns-then-setup-value-4 : goal.returns-then-setup-value-4
returns-then-setup-value-4 c =
    let p = (goal.at.returns-then-setup-value-4 c).After-word_at-value in
    let e = asked p _ c.in-Major.is ∙ number-bad 4 (setup p).major c.word_at-value.result c.if-setup-value-4.true in
    ends-bad c.loop-k.invariant.kept (inside p) _ c.drops-then-setup-value-4.ensures e

pub loop-k-preserved-in-Major : goal.loop-k-preserved-in-Major
loop-k-preserved-in-Major c =
    let p = (goal.at.loop-k-preserved-in-Major c).After-word_at-value in
    let l = c.loop-k in
    let good = number-good 4 (setup p).major c.word_at-value.result (omega (arith, (bounds p).major)) c.if-setup-value-4.false in
    let s = major-stored l.t l.current c.word_at-value.result l.invariant.size (below p) (search rules) _ c.put_word-in-Major.ensures in
    goes_on _ (search rules) s (kept-number l.invariant.kept (inside p) 4 (pos c.word_at-value.result) _ (asked p _ c.in-Major.is ∙ good) refl refl)

pub returns-then-setup-value-5 : goal.returns-then-setup-value-5
returns-then-setup-value-5 c =
    let p = (goal.at.returns-then-setup-value-5 c).After-word_at-value in
    let e = asked p _ c.in-Minor.is ∙ number-bad 5 (setup p).minor c.word_at-value.result c.if-setup-value-5.true in
    ends-bad c.loop-k.invariant.kept (inside p) _ c.drops-then-setup-value-5.ensures e

pub loop-k-preserved : goal.loop-k-preserved
loop-k-preserved c =
    let p = (goal.at.loop-k-preserved c).After-word_at-value in
    let l = c.loop-k in
    let good = number-good 5 (setup p).minor c.word_at-value.result (omega (arith, (bounds p).minor)) c.if-setup-value-5.false in
    let s = minor-stored l.t l.current c.word_at-value.result l.invariant.size (below p) (search rules) _ c.put_word-in-Minor.ensures in
    goes_on _ (search rules) s (kept-number l.invariant.kept (inside p) 5 (pos c.word_at-value.result) _ (asked p _ c.in-Minor.is ∙ good) refl refl)

pub returns : goal.returns
returns c =
    let a = c.args in
    let l = c.loop-k in
    let s = a.bytes.now in
    let end = ends a.setup s (length s / 8) l.k (shown_in l.t) (pending_in l.t) l.current (so_far s l.so 0) (search rules) in
    ap (kept_at (shown_in l.t) (pending_in l.t) (record { 0 = l.current })) c.counted.ensures ∙ end ∙ ap ended_from (sym l.invariant.kept.left)
