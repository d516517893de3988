-- `anonymous::read_frame` judges a type A frame's records, refusal by refusal, and makes the frame of good ones. Assumes nothing.
use borrow.Author.Tests.{eq-eqb, ne_eqb, not-true, not-false}
use mathlib.Core.Path.{◌≡◌, refl, sym, ap, subst, ◌∙◌}
use mathlib.Core.Bool.{true, false}
use mathlib.Core.List.{List}
use Prim.Native.Nat.{◌%◌, ◌≤◌}
use native.Mathlib.Omega.{arith}
use lib.Dec.{eqb}
use lib.ListN.{length}
use Rattle.model.specs.Records.{events_of}
use Rattle.model.specs.Calls as C
use Rattle.model.specs.Packets.{Contact, contacts_good, packets_of}
use Rattle.model.specs.Anonymous.{few_enough}
use Rattle.model.proofs.Bools.{holds}
use Rattle.panel.specs.Seen.{panel_seen}
use Rattle.panel.proofs.Setups.{Small, small}
use Rattle.packets.specs.declared.Packets.{Packets}
use Rattle.packets.specs.Seen.{most}
use Rattle.packets.proofs.Held.{contacts_back}
use Rattle.pairing.specs.Cells.{Numbers}
use Rattle.anonymous.specs.declared.Framed.{Framed}
use Rattle.anonymous.specs.Held.{contacts_in, Judged}
use Rattle.anonymous.specs.Framed.{records_verdict, framed_by, framed_from}
use Rattle.anonymous.proofs.Ranges.{table_within, judged-read}
use Rattle.anonymous.proofs.Places.{numbers-at-most}
use Rattle.anonymous.proofs.Outcome.{records_by, past_five, past-slots, few-enough, frame_is}
use Rattle.anonymous.proofs.read_frame.Goals.{After-read_packets-p, After-values_ok, Else-bytes-ne0, Else-not-p, Else-not-values_ok, Else-setup-p, Start}
use Rattle.anonymous.proofs.read_frame.Goals as goal

abbrev contacts : Start → List Contact
contacts s = (packets_of (events_of s.args.bytes.now)).contacts

abbrev contacts-at-After-read_packets-p : After-read_packets-p → List Contact
contacts-at-After-read_packets-p s = (packets_of (events_of s.args.bytes.now)).contacts

abbrev contacts-at-Else-setup-p : Else-setup-p → List Contact
contacts-at-Else-setup-p s = (packets_of (events_of s.args.bytes.now)).contacts

abbrev contacts-at-After-values_ok : After-values_ok → List Contact
contacts-at-After-values_ok s = (packets_of (events_of s.args.bytes.now)).contacts

abbrev contacts-at-Else-not-values_ok : Else-not-values_ok → List Contact
contacts-at-Else-not-values_ok s = (packets_of (events_of s.args.bytes.now)).contacts

sizes : (s : Start) → Small s.args.setup
sizes s = small s.args.setup s.requires.setup

-- The answer, by a verdict that the tests have come to.
answers : (s : Start) (v : C.Verdict) (r : Framed) → records_verdict (panel_seen s.args.setup) s.args.bytes.now ≡ v
    → r ≡ framed_by v s.args.setup s.args.table s.args.bytes.now → r ≡ framed_from s.args.setup s.args.table s.args.bytes.now
answers s v r e q = q ∙ sym (ap (λ w. framed_by w s.args.setup s.args.table s.args.bytes.now) e)

-- ---- where they pass

whole : (e : Else-bytes-ne0) → eqb (length e.args.bytes.now % 8) 0 ≡ true
whole e = eq-eqb (length e.args.bytes.now % 8) 0 e.if-bytes-ne0.false

counted : (r : After-read_packets-p) → r.read_packets-p.result.count ≡ length (contacts-at-After-read_packets-p r)
counted r = ap (λ (q : Packets). q.count) r.read_packets-p.ensures

counted-at-Else-setup-p : (r : Else-setup-p) → r.read_packets-p.result.count ≡ length (contacts-at-Else-setup-p r)
counted-at-Else-setup-p r = ap (λ (q : Packets). q.count) r.read_packets-p.ensures

counted-at-After-values_ok : (r : After-values_ok) → r.read_packets-p.result.count ≡ length (contacts-at-After-values_ok r)
counted-at-After-values_ok r = ap (λ (q : Packets). q.count) r.read_packets-p.ensures

counted-at-Else-not-values_ok : (r : Else-not-values_ok) → r.read_packets-p.result.count ≡ length (contacts-at-Else-not-values_ok r)
counted-at-Else-not-values_ok r = ap (λ (q : Packets). q.count) r.read_packets-p.ensures

sound-is : (r : After-read_packets-p) → r.read_packets-p.result.sound ≡ (packets_of (events_of r.args.bytes.now)).sound
sound-is r = ap (λ (q : Packets). q.sound) r.read_packets-p.ensures

sound-is-at-Else-not-p : (r : Else-not-p) → r.read_packets-p.result.sound ≡ (packets_of (events_of r.args.bytes.now)).sound
sound-is-at-Else-not-p r = ap (λ (q : Packets). q.sound) r.read_packets-p.ensures

at-most-five : (f : Else-setup-p) → length (contacts-at-Else-setup-p f) ≤ most
at-most-five f = omega (arith, counted-at-Else-setup-p f, f.if-p-gt-MOST.false)

at-most-five-at-After-values_ok : (f : After-values_ok) → length (contacts-at-After-values_ok f) ≤ most
at-most-five-at-After-values_ok f = omega (arith, counted-at-After-values_ok f, f.if-p-gt-MOST.false)

at-most-five-at-Else-not-values_ok : (f : Else-not-values_ok) → length (contacts-at-Else-not-values_ok f) ≤ most
at-most-five-at-Else-not-values_ok f = omega (arith, counted-at-Else-not-values_ok f, f.if-p-gt-MOST.false)

enough : (f : Else-setup-p) → (few_enough (panel_seen f.args.setup) (contacts-at-Else-setup-p f)) ≡ true
enough f = few-enough (panel_seen f.args.setup) (contacts-at-Else-setup-p f) (at-most-five f) (omega (arith, counted-at-Else-setup-p f, f.if-setup-p.false))

finished : (d : Else-not-p) → (packets_of (events_of d.args.bytes.now)).sound ≡ true
finished d = sym (sound-is-at-Else-not-p d) ∙ not-false d.read_packets-p.result.sound d.if-not-p.false

values-are : (v : After-values_ok) → v.values_ok.result ≡ (contacts_good (panel_seen v.args.setup) (contacts-at-After-values_ok v))
values-are v =
    let f = v in
    let back = ap contacts_in f.read_packets-p.ensures ∙ contacts_back (events_of v.args.bytes.now) (at-most-five-at-After-values_ok f) in
    v.values_ok.ensures ∙ ap (contacts_good (panel_seen v.args.setup)) back

values-are-at-Else-not-values_ok : (v : Else-not-values_ok) → v.values_ok.result ≡ (contacts_good (panel_seen v.args.setup) (contacts-at-Else-not-values_ok v))
values-are-at-Else-not-values_ok v =
    let f = v in
    let back = ap contacts_in f.read_packets-p.ensures ∙ contacts_back (events_of v.args.bytes.now) (at-most-five-at-Else-not-values_ok f) in
    v.values_ok.ensures ∙ ap (contacts_good (panel_seen v.args.setup)) back

values-good : (a : Else-not-values_ok) → (contacts_good (panel_seen a.args.setup) (contacts-at-Else-not-values_ok a)) ≡ true
values-good a = sym (values-are-at-Else-not-values_ok a) ∙ a.if-not-values_ok.false

pub returns-then-bytes-ne0 : goal.returns-then-bytes-ne0
returns-then-bytes-ne0 c =
    let here = (goal.at.returns-then-bytes-ne0 c).Start in
    let s = c in
    let z = ne_eqb (length s.args.bytes.now % 8) 0 c.if-bytes-ne0.true in
    answers here C.ragged c.unframed.result (records_by (panel_seen s.args.setup) s.args.bytes.now false (few_enough (panel_seen s.args.setup) (contacts here)) (packets_of (events_of s.args.bytes.now)).sound (contacts_good (panel_seen s.args.setup) (contacts here)) z refl refl refl) c.unframed.ensures

pub returns-then-p-gt-MOST : goal.returns-then-p-gt-MOST
returns-then-p-gt-MOST c =
    let at = goal.at.returns-then-p-gt-MOST c in
    let r = c in
    let s = r in
    let f = past_five (panel_seen s.args.setup) (contacts at.Start) (omega (arith, counted at.After-read_packets-p, c.if-p-gt-MOST.true)) in
    answers at.Start C.too_many c.unframed-then-p-gt-MOST.result (records_by (panel_seen s.args.setup) s.args.bytes.now true false (packets_of (events_of s.args.bytes.now)).sound (contacts_good (panel_seen s.args.setup) (contacts at.Start)) (whole at.Else-bytes-ne0) f refl refl) c.unframed-then-p-gt-MOST.ensures

pub returns-then-setup-p : goal.returns-then-setup-p
returns-then-setup-p c =
    let at = goal.at.returns-then-setup-p c in
    let most = c in
    let r = most in
    let s = r in
    let f = past-slots (panel_seen s.args.setup) (contacts at.Start) (omega (arith, counted at.After-read_packets-p, most.if-p-gt-MOST.false)) (omega (arith, counted at.After-read_packets-p, c.if-setup-p.true)) in
    answers at.Start C.too_many c.unframed-then-setup-p.result (records_by (panel_seen s.args.setup) s.args.bytes.now true false (packets_of (events_of s.args.bytes.now)).sound (contacts_good (panel_seen s.args.setup) (contacts at.Start)) (whole at.Else-bytes-ne0) f refl refl) c.unframed-then-setup-p.ensures

pub returns-then-not-p : goal.returns-then-not-p
returns-then-not-p c =
    let at = goal.at.returns-then-not-p c in
    let f = c in
    let r = f in
    let s = r in
    let d = sym (sound-is at.After-read_packets-p) ∙ not-true r.read_packets-p.result.sound c.if-not-p.true in
    answers at.Start C.unfinished c.unframed-then-not-p.result (records_by (panel_seen s.args.setup) s.args.bytes.now true true false (contacts_good (panel_seen s.args.setup) (contacts at.Start)) (whole at.Else-bytes-ne0) (enough at.Else-setup-p) d refl) c.unframed-then-not-p.ensures

pub values_ok-requires : goal.values_ok-requires
values_ok-requires c =
    let d = c in
    let w = sizes (goal.at.values_ok-requires d).Start in (
      record { x = omega (arith, w.x); y = omega (arith, w.y); pressure = omega (arith, w.pressure); major = omega (arith, w.major); minor = omega (arith, w.minor) },
      d.if-p-gt-MOST.false,
    )

pub returns-then-not-values_ok : goal.returns-then-not-values_ok
returns-then-not-values_ok c =
    let at = goal.at.returns-then-not-values_ok c in
    let v = c in
    let s = v in
    let y = sym (values-are at.After-values_ok) ∙ c.if-not-values_ok.true in
    answers at.Start C.value c.unframed-then-not-values_ok.result (records_by (panel_seen s.args.setup) s.args.bytes.now true true true false (whole at.Else-bytes-ne0) (enough at.Else-setup-p) (finished at.Else-not-p) y) c.unframed-then-not-values_ok.ensures

pub numbers_at-numbers-requires : goal.numbers_at-numbers-requires
numbers_at-numbers-requires c =
    let at = goal.at.numbers_at-numbers-requires c in
    let f = c in
    let s = f in (
      table_within s.args.setup (sizes at.Start) s.args.setup.n s.args.table (holds _ s.requires.slots),
      subst (λ q. Judged q) (sym f.read_packets-p.ensures) (judged-read s.args.setup (sizes at.Start) (events_of s.args.bytes.now) (at-most-five at.Else-setup-p) (values-good at.Else-not-values_ok)),
    )

pub frame_of-requires : goal.frame_of-requires
frame_of-requires c = (
  (sizes (goal.at.frame_of-requires c).Start).n,
  subst (λ l. Numbers l) (sym c.numbers_at-numbers.ensures) (numbers-at-most c.args.table c.read_packets-p.result c.if-p-gt-MOST.false),
)

pub overflow_mul-size : goal.overflow_mul-size
overflow_mul-size c = omega (arith, (sizes (goal.at.overflow_mul-size c).Start).n)

pub returns : goal.returns
returns c =
    let at = goal.at.returns c in
    let n = c in
    let f = n in
    let s = n in
    let accepted = records_by (panel_seen s.args.setup) s.args.bytes.now true true true true (whole at.Else-bytes-ne0) (enough at.Else-setup-p) (finished at.Else-not-p) (values-good at.Else-not-values_ok) in
    let p = f.read_packets-p in
    let is = frame_is s.args.setup s.args.table s.args.bytes.now p.result n.numbers_at-numbers.result c.frame_of.result p.ensures (at-most-five at.Else-setup-p) n.numbers_at-numbers.ensures c.frame_of.ensures in
    let made = framed_by C.accepted s.args.setup s.args.table s.args.bytes.now in
    answers at.Start C.accepted _ accepted (λ i. record { frame = is i; size = made.size; verdict = made.verdict })
