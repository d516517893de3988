-- `packets::read_packets`: the contacts of a type A frame, in one walk over its records. Assumes nothing.
use borrow.Author.Rules.{rules}
use mathlib.Core.Path.{◌≡◌, sym, ap, ap₂, ◌∙◌}
use mathlib.Core.List.{List}
use Prim.Native.Nat.{ℕ, ◌*◌, ◌/◌, ◌<◌}
use lib.IntN.{ℤ}
use lib.ListN.{length}
use mir.Syntax.{w32}
use mir.Val.{SFits, to_z, of_z}
use mir.ValLaws.{to_z-of_z}
use Rattle.model.specs.Records.{signed_of, event_at}
use Rattle.model.specs.Packets.{said}
use Rattle.records.specs.Seen.{headed}
use Rattle.records.proofs.Words.{words_event}
use Rattle.packets.specs.Seen.{said_by, packet_in}
use Rattle.packets.proofs.Turns.{closes_none, closes_one, read-passes, read_adds, read-counts, read-ends}
use Rattle.packets.proofs.read_packets.Goals.{After-closes, then-closes+then-at-lt-MOST, then-closes+else-at-lt-MOST, else-closes}
use Rattle.packets.proofs.read_packets.Goals as goal

abbrev bytes : After-closes → List ℕ
bytes p = p.args.bytes.now

inside : (p : After-closes) → p.loop-k.k < length (bytes p) / 8
inside p = search rules

is_said : (p : After-closes) → (said_by p.said_of-said.result (signed_of p.word_at-value.result)) ≡ said (event_at (bytes p) (8 * p.loop-k.k))
is_said p =
    p.said_of-said.ensures (signed_of p.word_at-value.result)
    ∙ ap said
    (ap₂ (λ h v. headed h (signed_of v)) p.word_at.ensures p.word_at-value.ensures
    ∙ words_event (bytes p) (8 * p.loop-k.k) p.shared_slice_known-1.given)

-- A signed number that is stored is read back.
own : {u : ℤ} (z : ℤ) → SFits w32 z → z ≡ u → to_z w32 (of_z w32 z) ≡ u
own z f e = to_z-of_z w32 z f ∙ e

-- ---- the needs

pub loop-k-preserved : goal.loop-k-preserved
loop-k-preserved c =
    let here = (goal.at.loop-k-preserved c).After-closes in
    let what = said_by c.said_of-said.result (signed_of c.word_at-value.result) in
    elim c.if-closes.branch [
      | then-closes+then-at-lt-MOST w ↦
          let z = closes_one (packet_in c.loop-k.w) c.said_of-said.result (signed_of c.word_at-value.result) (sym c.closes.ensures ∙ w.if-closes.true) in
          rw (w.x-is, w.y-is, w.pressure-is)
          (read_adds c.loop-k.invariant (inside here) what (is_said here) c.heard-w.result c.heard-w.ensures z _ _ _
          (own _ (search rules) w.value_of.ensures)
          (own _ (search rules) w.value_of-then-at-lt-MOST.ensures)
          (own _ (search rules) w.value_of-then-at-lt-MOST-2.ensures))
      | then-closes+else-at-lt-MOST w ↦
          let z = closes_one (packet_in c.loop-k.w) c.said_of-said.result (signed_of c.word_at-value.result) (sym c.closes.ensures ∙ w.if-closes.true) in
          rw (w.x-is, w.y-is, w.pressure-is) (read-counts c.loop-k.invariant (inside here) what (is_said here) c.heard-w.result c.heard-w.ensures z w.if-at-lt-MOST.false)
      | else-closes w ↦
          let z = closes_none (packet_in c.loop-k.w) c.said_of-said.result (signed_of c.word_at-value.result) (sym c.closes.ensures ∙ w.if-closes.false) in
          rw (w.x-is, w.y-is, w.pressure-is) (read-passes c.loop-k.invariant (inside here) what (is_said here) c.heard-w.result c.heard-w.ensures z)
    ]

pub returns : goal.returns
returns c = c.finished.ensures ∙ read-ends c.loop-k.invariant (search rules)
