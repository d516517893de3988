-- `lent_follow::ids_apart` tells whether live ids of the pending table differ. The loop has walked over those below k, unless low bits met. Assumes nothing.
use borrow.Author.Rules.{rules}
use borrow.Author.Tests.{eqb-true}
use mathlib.Core.Path.{◌≡◌, refl, sym, ap, ◌∙◌, subst}
use mathlib.Core.Bool.{true, ◌&&◌}
use Prim.Native.Nat.{◌<◌}
use native.Mathlib.Omega.{arith}
use lib.Bits.{bit_and}
use lib.Dec.{eqb}
use lib.IntN.{ℤ}
use lib.ListN.{get_or, length}
use mir.Syntax.{w32}
use mir.Val.{SFits, to_z, of_z}
use mir.ValLaws.{to_z-of_z}
use Rattle.model.specs.Panel.{records}
use Rattle.model.specs.Numbers.{eq_z, minus_one}
use Rattle.model.specs.Records.{signed_of}
use Rattle.model.proofs.Bools.{and_left, and_right}
use Rattle.common.specs.Seen.{natural}
use Rattle.common.proofs.Apart.{bit_of, dead_turn, free_turn, walk_over}
use Rattle.panel.specs.declared.Slot.{Slot}
use Rattle.panel.specs.Seen.{slot_of, blank, unused, unused_all, SameFrom}
use Rattle.lent.specs.Lent.{table_size}
use Rattle.lent.proofs.Tables.{slots_length, slot-of}
use Rattle.lent_follow.specs.InPlace.{pending_in}
use Rattle.lent_follow.proofs.ids_apart.Goals.{After-same, then-not-same, else-not-same}
use Rattle.lent_follow.proofs.ids_apart.Goals as goal

-- ---- the slot of a turn

abbrev id : After-same → ℤ
id c = (get_or (pending_in c.args.t.now) c.loop-k.k blank).id.0

below : (c : After-same) → c.loop-k.k < records
below c = search rules

-- The id that is looked at, as the bits of the one that was read.
id-is : (c : After-same) → to_z w32 (of_z w32 c.signed_of-id.result) ≡ id c
id-is c =
    let z = c.signed_of-id.result in
    let f : SFits w32 z = search rules in
    to_z-of_z w32 z f
    ∙ c.signed_of-id.ensures
    ∙ ap signed_of c.word_at.ensures
    ∙ ap (λ (x : Slot). x.id.0) (sym (slot-of records c.args.t.now table_size c.loop-k.k (below c)))

dead-is : (c : After-same) → c.same.result ≡ eq_z (id c) minus_one
dead-is c = c.same.ensures ∙ ap (λ z. eq_z z minus_one) (id-is c)

-- ---- the needs

pub loop-k-preserved : goal.loop-k-preserved
loop-k-preserved c =
    let p = (goal.at.loop-k-preserved c).After-same in
    let t = pending_in c.args.t.now in
    let l = c.loop-k in
    let v = id p in
    let met = bit_and l.met (bit_of v) in
    let within : l.k < length t = omega (arith, slots_length records c.args.t.now table_size, below p) in (
      omega arith,
      elim c.if-not-same.branch [
        | then-not-same w ↦ λ a.
            let e : w.nat_of.result ≡ natural v = w.nat_of.ensures ∙ ap natural (id-is p) in
            let k : (l.apart && eqb met 0) ≡ true = rw e at (sym w.apart-is ∙ a) in
            let free = eqb-true met 0 (and_right l.apart (eqb met 0) k) in
            rw (w.met-is, e) (free_turn slot_of blank t l.k within l.met (sym (dead-is p) ∙ w.if-not-same.true) free (l.invariant.1 (and_left l.apart _ k)))
        | else-not-same w ↦ λ a. rw w.met-is (dead_turn slot_of blank t l.k within l.met (sym (dead-is p) ∙ w.if-not-same.false) (l.invariant.1 (sym w.apart-is ∙ a)))
      ],
    )

pub returns-then-apart : goal.returns-then-apart
returns-then-apart c =
    let t = pending_in c.args.t.now in
    let l = c.loop-k in
    let done : c.args.n ≡ l.k = search rules in
    let same = subst (λ m. SameFrom m t unused_all) done c.requires.2 in
    c.if-apart.true ∙ sym (walk_over slot_of unused refl t l.k records same l.met (l.invariant.1 c.if-apart.true))
