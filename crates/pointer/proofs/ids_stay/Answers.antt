-- `pointer::ids_stay` tells whether two lists of ids are the same. The loop has found the same ids in the slots whose bits `left` no longer has. Assumes nothing.
use mathlib.Core.Path.{◌≡◌, sym, ap, ap₂, ◌∙◌}
use Prim.Native.Nat.{ℕ, ◌<◌, ◌-◌, ◌%◌}
use native.Mathlib.Omega.{arith}
use lib.Bits.{bit_and, and_le_r}
use lib.Count.{count_trailing_zeros}
use lib.IntN.{pos}
use lib.ListN.{get_or}
use mir.Syntax.{w32}
use mir.Val.{SFits}
use mir.ValLaws.{to_z-of_z}
use Rattle.model.specs.Panel.{records}
use Rattle.model.specs.Numbers.{eq_z}
use Rattle.model.proofs.Order.{trailing_below}
use Rattle.pointer.proofs.Covered.{stays_in, covered, stays-over, stays-turn, stays-not}
use borrow.Author.Rules.{rules}
use Rattle.pointer.proofs.ids_stay.Goals.{After-same, In-loop-left}
use Rattle.pointer.proofs.ids_stay.Goals as goal

nonzero-at-After-same : (i : After-same) → 0 < i.loop-left.left
nonzero-at-After-same i = search rules

nonzero : (i : In-loop-left) → 0 < i.loop-left.left
nonzero i = search rules

below-at-After-same : (i : After-same) → (count_trailing_zeros records i.loop-left.left) < records
below-at-After-same i = trailing_below records i.loop-left.left (nonzero-at-After-same i) i.loop-left.invariant.bits

place-at-After-same : (i : After-same) → (count_trailing_zeros records i.loop-left.left) % records ≡ (count_trailing_zeros records i.loop-left.left)
place-at-After-same i = omega (arith, below-at-After-same i)

-- What is left has no bit that a smaller number has not, so it is less.
fewer : (m k : ℕ) → k < m → bit_and m k < m
fewer m k h = omega (arith, and_le_r m k)

told : (p : After-same) → (let a = p.args in p.same.result ≡ eq_z (get_or a.old.now (count_trailing_zeros records p.loop-left.left) (pos 0)) (get_or a.new.now (count_trailing_zeros records p.loop-left.left) (pos 0)))
told p =
    let i = p in
    let a = i.args in
    let u = get_or a.old.now ((count_trailing_zeros records i.loop-left.left) % records) (pos 0) in
    let v = get_or a.new.now ((count_trailing_zeros records i.loop-left.left) % records) (pos 0) in
    let f : SFits w32 u = search rules in
    let g : SFits w32 v = search rules in
    p.same.ensures ∙ ap₂ eq_z (to_z-of_z w32 u f) (to_z-of_z w32 v g) ∙ ap (λ s. eq_z (get_or a.old.now s (pos 0)) (get_or a.new.now s (pos 0))) (place-at-After-same i)

-- ---- the needs

pub loop-left-init : goal.loop-left-init
loop-left-init c =
    let a = c.args in
    record { bits = search rules; rest = sym (covered a.slots a.old.now a.new.now c.requires.0 c.requires.1 c.requires.2) }

pub returns-then-not-same : goal.returns-then-not-same
returns-then-not-same c =
    let at = goal.at.returns-then-not-same c in
    let p = c in
    let i = p in
    let l = i.loop-left in
    let a = i.args in
    let other = sym (told at.After-same) ∙ c.if-not-same.true in
    sym (l.invariant.rest ∙ stays-not a.old.now a.new.now l.left (nonzero at.In-loop-left) l.invariant.bits other)

pub loop-left-smaller : goal.loop-left-smaller
loop-left-smaller c =
    let i = c in
    fewer i.loop-left.left _ (omega (arith, nonzero (goal.at.loop-left-smaller i).In-loop-left))

pub loop-left-preserved : goal.loop-left-preserved
loop-left-preserved c =
    let at = goal.at.loop-left-preserved c in
    let p = c in
    let i = p in
    let l = i.loop-left in
    let a = i.args in
    let same = sym (told at.After-same) ∙ c.if-not-same.false in
    record {
      bits = omega (arith, fewer l.left (l.left - 1) (omega (arith, nonzero at.In-loop-left)), l.invariant.bits);
      rest = l.invariant.rest ∙ stays-turn a.old.now a.new.now l.left (nonzero at.In-loop-left) l.invariant.bits same;
    }

pub returns : goal.returns
returns c =
    let l = c.loop-left in
    let a = c.args in
    sym (l.invariant.rest ∙ ap (λ m. stays_in m a.old.now a.new.now) c.loop-left-test.false ∙ stays-over a.old.now a.new.now)
