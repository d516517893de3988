-- `force::mark_from` finds the first 0x2B: what is still to be searched gives the same place. Assumes nothing.
use mathlib.Core.Path.{◌≡◌, refl, sym, ◌∙◌}
use native.Mathlib.Omega.{arith}
use Rattle.model.proofs.ForceReads.{mark_here, mark-next, mark_end}
use Rattle.force.proofs.mark_from.Goals as goal

pub loop-place-init : goal.loop-place-init
loop-place-init c = record { within = omega arith; same = refl }

pub returns-then-bytes-place-eq-MARK : goal.returns-then-bytes-place-eq-MARK
returns-then-bytes-place-eq-MARK c =
    let l = c.loop-place in
    sym (l.invariant.same ∙ mark_here c.args.bytes.now l.place (omega arith) c.if-bytes-place-eq-MARK.true)

pub loop-place-preserved : goal.loop-place-preserved
loop-place-preserved c =
    let l = c.loop-place in
    record { within = omega arith; same = l.invariant.same ∙ mark-next c.args.bytes.now l.place (omega arith) c.if-bytes-place-eq-MARK.false }

pub returns : goal.returns
returns c =
    let l = c.loop-place in
    let end : l.place ≡ c.max.result = omega (arith, c.max.ensures) in
    sym (l.invariant.same ∙ mark_end c.args.bytes.now l.place (omega arith) ∙ end)
