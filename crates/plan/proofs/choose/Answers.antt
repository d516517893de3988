-- `plan::choose` finds the first number that is not taken. The loop has tried and passed taken ones; `_tries` of 2 * records tries are made. Assumes nothing.
use borrow.Author.Rules.{rules}
use mathlib.Core.Path.{◌≡◌, sym, ap, ap₂, ◌∙◌}
use Prim.Native.Nat.{◌+◌, ◌-◌, ◌*◌}
use native.Mathlib.Omega.{arith}
use Rattle.model.specs.Panel.{records}
use Rattle.model.specs.Frame.{pick, next}
use Rattle.model.proofs.Tries.{free_id-short, pick-stays, pick-held}
use Rattle.plan.proofs.choose.Goals as goal

pub loop-tries-init : goal.loop-tries-init
loop-tries-init c =
    let a = c.args in
    (search rules, free_id-short (2 * records) a.taken.now a.from c.requires.1 c.requires.0 (omega arith))

pub free-requires : goal.free-requires
free-requires c = (c.loop-tries.invariant.0, c.requires.2)

pub returns-then-free : goal.returns-then-free
returns-then-free c =
    let l = c.loop-tries in
    (l.invariant.0, sym (l.invariant.1 ∙ pick-stays (2 * records - l._tries) c.args.taken.now l.k (sym c.free.ensures ∙ c.if-free.true)))

pub loop-tries-preserved : goal.loop-tries-preserved
loop-tries-preserved c =
    let l = c.loop-tries in
    let t = c.args.taken.now in
    let e : c.after-k.result ≡ next l.k = c.after-k.ensures in
    let one : 2 * records - l._tries - 1 ≡ 2 * records - (l._tries + 1) = omega arith in
    (omega arith, l.invariant.1 ∙ pick-held (2 * records - l._tries) t l.k (omega arith) (sym c.free.ensures ∙ c.if-free.false) ∙ ap₂ (λ m k. pick m t k) one (sym e))

pub returns : goal.returns
returns c =
    let l = c.loop-tries in
    let z : 2 * records - l._tries ≡ 0 = omega arith in
    (l.invariant.0, sym (l.invariant.1 ∙ ap (λ m. pick m c.args.taken.now l.k) z))
