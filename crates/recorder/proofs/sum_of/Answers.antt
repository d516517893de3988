-- `recorder::sum_of` meets its contract: the loop has summed the bytes before i. Assumes nothing.
use mathlib.Core.Path.{◌≡◌, refl, sym, ap, ◌∙◌}
use Prim.Native.Nat.{◌+◌, ◌*◌, ◌≤◌}
use native.Mathlib.Omega.{arith}
use lib.ListN.{take, get_or}
use borrow.Author.Rules.{rules}
use Rattle.model.specs.Recorder.{check_place, weighed}
use Rattle.model.proofs.Weights.{product_small}
use Rattle.recorder.proofs.Laws.{sum_turn}
use Rattle.recorder.proofs.sum_of.Goals as goal

pub loop-i-init : goal.loop-i-init
loop-i-init c = record { small = omega arith; total = refl }

pub loop-i-preserved : goal.loop-i-preserved
loop-i-preserved c =
    let l = c.loop-i in
    let b = c.args.b.now in
    let more : c.from.result * (l.i + 1) ≤ 129_540 = product_small (omega arith) (omega arith) in
    record {
      small = omega arith;
      total = ap (λ x. l.sum + x * (l.i + 1)) c.from.ensures ∙ ap (λ n. n + get_or b l.i 0 * (l.i + 1)) l.invariant.total ∙ sym (sum_turn b l.i (search rules));
    }

pub returns : goal.returns
returns c =
    let l = c.loop-i in
    let e : l.i ≡ check_place = omega arith in
    l.invariant.total ∙ ap (λ n. weighed 1 (take n c.args.b.now)) e
