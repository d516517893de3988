-- `pointer::live_count` counts live ids. The loop has counted those of the first i. Assumes nothing.
use mathlib.Core.Bool.{Bool, true, false}
use mathlib.Core.Path.{◌≡◌, sym, ap, ◌∙◌}
use Prim.Native.Nat.{◌<◌, ◌+◌}
use native.Mathlib.Omega.{arith}
use lib.IntN.{pos}
use lib.ListN.{length, drop, get_or}
use mir.Syntax.{w32}
use mir.Val.{SFits}
use mir.ValLaws.{to_z-of_z}
use Rattle.model.specs.Table.{live}
use Rattle.model.specs.Ranks.{one_more_if, live_count}
use Rattle.pointer.proofs.Turns.{live-turn}
use Rattle.pointer.proofs.Idle.{idle_live}
use borrow.Author.Rules.{rules}
use Rattle.pointer.proofs.live_count.Goals.{After-lives, then-lives, else-lives}
use Rattle.pointer.proofs.live_count.Goals as goal

-- Whether the id that was read is live.
found : (c : After-lives) → live (get_or c.args.ids.now c.loop-i.i (pos 0)) ≡ c.lives.result
found c =
    let w = get_or c.args.ids.now c.loop-i.i (pos 0) in
    let f : SFits w32 w = search rules in
    sym (c.lives.ensures ∙ ap live (to_z-of_z w32 w f))

inside : (c : After-lives) → c.loop-i.i < length c.args.ids.now
inside c =
    let s = c in
    omega (arith, c.loop-i-test.true, s.requires.few, s.requires.whole)

pub loop-i-preserved : goal.loop-i-preserved
loop-i-preserved c =
    let l = c.loop-i in
    let ids = c.args.ids.now in
    let here = (goal.at.loop-i-preserved c).After-lives in
    let turn = λ (b : Bool) (e : c.lives.result ≡ b). live-turn ids l.i (inside here) ∙ ap (λ b. one_more_if b (live_count (drop (l.i + 1) ids))) (found here ∙ e) in
    elim c.if-lives.branch [
      | then-lives w ↦ (search rules, omega (arith, w.count-is), omega (arith, l.invariant.2, turn true w.if-lives.true, w.count-is))
      | else-lives w ↦ (search rules, omega (arith, w.count-is), omega (arith, l.invariant.2, turn false w.if-lives.false, w.count-is))
    ]

pub returns : goal.returns
returns c =
    let l = c.loop-i in
    let ids = c.args.ids.now in
    let s = c in
    let end : l.i ≡ s.args.n = omega (arith, l.invariant.0, c.loop-i-test.false) in
    let over = ap (λ k. live_count (drop k ids)) end ∙ idle_live s.args.n ids s.requires in
    let e : l.count ≡ live_count ids = omega (arith, l.invariant.2, over) in
    (e, omega (arith, l.invariant.0, l.invariant.1, s.requires.few))
