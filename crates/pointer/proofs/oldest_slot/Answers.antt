-- `pointer::oldest_slot` is the first live slot of rank 0, or 0. The loop has passed i slots without one. Assumes nothing.
use mathlib.Core.Path.{◌≡◌, sym, ap, ◌∙◌}
use mathlib.Core.Bool.{cond, ◌&&◌}
use Prim.Native.Nat.{suc, ◌≤◌, ◌<◌, ◌+◌}
use native.Mathlib.Omega.{arith}
use lib.Dec.{eqb}
use lib.IntN.{pos}
use lib.ListN.{drop, get_or}
use mir.Syntax.{w32}
use mir.Val.{SFits}
use mir.ValLaws.{to_z-of_z}
use Rattle.model.specs.Panel.{records}
use Rattle.model.specs.Table.{live}
use Rattle.model.specs.Pointer.{oldest_slot}
use Rattle.pointer.proofs.Turns.{oldest_turn}
use Rattle.pointer.proofs.Idle.{idle_oldest}
use Rattle.pointer.proofs.Numbers.{oldest_found, oldest_none}
use borrow.Author.Rules.{rules}
use Rattle.pointer.proofs.oldest_slot.Goals.{After-lives}
use Rattle.pointer.proofs.oldest_slot.Goals as goal

-- Whether the record is a live one of rank 0.
found : (c : After-lives) → (let a = c.args in let i = c.loop-i.i in
    (live (get_or a.ids.now i (pos 0)) && eqb (get_or a.ranks.now i 0) 0) ≡ (c.lives.result && eqb (get_or a.ranks.now i 0) 0))
found c =
    let a = c.args in
    let i = c.loop-i.i in
    let w = get_or a.ids.now i (pos 0) in
    let f : SFits w32 w = search rules in
    ap (λ b. b && eqb (get_or a.ranks.now i 0) 0) (sym (c.lives.ensures ∙ ap live (to_z-of_z w32 w f)))

pub returns-then-lives-ranks : goal.returns-then-lives-ranks
returns-then-lives-ranks c =
    let a = c.args in
    let l = c.loop-i in
    let ids = a.ids.now in
    let ranks = a.ranks.now in
    let turn = oldest_turn ids ranks l.i (search rules) (search rules) ∙ ap (λ b. cond b 0 (suc (oldest_slot (drop (l.i + 1) ids) (drop (l.i + 1) ranks)))) (found (goal.at.returns-then-lives-ranks c).After-lives ∙ c.if-lives-ranks.true) in
    let e : l.i ≡ oldest_slot ids ranks = omega (arith, l.invariant.1, turn) in
    let inside : l.i < records = search rules in
    (inside, oldest_found (oldest_slot ids ranks) l.i e inside)

pub loop-i-preserved : goal.loop-i-preserved
loop-i-preserved c =
    let a = c.args in
    let l = c.loop-i in
    let ids = a.ids.now in
    let ranks = a.ranks.now in
    let turn = oldest_turn ids ranks l.i (search rules) (search rules) ∙ ap (λ b. cond b 0 (suc (oldest_slot (drop (l.i + 1) ids) (drop (l.i + 1) ranks)))) (found (goal.at.loop-i-preserved c).After-lives ∙ c.if-lives-ranks.false) in
    (search rules, omega (arith, l.invariant.1, turn))

pub returns : goal.returns
returns c =
    let l = c.loop-i in
    let a = c.args in
    let p = c.requires in
    let end : l.i ≡ a.n = omega (arith, l.invariant.0, c.loop-i-test.false) in
    let over = ap (λ k. oldest_slot (drop k a.ids.now) (drop k a.ranks.now)) end ∙ idle_oldest a.n a.ids.now p.0 a.ranks.now p.1 in
    let beyond : records ≤ oldest_slot a.ids.now a.ranks.now = omega (arith, l.invariant.1, over, end, p.0.few) in
    (omega arith, oldest_none (oldest_slot a.ids.now a.ranks.now) beyond)
