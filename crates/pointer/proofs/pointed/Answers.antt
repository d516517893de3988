-- `pointer::pointed` is what a display should see. Assumes nothing.
use mathlib.Core.Path.{refl, sym}
use lib.IntN.{pos}
use Rattle.model.proofs.Pointed.{still-live}
use Rattle.pointer.proofs.Numbers.{positive}
use Rattle.pointer.proofs.pointed.Goals as goal

pub returns-then-live-eq0 : goal.returns-then-live-eq0
returns-then-live-eq0 c = rw c.if-live-eq0.true

pub returns : goal.returns
returns c =
    let tools = c in
    let e = tools in
    let a = e.args in
    let some = positive a.live a.live refl e.if-live-eq0.false in
    let x = sym (still-live a.live (pos a.told.x) (pos a.oldest.x) some) in
    let y = sym (still-live a.live (pos a.told.y) (pos a.oldest.y) some) in
    λ i. record { touch = c.touch_of.ensures i; tool = tools.tool_of.ensures i; x = x i; y = y i }
