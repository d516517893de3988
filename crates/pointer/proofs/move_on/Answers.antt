-- `pointer::move_on` moves ranks and what is told, where the option is on. Assumes nothing.
use mathlib.Core.Path.{refl, sym, subst}
use Rattle.pointer.specs.Moved.{MovesBy}
use Rattle.pointer.proofs.move_on.Goals as goal

pub returns-then-on : goal.returns-then-on
returns-then-on c =
    let s = c in
    let a = s.args in
    subst (λ b. MovesBy b a.old a.new a.last.ranks a.last.told c.moves.result) (sym c.if-on.true) c.moves.ensures

pub returns : goal.returns
returns c =
    let s = c in
    let a = s.args in
    subst (λ b. MovesBy b a.old a.new a.last.ranks a.last.told a.last) (sym c.if-on.false) refl
