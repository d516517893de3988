-- `pointer::placed` is what a display should see while no id changes. Assumes nothing.
use mathlib.Core.Path.{refl, sym, ap}
use lib.IntN.{pos}
use Rattle.model.specs.Pointer.{still}
use Rattle.model.proofs.Pointed.{still-live}
use Rattle.pointer.proofs.Numbers.{positive}
use Rattle.pointer.proofs.placed.Goals as goal

pub returns-then-told-eq0 : goal.returns-then-told-eq0
returns-then-told-eq0 c =
    let a = c.args in
    let q = a.told in
    let none = sym c.if-told-eq0.true in
    let x = ap (λ t. still t (pos q.x) (pos a.oldest.x)) none in
    let y = ap (λ t. still t (pos q.y) (pos a.oldest.y)) none in
    λ i. record { touch = q.touch; tool = q.tool; x = x i; y = y i }

pub returns : goal.returns
returns c =
    let a = c.args in
    let q = a.told in
    let some = positive q.touch q.touch refl c.if-told-eq0.false in
    let x = sym (still-live q.touch (pos q.x) (pos a.oldest.x) some) in
    let y = sym (still-live q.touch (pos q.y) (pos a.oldest.y) some) in
    λ i. record { touch = q.touch; tool = q.tool; x = x i; y = y i }
