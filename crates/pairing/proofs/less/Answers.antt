-- `pairing::less` meets its contract. Assumes nothing.
use mathlib.Core.Path.{◌≡◌, ap}
use mathlib.Core.Bool.{true, ◌||◌}
use Prim.Native.Nat.{◌-◌, ◌/◌, ◌%◌, ◌^◌, ◌<◌}
use native.Mathlib.Omega.{arith}
use lib.Dec.{eqb}
use borrow.Author.Tests.{eq-eqb, ne_eqb, eqb-true}
use Rattle.model.specs.Pairing.{alone}
use Rattle.pairing.specs.Cells.{holds}
use Rattle.pairing.proofs.Sets.{power, bit_le}
use Rattle.pairing.proofs.less.Goals as goal

pub returns-then-c-eq-NEWS : goal.returns-then-c-eq-NEWS
returns-then-c-eq-NEWS c = rw (eq-eqb c.args.c 5 c.if-c-eq-NEWS.true)

pub overflow_sub-result : goal.overflow_sub-result
overflow_sub-result c =
    let s = c in
    let n : s.args.c < 5 = omega (arith, s.requires.1, c.if-c-eq-NEWS.false) in
    let o : (eqb s.args.c alone || holds s.args.free s.args.c) ≡ true = s.requires.2 in
    let h : holds s.args.free s.args.c ≡ true = rw (ne_eqb s.args.c alone c.if-c-eq-NEWS.false) at o in
    omega (arith, power s.args.c s.requires.1, bit_le s.args.free s.args.c n (eqb-true (s.args.free / 2 ^ s.args.c % 2) 1 h))

pub returns : goal.returns
returns c =
    rw (ne_eqb c.args.c alone c.if-c-eq-NEWS.false) (ap (λ z. c.args.free - z) (power c.args.c c.requires.1))
