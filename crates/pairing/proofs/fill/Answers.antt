-- `pairing::fill` meets its contract. The invariant: the tables are those of the old contacts from i on. Assumes nothing.
use mathlib.Core.Path.{◌≡◌}
use Prim.Native.Nat.{suc, ◌-◌, ◌<◌}
use native.Mathlib.Omega.{arith}
use Rattle.model.specs.Pairing.{points}
use Rattle.pairing.proofs.Filled.{filled_start, filled_next, filled_move}
use Rattle.pairing.proofs.fill.Goals as goal

pub loop-i-init : goal.loop-i-init
loop-i-init c =
    let s = c in
    filled_start (points s.args.news 0 s.args.nx.now s.args.ny.now) s.args.ox.now s.args.oy.now s.args.olds s.args.news (omega (arith, c.all_of-all.ensures.0, c.all_of-all.ensures.1))

pub loop-i-preserved : goal.loop-i-preserved
loop-i-preserved c =
    let a = c in
    let s = a in
    let l = c.loop-i in
    let ns = points s.args.news 0 s.args.nx.now s.args.ny.now in
    let z : l.i ≡ suc (l.i - 1) = omega (arith, c.loop-i-test.true) in
    let h : l.i - 1 < s.args.olds = omega (arith, l.invariant.far, z) in
    let d = c.offers-d in
    filled_next s.args.nx.now s.args.ny.now s.args.ox.now s.args.oy.now s.args.news s.args.olds (l.i - 1) s.requires.1 h l.row l.made
    (filled_move ns s.args.ox.now s.args.oy.now s.args.olds s.args.news l.i (suc (l.i - 1)) l.row l.made z l.invariant)
    d.result
    c.turn.new.row
    c.turn.new.made
    d.ensures.0
    (rw a.all_of-all.ensures.0 at c.turn.ensures)

pub returns : goal.returns
returns c =
    let s = c in
    let l = c.loop-i in
    let ns = points s.args.news 0 s.args.nx.now s.args.ny.now in
    (filled_move ns s.args.ox.now s.args.oy.now s.args.olds s.args.news l.i 0 l.row l.made (omega (arith, c.loop-i-test.false)) l.invariant).choices
