-- `pairing::pair_up` meets its contract. The invariant: the first i contacts have their choices, and those that are left find the rest. Assumes nothing.
use native.Mathlib.Omega.{arith}
use Rattle.pairing.proofs.Walked.{walked_start, walked_le, walked_choosable, walked_next, walked_end}
use Rattle.pairing.proofs.pair_up.Goals as goal

pub loop-i-init : goal.loop-i-init
loop-i-init c =
    let s = c in
    walked_start s.args.nx.now s.args.ny.now s.args.ox.now s.args.oy.now s.args.news s.args.olds s.requires.1 s.requires.0 c.all_of-free.result c.all_of-free.ensures.0

pub less-free-requires : goal.less-free-requires
less-free-requires c =
    let s = c in
    let l = c.loop-i in (
      omega (arith, l.invariant.set, c.all_of-free.ensures.0, c.all_of-free.ensures.1),
      walked_le s.args.nx.now s.args.ny.now s.args.ox.now s.args.oy.now s.args.news s.args.olds s.requires.1 s.requires.0 c.fill-made.result l.out l.free l.i c.fill-made.ensures l.invariant c.loop-i-test.true,
      walked_choosable s.args.nx.now s.args.ny.now s.args.ox.now s.args.oy.now s.args.news s.args.olds s.requires.1 s.requires.0 c.fill-made.result l.out l.free l.i c.fill-made.ensures l.invariant c.loop-i-test.true,
    )

pub loop-i-preserved : goal.loop-i-preserved
loop-i-preserved c =
    let s = c in
    let l = c.loop-i in
    walked_next s.args.nx.now s.args.ny.now s.args.ox.now s.args.oy.now s.args.news s.args.olds s.requires.1 s.requires.0 c.fill-made.result l.out l.free l.i c.fill-made.ensures l.invariant c.loop-i-test.true
    c.less-free.result
    c.less-free.ensures

pub returns : goal.returns
returns c =
    let s = c in
    let l = c.loop-i in
    walked_end s.args.nx.now s.args.ny.now s.args.ox.now s.args.oy.now s.args.news s.args.olds s.requires.1 s.requires.0 l.out l.free l.i (omega (arith, c.loop-i-test.false)) l.invariant
