-- `pairing::marks_of` meets its contract. The invariant: what is marked is what the first numbers hold. Assumes nothing.
use native.Mathlib.Omega.{arith}
use Rattle.pairing.proofs.Marks.{mark-next, mark_end}
use Rattle.pairing.proofs.marks_of.Goals as goal

pub loop-c-preserved : goal.loop-c-preserved
loop-c-preserved c =
    let s = c in
    let l = c.loop-c in (
      omega (arith, c.loop-c-test.true),
      mark-next s.args.pairing.now l.c-index l.marks s.requires.0 (omega (arith, s.requires.1, c.loop-c-test.true)) l.invariant.1,
    )

pub returns : goal.returns
returns c =
    let s = c in
    let l = c.loop-c in
    mark_end s.args.pairing.now l.c-index l.marks (omega (arith, s.requires.1, c.loop-c-test.false)) l.invariant.1
