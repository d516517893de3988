-- `anonymous::frame_of` makes a frame of the contacts' numbers. The loop has made s rows. Assumes nothing.
use borrow.Author.Rules.{rules}
use mathlib.Core.Path.{◌≡◌}
use native.Mathlib.Omega.{arith}
use lib.IntN.{ℤ}
use lib.ListN.{length, get_or}
use mir.Syntax.{w32}
use mir.Val.{SFits, to_z, of_z}
use mir.ValLaws.{to_z-of_z}
use Rattle.model.specs.Panel.{records}
use Rattle.model.specs.Pairing.{alone}
use Rattle.anonymous.proofs.Frames.{frames_none, frames_one, framed_all}
use Rattle.anonymous.proofs.frame_of.Goals.{Start, then-c-lt-MOST, else-c-lt-MOST}
use Rattle.anonymous.proofs.frame_of.Goals as goal

full : (s : Start) → length s.args.numbers ≡ records
full s = search rules

-- A signed number that is stored is read back.
own : (z : ℤ) → SFits w32 z → to_z w32 (of_z w32 z) ≡ z
own z f = to_z-of_z w32 z f

pub loop-s-preserved : goal.loop-s-preserved
loop-s-preserved c =
    let p = c.args.p in
    let here = (goal.at.loop-s-preserved c).Start in
    elim c.if-c-lt-MOST.branch [
      | then-c-lt-MOST w ↦
          rw w.f-is (frames_one p.x p.y p.pressure c.loop-s.invariant c.requires.0 (full here) c.loop-s-test.true _ _ _ w.if-c-lt-MOST.true
          (own _ (search rules)) (own _ (search rules)) (own _ (search rules)))
      | else-c-lt-MOST w ↦
          let z : get_or c.args.numbers c.loop-s.s 0 ≡ alone = omega (arith, w.if-c-lt-MOST.false, c.requires.1 c.loop-s.s) in
          rw w.f-is (frames_none c.loop-s.invariant c.requires.0 (full here) c.loop-s-test.true z)
    ]

pub returns : goal.returns
returns c = framed_all c.loop-s.invariant c.loop-s-test.false
