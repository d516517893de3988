-- `frame::numbers_in` tells whether a frame may give a contact its numbers: one chain of tests. Assumes nothing.
use borrow.Author.Rules.{rules}
use mathlib.Core.Path.{sym}
use mir.Syntax.{w32}
use mir.Val.{SFits}
use Rattle.common.proofs.Signs.{join, last}
use Rattle.frame.proofs.Ranges.{judged}
use Rattle.frame.proofs.numbers_in.Goals.{Start}
use Rattle.frame.proofs.numbers_in.Goals as goal

-- The row's numbers are of 32 bits.
record Fits (s : Start) : Type 0 where
  x : SFits w32 s.args.r.x
  y : SFits w32 s.args.r.y
  pressure : SFits w32 s.args.r.pressure
  major : SFits w32 s.args.r.major
  minor : SFits w32 s.args.r.minor

fitting : (s : Start) → Fits s
fitting s = record { x = search rules; y = search rules; pressure = search rules; major = search rules; minor = search rules }

pub returns : goal.returns
returns c =
    let four = c in
    let three = four in
    let two = three in
    let one = two in
    let s = one in
    let u = s.args.setup in
    let r = s.args.r in
    let f = fitting (goal.at.returns s).Start in
    join (sym (judged _ r.x 0 u.x f.x one.in_range.ensures))
    (join (sym (judged _ r.y 0 u.y f.y two.in_range-2.ensures))
    (join (sym (judged _ r.pressure 1 u.pressure f.pressure three.in_range-3.ensures))
    (join (sym (judged _ r.major 0 u.major f.major four.in_range-4.ensures))
    (last (sym (judged _ r.minor 0 u.minor f.minor c.in_range-5.ensures))))))
