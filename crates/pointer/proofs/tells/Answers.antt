-- `pointer::tells` is how many events tell a display. Assumes nothing.
use native.Mathlib.Omega.{arith}
use lib.ListN.{length-append}
use Rattle.model.specs.Pointer.{events_before, events_after, swaps, moves}
use Rattle.model.proofs.EmulatedNumbers.{length_before, length-swaps, length-moves}
use Rattle.pointer.specs.Seen.{pointer_of}
use Rattle.pointer.proofs.tells.Goals as goal

pub returns : goal.returns
returns c =
    let s = c in
    let q = pointer_of s.args.q in
    let z = pointer_of s.args.z in
    let u5 = c.unlike-5 in
    let u4 = c.unlike-4 in
    let u3 = c.unlike-3 in
    let u2 = c.unlike-2 in
    let u1 = c.unlike in
    let all = length-append (events_before q z) (events_after q z) in
    let later = length-append (swaps q.tool z.tool) (moves q z) in (
      omega (arith, all, later, length_before q z, length-swaps q.tool z.tool, length-moves q z, u1.ensures.1, u2.ensures.1, u3.ensures.1, u4.ensures.1, u5.ensures.1),
      omega (arith, u1.ensures.0, u2.ensures.0, u3.ensures.0, u4.ensures.0, u5.ensures.0),
    )
