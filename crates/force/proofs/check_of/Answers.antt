-- `force::check_of` is the exclusive or of all bytes: what was gathered and what is left give the whole. Assumes nothing.
use mathlib.Core.Path.{sym, ap, ◌∙◌}
use Prim.Native.Nat.{◌≤◌}
use native.Mathlib.Numerals.{add-one}
use lib.ListN.{length, drop_of_length-le}
use lib.Seq.{drop-cons}
use borrow.Author.Rules.{rules}
use Rattle.model.specs.Force.{xor_after, check_of}
use Rattle.force.proofs.check_of.Goals as goal

pub loop-b-preserved : goal.loop-b-preserved
loop-b-preserved c =
    let l = c.loop-b in
    let s = c.args.bytes.now in
    rw add-one (l.invariant ∙ ap (xor_after l.sum) (drop-cons s l.b-index 0 (search rules)))

pub returns : goal.returns
unfolding check_of
returns c =
    let l = c.loop-b in
    let s = c.args.bytes.now in
    let end : length s ≤ l.b-index = search rules in
    sym (l.invariant ∙ ap (xor_after l.sum) (drop_of_length-le s end))
