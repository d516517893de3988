-- `lent_writer::put_ranks` stores the ranks in their places. Assumes nothing.
use mathlib.Core.Path.{◌≡◌, ap, ap₂, ◌∙◌}
use mathlib.Core.List.{List, ◌++◌}
use Prim.Native.Nat.{ℕ, ◌+◌}
use native.Mathlib.Omega.{arith}
use lib.ListN.{length, take, drop}
use borrow.Author.Rules.{rules}
use borrow.Rule.Slice.PartMut.{Post-is}
use Rattle.model.specs.Panel.{records}
use Rattle.model.specs.Records.{lay}
use Rattle.lent_writer.specs.Layout.{state_size, ranks_at}
use Rattle.lent_writer.proofs.put_ranks.Goals as goal

pub returns : goal.returns
unfolding lay
returns c =
    let a = c.args in
    let full : length a.ranks ≡ records = search rules in
    let end : state_size ≡ ranks_at + length a.ranks = omega arith in
    let behind = Post-is ranks_at state_size a.b.now (omega arith) ∙ ap (λ n. drop n a.b.now) end in
    ap₂ (λ (xs ys : List ℕ). take ranks_at a.b.now ++ (xs ++ ys)) c.copy_from_slice.ensures.after behind
