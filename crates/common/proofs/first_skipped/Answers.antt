-- `common::first_skipped`: the first record skipped, by its type and code. Assumes nothing.
use borrow.Author.Rules.{rules}
use mathlib.Core.Path.{sym, ap, ◌∙◌}
use Prim.Native.Nat.{◌+◌, ◌*◌, ◌≤◌}
use lib.ListN.{length}
use Rattle.std.specs.Prelude.{Some}
use Rattle.model.specs.Events.{Event}
use Rattle.common.specs.Seen.{skipped_from}
use Rattle.common.proofs.Firsts.{within_some, at_some}
use Rattle.common.proofs.first_skipped.Goals.{Else-skipped-eq0}
use Rattle.common.proofs.first_skipped.Goals as goal

-- The record is there.
there : (c : Else-skipped-eq0) → 8 * c.args.first + 8 ≤ length c.args.bytes.now
there c =
    let a = c.args in
    within_some a.skipped a.first (length a.bytes.now) c.if-skipped-eq0.false c.requires

pub overflow_mul-first : goal.overflow_mul-first
overflow_mul-first c = let h = there (goal.at.overflow_mul-first c).Else-skipped-eq0 in search rules

pub record_at-e-requires : goal.record_at-e-requires
record_at-e-requires c = there (goal.at.record_at-e-requires c).Else-skipped-eq0

pub returns : goal.returns
returns c =
    let a = c.args in
    ap (λ (e : Event). Some (e.type, e.code)) c.record_at-e.ensures ∙ sym (ap skipped_from (at_some a.bytes.now a.skipped a.first c.if-skipped-eq0.false))
