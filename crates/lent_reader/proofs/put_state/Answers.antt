-- `lent_reader::put_state` stores the head and what stands behind it. Assumes nothing.
use mathlib.Core.Path.{ap, ◌∙◌}
use Prim.Native.Nat.{◌+◌, ◌≤◌}
use lib.ListN.{length}
use Rattle.model.specs.Records.{lay}
use Rattle.records.proofs.Over.{lay-lay}
use Rattle.lent_reader.specs.Layout.{head_bytes, body_bytes}
use borrow.Author.Rules.{rules}
use Rattle.lent_reader.proofs.put_state.Goals as goal

pub returns : goal.returns
returns c =
    let a = c.args in
    let head = head_bytes a.kind a.s.mode a.more in
    let size : 0 + length head ≤ length a.b.now = search rules in
    c.put_body.ensures ∙ ap (lay 4 (body_bytes a.s)) c.put_head.ensures ∙ lay-lay 0 head (body_bytes a.s) a.b.now size
