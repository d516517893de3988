-- `packets::closed`: SYN_MT_REPORT in the walk. Assumes nothing.
use mathlib.Core.Path.{sym, ◌∙◌}
use borrow.Author.Tests.{not-true, not-false}
use Rattle.packets.specs.Walk.{walk_of}
use Rattle.packets.proofs.Steps.{closes_contact, closes_none}
use Rattle.packets.proofs.closed.Goals as goal

pub returns-then-begun : goal.returns-then-begun
returns-then-begun c =
    let b = c in
    closes_contact (walk_of b.args.w) c.whole.result (not-true _ (sym b.begun.ensures ∙ c.if-begun.true)) c.whole.ensures

pub returns-else-begun : goal.returns-else-begun
returns-else-begun c =
    let b = c in
    closes_none (walk_of b.args.w) (not-false _ (sym b.begun.ensures ∙ c.if-begun.false))
