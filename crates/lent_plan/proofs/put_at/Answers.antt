-- `lent_plan::put_at` stores a slot in its place. Assumes nothing.
use borrow.Author.Rules.{rules}
use mathlib.Core.Path.{ap, ◌∙◌}
use Rattle.lent.specs.Lent.{table_in, SlotFits}
use Rattle.lent_plan.proofs.Bytes.{slot_put}
use Rattle.lent_plan.proofs.put_at.Goals as goal

pub returns : goal.returns
returns c =
    let a = c.args in
    let fits : SlotFits a.w = record { id = search rules; x = search rules; y = search rules; pressure = search rules; major = search rules; minor = search rules } in
    ap table_in c.put_slot.ensures ∙ slot_put a.t.now a.s c.requires.0 a.w fits c.requires.1
