-- `lent_table::slot_of` reads the slot of that number. Assumes nothing.
use mathlib.Core.Path.{◌∙◌}
use Rattle.lent_table.proofs.Read.{slot_is}
use Rattle.lent_table.proofs.slot_of.Goals as goal

pub returns : goal.returns
returns c =
    c.slot_at.ensures ∙ slot_is c.args.t.now c.args.s c.requires.0
