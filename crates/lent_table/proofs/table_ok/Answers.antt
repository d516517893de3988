-- `lent_table::table_ok` tells whether a lent table is good, whatever its ids. Assumes nothing.
use mathlib.Core.Path.{sym, ◌∙◌}
use lib.ListN.{take}
use Rattle.model.specs.Table.{good_records}
use Rattle.model.proofs.Bools.{holds}
use Rattle.model.proofs.Tables.{eq_table→eq}
use Rattle.common.proofs.Signs.{and-false}
use Rattle.panel.specs.Seen.{table_of, fields_of}
use Rattle.panel.proofs.Tables.{good_parts}
use Rattle.lent.specs.Lent.{table_in}
use Rattle.lent_table.proofs.Read.{full}
use Rattle.lent_table.proofs.table_ok.Goals as goal

pub slots_judged-requires : goal.slots_judged-requires
slots_judged-requires c = (c.requires.0, c.requires.1, eq_table→eq _ _ (holds _ (sym c.rest_unused.ensures ∙ c.if-rest_unused.true)))

pub returns-else-rest_unused : goal.returns-else-rest_unused
returns-else-rest_unused c =
    let u = c.args.setup in
    let t = table_in c.args.t.now in
    let front = good_records (fields_of u) u.n (table_of (take u.n t)) in
    c.if-rest_unused.false ∙ sym (good_parts u t (full c.args.t.now) ∙ and-false front _ (sym c.rest_unused.ensures ∙ c.if-rest_unused.false))
