-- `lent_table::table_good` tells whether a lent table is as a state's should be. Assumes nothing.
use mathlib.Core.Path.{sym, ap, subst, ◌∙◌}
use mathlib.Core.Bool.{◌&&◌}
use lib.ListN.{take}
use Rattle.model.specs.Table.{good_records, ids_differ}
use Rattle.model.proofs.Bools.{holds}
use Rattle.model.proofs.Tables.{eq_table→eq}
use Rattle.common.proofs.Signs.{and-false}
use Rattle.panel.specs.Seen.{table_of, fields_of, unused_all, SameFrom}
use Rattle.panel.proofs.Tables.{good_parts}
use Rattle.lent.specs.Lent.{table_in}
use Rattle.lent_table.proofs.Read.{full}
use Rattle.lent_table.proofs.table_good.Goals as goal

pub returns-then-not-rest_unused : goal.returns-then-not-rest_unused
returns-then-not-rest_unused c =
    let u = c.args.setup in
    let front = good_records (fields_of u) u.n (table_of (take u.n (table_in c.args.t.now))) in
    let used = sym c.rest_unused.ensures ∙ c.if-not-rest_unused.true in
    let bad = good_parts u (table_in c.args.t.now) (full c.args.t.now) ∙ and-false front _ used in
    sym (ap (λ b. b && (ids_differ (table_of (table_in c.args.t.now)))) bad)

pub slots_judged-told-requires : goal.slots_judged-told-requires
slots_judged-told-requires c = (c.requires.0, c.requires.1, eq_table→eq _ _ (holds _ (sym c.rest_unused.ensures ∙ c.if-not-rest_unused.false)))

pub ids_differ-requires : goal.ids_differ-requires
ids_differ-requires c =
    let never = eq_table→eq _ _ (holds _ (sym c.rest_unused.ensures ∙ c.if-not-rest_unused.false)) in
    (c.requires.0, subst (λ l. SameFrom c.args.setup.n l unused_all) (sym c.table_at.ensures) never)
