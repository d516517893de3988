-- `lent_reader::tables_ok`: the tests of a state behind its setup, where it lies. Assumes nothing.
use borrow.Author.Tests.{lt-ltb}
use mathlib.Core.Path.{◌≡◌, sym, ◌∙◌}
use mathlib.Core.Bool.{◌&&◌}
use native.Mathlib.Omega.{arith}
use Rattle.model.specs.Table.{good_records, ids_differ}
use Rattle.records.specs.Seen.{word_at}
use Rattle.panel.specs.Seen.{table_of, fields_of}
use Rattle.lent_reader.specs.Layout.{current_at, unpacked}
use Rattle.lent_reader.proofs.Judged.{shown-part, pending-part, shown-bad, nothing_pends, pends_by}
use Rattle.lent_reader.proofs.tables_ok.Goals.{After-table_good}
use Rattle.lent_reader.proofs.tables_ok.Goals as goal

shown-is : (g : After-table_good) → (let u = g.args.setup in let t = table_of (unpacked g.args.b.now).shown in
    g.table_good.result ≡ (good_records (fields_of u) u.n t && ids_differ t))
shown-is g = shown-part g.args.setup g.args.b.now g.requires.1 _ g.table_good.ensures

pub returns-then-not-table_good : goal.returns-then-not-table_good
returns-then-not-table_good c =
    shown-bad c.args.setup c.args.b.now c.requires.1 (sym (shown-is (goal.at.returns-then-not-table_good c).After-table_good) ∙ c.if-not-table_good.true)

pub returns-then-tables_same : goal.returns-then-tables_same
returns-then-tables_same c =
    let fine = sym (shown-is (goal.at.returns-then-tables_same c).After-table_good) ∙ c.if-not-table_good.false in
    let at = c.wide.ensures ∙ c.word_at.ensures in
    let inside = lt-ltb (word_at c.args.b.now current_at) c.args.setup.n (omega (arith, c.if-setup-wide.false, at)) in
    nothing_pends c.args.setup c.args.b.now c.requires.1 fine inside (sym c.tables_same.ensures ∙ c.if-tables_same.true)

pub returns : goal.returns
returns c =
    let fine = sym (shown-is (goal.at.returns c).After-table_good) ∙ c.if-not-table_good.false in
    let at = c.wide.ensures ∙ c.word_at.ensures in
    let inside = lt-ltb (word_at c.args.b.now current_at) c.args.setup.n (omega (arith, c.if-setup-wide.false, at)) in
    pends_by c.args.setup c.args.b.now c.requires.1 fine inside c.if-b-ne0.false _ (pending-part c.args.setup c.args.b.now c.requires.1 _ c.table_ok.ensures)
