-- `reader::tables_ok`: the tests of a reader's state after its setup, in the model's order. Assumes nothing.
use borrow.Author.Rules.{rules}
use borrow.Author.Tests.{le-ltb, lt-ltb}
use mathlib.Core.Path.{◌≡◌, sym, ◌∙◌}
use lib.ListN.{length}
use Rattle.model.specs.Panel.{records}
use Rattle.model.specs.Table.{good_table, ids_differ}
use Rattle.panel.specs.Seen.{panel_seen, table_of, unused_all, SameFrom}
use Rattle.panel.proofs.Tables.{unmapped, table-good, good-rest}
use Rattle.reader.proofs.tables_ok.Goals.{After-ids_differ, After-table_ok, After-table_ok-2, Else-not-table_ok-2}
use Rattle.reader.proofs.tables_ok.Goals as goal

shown_rest : (c : After-table_ok-2) → (let s = c.args.s in SameFrom s.setup.n s.shown unused_all)
shown_rest c =
    let t = c in
    let s = t.args.s in
    let len : length s.shown ≡ records = search (rules, unmapped) in
    good-rest s.setup s.shown len (sym t.table_ok.ensures ∙ c.if-not-table_ok.false)

pending-rest : (c : Else-not-table_ok-2) → (let s = c.args.s in SameFrom s.setup.n s.pending unused_all)
pending-rest c =
    let p = c in
    let s = p.args.s in
    let len : length s.pending ≡ records = search (rules, unmapped) in
    good-rest s.setup s.pending len (sym p.table_ok-2.ensures ∙ c.if-not-table_ok-2.false)

shown-is : (c : After-table_ok) → c.table_ok.result ≡ good_table (panel_seen c.args.s.setup) (table_of c.args.s.shown)
shown-is c =
    let s = c.args.s in
    let len : length s.shown ≡ records = search (rules, unmapped) in
    c.table_ok.ensures ∙ sym (table-good s.setup s.shown len)

pending-is : (c : After-table_ok-2) → c.table_ok-2.result ≡ good_table (panel_seen c.args.s.setup) (table_of c.args.s.pending)
pending-is c =
    let s = c.args.s in
    let len : length s.pending ≡ records = search (rules, unmapped) in
    c.table_ok-2.ensures ∙ sym (table-good s.setup s.pending len)

ids-are : (c : After-ids_differ) → c.ids_differ.result ≡ ids_differ (table_of c.args.s.shown)
ids-are c = c.ids_differ.ensures

pub returns-then-not-table_ok : goal.returns-then-not-table_ok
returns-then-not-table_ok c = rw (← shown-is (goal.at.returns-then-not-table_ok c).After-table_ok, c.if-not-table_ok.true)

pub returns-then-not-table_ok-2 : goal.returns-then-not-table_ok-2
returns-then-not-table_ok-2 c =
    let t = c in
    rw (← shown-is (goal.at.returns-then-not-table_ok-2 t).After-table_ok, c.if-not-table_ok.false, ← pending-is (goal.at.returns-then-not-table_ok-2 c).After-table_ok-2, c.if-not-table_ok-2.true)

pub ids_differ-requires : goal.ids_differ-requires
ids_differ-requires c = (c.requires, shown_rest (goal.at.ids_differ-requires c).After-table_ok-2)

pub returns-then-not-ids_differ : goal.returns-then-not-ids_differ
returns-then-not-ids_differ c =
    let p = c in
    let t = p in
    rw (← shown-is (goal.at.returns-then-not-ids_differ t).After-table_ok, p.if-not-table_ok.false, ← pending-is (goal.at.returns-then-not-ids_differ p).After-table_ok-2, c.if-not-table_ok-2.false, ← ids-are (goal.at.returns-then-not-ids_differ c).After-ids_differ, c.if-not-ids_differ.true)

pub returns-then-setup-current : goal.returns-then-setup-current
returns-then-setup-current c =
    let i = c in
    let p = i in
    let t = p in
    let s = t.args.s in
    rw (← shown-is (goal.at.returns-then-setup-current t).After-table_ok, p.if-not-table_ok.false, ← pending-is (goal.at.returns-then-setup-current p).After-table_ok-2, i.if-not-table_ok-2.false, ← ids-are (goal.at.returns-then-setup-current i).After-ids_differ, c.if-not-ids_differ.false, le-ltb s.current.0 s.setup.n c.if-setup-current.true)

pub settled_ok-requires : goal.settled_ok-requires
settled_ok-requires c =
    let e = c in
    (e.requires, shown_rest (goal.at.settled_ok-requires e).After-table_ok-2 ∙ sym (pending-rest (goal.at.settled_ok-requires e).Else-not-table_ok-2))

pub returns : goal.returns
returns c =
    let i = c in
    let p = i in
    let t = p in
    let s = t.args.s in
    rw (← shown-is (goal.at.returns t).After-table_ok, p.if-not-table_ok.false, ← pending-is (goal.at.returns p).After-table_ok-2, i.if-not-table_ok-2.false, ← ids-are (goal.at.returns i).After-ids_differ, c.if-not-ids_differ.false, lt-ltb s.current.0 s.setup.n c.if-setup-current.false) c.settled_ok.ensures
