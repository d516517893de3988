-- `writer::state_ok` tells whether a state is well formed, test by test. Assumes nothing.
use mathlib.Core.Path.{◌≡◌, refl, sym, ◌∙◌}
use mathlib.Core.Bool.{Bool, true, false, ◌&&◌}
use lib.Dec.{ltb}
use lib.ListN.{length}
use borrow.Author.Tests.{le-ltb, lt-ltb}
use Rattle.model.specs.Panel.{base, setup_good, records, id_count}
use Rattle.model.specs.Table.{ids_differ, good_records}
use Rattle.panel.specs.Seen.{table_of, setup_of, fields_of}
use Rattle.model.proofs.Bools.{and_left}
use Rattle.panel.proofs.Tables.{unmapped, good-rest}
use Rattle.panel.proofs.Setups.{small}
use Rattle.writer.proofs.States.{pointing_good, good_by}
use borrow.Author.Rules.{rules}
use Rattle.writer.proofs.state_ok.Goals.{Else-not-setup_ok, Else-not-table_good, Start}
use Rattle.writer.proofs.state_ok.Goals as goal

full : (s : Start) → length s.args.s.table ≡ records
full s = search (rules, unmapped)

abbrev table : Start → Bool
table s = good_records (fields_of s.args.s.setup) s.args.s.setup.n (table_of s.args.s.table) && ids_differ (table_of s.args.s.table)

abbrev table-at-Else-not-table_good : Else-not-table_good → Bool
table-at-Else-not-table_good s = good_records (fields_of s.args.s.setup) s.args.s.setup.n (table_of s.args.s.table) && ids_differ (table_of s.args.s.table)

setup-is : (c : Else-not-setup_ok) → setup_good base (setup_of c.args.s.setup) ≡ true
setup-is c = sym c.setup_ok.ensures ∙ c.if-not-setup_ok.false

table_is : (c : Else-not-table_good) → table-at-Else-not-table_good c ≡ true
table_is c = sym c.table_good.ensures ∙ c.if-not-table_good.false

pub returns-then-not-setup_ok : goal.returns-then-not-setup_ok
returns-then-not-setup_ok c =
    let here = (goal.at.returns-then-not-setup_ok c).Start in
    let k = c in
    let s = k in
    let e : setup_good base (setup_of s.args.s.setup) ≡ false = sym k.setup_ok.ensures ∙ c.if-not-setup_ok.true in
    sym (good_by s.args.s (full here) false (table here) (ltb s.args.s.current.0 s.args.s.setup.n) (ltb s.args.s.counter id_count) (pointing_good s.args.s) e refl refl refl refl)

pub returns-then-not-table_good : goal.returns-then-not-table_good
returns-then-not-table_good c =
    let at = goal.at.returns-then-not-table_good c in
    let k = c in
    let e = k in
    let s = e in
    let z : table at.Start ≡ false = sym k.table_good.ensures ∙ c.if-not-table_good.true in
    sym (good_by s.args.s (full at.Start) true false (ltb s.args.s.current.0 s.args.s.setup.n) (ltb s.args.s.counter id_count) (pointing_good s.args.s) (setup-is at.Else-not-setup_ok) z refl refl refl)

pub returns-then-setup-s : goal.returns-then-setup-s
returns-then-setup-s c =
    let at = goal.at.returns-then-setup-s c in
    let r = c in
    let e = r in
    let s = e in
    let past = le-ltb s.args.s.current.0 s.args.s.setup.n c.if-setup-s.true in
    sym (good_by s.args.s (full at.Start) true true false (ltb s.args.s.counter id_count) (pointing_good s.args.s) (setup-is at.Else-not-setup_ok) (table_is at.Else-not-table_good) past refl refl)

pub returns-then-s-ge-COUNT : goal.returns-then-s-ge-COUNT
returns-then-s-ge-COUNT c =
    let at = goal.at.returns-then-s-ge-COUNT c in
    let i = c in
    let r = i in
    let e = r in
    let s = e in
    let inside = lt-ltb s.args.s.current.0 s.args.s.setup.n i.if-setup-s.false in
    let much = le-ltb s.args.s.counter id_count c.if-s-ge-COUNT.true in
    sym (good_by s.args.s (full at.Start) true true true false (pointing_good s.args.s) (setup-is at.Else-not-setup_ok) (table_is at.Else-not-table_good) inside much refl)

pub pointing_ok-requires : goal.pointing_ok-requires
pointing_ok-requires c =
    let at = goal.at.pointing_ok-requires c in
    let j = c in
    let i = j in
    let r = i in
    let e = r in
    let s = e in
    record { few = (small s.args.s.setup (setup-is at.Else-not-setup_ok)).n; rest = good-rest s.args.s.setup s.args.s.table (full at.Start) (and_left _ (ids_differ (table_of s.args.s.table)) (table_is at.Else-not-table_good)) }

pub returns : goal.returns
returns c =
    let at = goal.at.returns c in
    let j = c in
    let i = j in
    let r = i in
    let e = r in
    let s = e in
    let inside = lt-ltb s.args.s.current.0 s.args.s.setup.n i.if-setup-s.false in
    let few = lt-ltb s.args.s.counter id_count j.if-s-ge-COUNT.false in
    sym (good_by s.args.s (full at.Start) true true true true c.pointing_ok.result (setup-is at.Else-not-setup_ok) (table_is at.Else-not-table_good) inside few (sym c.pointing_ok.ensures))
