-- `lent_writer::judged` tells whether a state is well formed, test by test. Assumes nothing.
use mathlib.Core.Path.{◌≡◌, refl, sym, ap, ap₂, subst, ◌∙◌}
use mathlib.Core.List.{List}
use Prim.Native.Nat.{ℕ}
use mathlib.Core.Bool.{Bool, true, false, ◌&&◌}
use native.Mathlib.Omega.{arith}
use lib.Dec.{ltb}
use borrow.Author.Tests.{le-ltb, lt-ltb}
use Rattle.model.specs.Panel.{base, setup_good, id_count}
use Rattle.model.specs.Table.{ids_differ, good_records}
use Rattle.model.specs.Pointing.{good_pointing}
use Rattle.panel.specs.declared.Setup.{Setup}
use Rattle.panel.specs.Seen.{table_of, setup_of, fields_of, panel_seen}
use Rattle.model.proofs.Bools.{and_left}
use Rattle.panel.proofs.Setups.{small}
use Rattle.panel.proofs.Tables.{good-rest}
use Rattle.pointer.specs.Seen.{pointing_of}
use Rattle.pointer.specs.Moved.{Unused}
use Rattle.writer.specs.declared.WriterState.{WriterState}
use Rattle.writer.proofs.States.{pointing_good, good_by}
use Rattle.lent_writer.specs.Seen.{unpacked}
use Rattle.lent_writer.proofs.Outcomes.{table_is, table-full}
use Rattle.lent_writer.proofs.judged.Goals.{After-setup_ok, After-table_good}
use Rattle.lent_writer.proofs.judged.Goals as goal

-- The tests of a state's table, its current slot and its counter.
module _ (b : List ℕ) where
  abbrev s : WriterState
  s = unpacked b

  abbrev table : Bool
  table = good_records (fields_of s.setup) s.setup.n (table_of s.table) && ids_differ (table_of s.table)

  abbrev current : Bool
  current = ltb s.current.0 s.setup.n

  abbrev counter : Bool
  counter = ltb s.counter id_count

setup-is : (c : After-setup_ok) → c.setup_ok.result ≡ setup_good base (setup_of (unpacked c.args.b.now).setup)
setup-is c = c.setup_ok.ensures ∙ ap (λ u. setup_good base (setup_of u)) c.setup_at-setup.ensures

size_is : (c : After-setup_ok) → c.setup_at-setup.result.n ≡ (unpacked c.args.b.now).setup.n
size_is c = ap (λ (u : Setup). u.n) c.setup_at-setup.ensures

table-is-good : (k : After-table_good) → k.table_good.result ≡ table k.args.b.now
table-is-good k =
    k.table_good.ensures
    ∙ ap₂ (λ (u : Setup) t. good_records (fields_of u) u.n (table_of t) && ids_differ (table_of t)) k.setup_at-setup.ensures (table_is k.args.b.now k.requires.size)

-- ---- the needs

pub returns-then-not-setup_ok : goal.returns-then-not-setup_ok
returns-then-not-setup_ok c =
    let b = c.args.b.now in
    let bad = sym (setup-is (goal.at.returns-then-not-setup_ok c).After-setup_ok) ∙ c.if-not-setup_ok.true in
    sym (good_by (s b) (table-full b) false (table b) (current b) (counter b) (pointing_good (s b)) bad refl refl refl refl)

pub returns-then-not-table_good : goal.returns-then-not-table_good
returns-then-not-table_good c =
    let b = c.args.b.now in
    let p = goal.at.returns-then-not-table_good c in
    let good = sym (setup-is p.After-setup_ok) ∙ c.if-not-setup_ok.false in
    let bad = sym (table-is-good p.After-table_good) ∙ c.if-not-table_good.true in
    sym (good_by (s b) (table-full b) true false (current b) (counter b) (pointing_good (s b)) good bad refl refl refl)

pub returns-then-setup-wide : goal.returns-then-setup-wide
returns-then-setup-wide c =
    let b = c.args.b.now in
    let p = goal.at.returns-then-setup-wide c in
    let good = sym (setup-is p.After-setup_ok) ∙ c.if-not-setup_ok.false in
    let slots = sym (table-is-good p.After-table_good) ∙ c.if-not-table_good.false in
    let at = c.wide.ensures ∙ c.word_at.ensures in
    let past : current b ≡ false = le-ltb (s b).current.0 (s b).setup.n (omega (arith, c.if-setup-wide.true, size_is p.After-setup_ok, at)) in
    sym (good_by (s b) (table-full b) true true false (counter b) (pointing_good (s b)) good slots past refl refl)

pub returns-then-word_at-ge-COUNT : goal.returns-then-word_at-ge-COUNT
returns-then-word_at-ge-COUNT c =
    let b = c.args.b.now in
    let p = goal.at.returns-then-word_at-ge-COUNT c in
    let good = sym (setup-is p.After-setup_ok) ∙ c.if-not-setup_ok.false in
    let slots = sym (table-is-good p.After-table_good) ∙ c.if-not-table_good.false in
    let at = c.wide.ensures ∙ c.word_at.ensures in
    let inside : current b ≡ true = lt-ltb (s b).current.0 (s b).setup.n (omega (arith, c.if-setup-wide.false, size_is p.After-setup_ok, at)) in
    let much : counter b ≡ false = le-ltb (s b).counter id_count (omega (arith, c.if-word_at-ge-COUNT.true, c.word_at-2.ensures)) in
    sym (good_by (s b) (table-full b) true true true false (pointing_good (s b)) good slots inside much refl)

pub pointing_ok-requires : goal.pointing_ok-requires
pointing_ok-requires c =
    let b = c.args.b.now in
    let p = goal.at.pointing_ok-requires c in
    let u = (s b).setup in
    let good = sym (setup-is p.After-setup_ok) ∙ c.if-not-setup_ok.false in
    let slots = sym (table-is-good p.After-table_good) ∙ c.if-not-table_good.false in
    let rest = good-rest u (s b).table (table-full b) (and_left _ (ids_differ (table_of (s b).table)) slots) in
    (c.requires.size, subst (λ (x : Setup). Unused x.n (s b).table) (sym c.setup_at-setup.ensures) (record { few = (small u good).n; rest = rest }))

pub returns : goal.returns
returns c =
    let b = c.args.b.now in
    let p = goal.at.returns c in
    let good = sym (setup-is p.After-setup_ok) ∙ c.if-not-setup_ok.false in
    let slots = sym (table-is-good p.After-table_good) ∙ c.if-not-table_good.false in
    let at = c.wide.ensures ∙ c.word_at.ensures in
    let inside : current b ≡ true = lt-ltb (s b).current.0 (s b).setup.n (omega (arith, c.if-setup-wide.false, size_is p.After-setup_ok, at)) in
    let few : counter b ≡ true = lt-ltb (s b).counter id_count (omega (arith, c.if-word_at-ge-COUNT.false, c.word_at-2.ensures)) in
    let told = c.pointing_ok.ensures ∙ ap (λ (u : Setup). good_pointing (s b).pointer (panel_seen u) (table_of (s b).table) (pointing_of (s b).ranks (s b).told)) c.setup_at-setup.ensures in
    sym (good_by (s b) (table-full b) true true true true c.pointing_ok.result good slots inside few (sym told))
