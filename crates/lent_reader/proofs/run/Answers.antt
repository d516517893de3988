-- `lent_reader::run`: bytes that are not formed, a state that is not good, records that are not whole, and the run. Assumes nothing.
use borrow.Author.Tests.{ne_eqb, eq-eqb}
use mathlib.Core.Path.{◌≡◌, sym, ◌∙◌}
use mathlib.Core.Bool.{true}
use Rattle.model.specs.Panel.{base}
use Rattle.model.specs.States.{reader_good}
use Rattle.reader.specs.States.{seen}
use Rattle.lent_reader.specs.Layout.{formed, unpacked}
use Rattle.lent_reader.proofs.InPlace.{run_unfit, run_unwhole, run_done}
use Rattle.lent_reader.proofs.run.Goals.{Else-not-formed, Else-not-state_ok}
use Rattle.lent_reader.proofs.run.Goals as goal

-- The bytes are formed.
whole : (f : Else-not-formed) → formed f.args.state.now ≡ true
whole f = sym f.formed.ensures ∙ f.if-not-formed.false

-- And the state that they hold is good.
good : (g : Else-not-state_ok) → reader_good base (seen (unpacked g.args.state.now)) ≡ true
good g = sym g.state_ok.ensures ∙ g.if-not-state_ok.false

pub returns-then-not-state_ok : goal.returns-then-not-state_ok
returns-then-not-state_ok c =
    let a = c.args in
    run_unfit a.state.now a.bytes.now (whole (goal.at.returns-then-not-state_ok c).Else-not-formed) (sym c.state_ok.ensures ∙ c.if-not-state_ok.true)

pub returns-then-bytes-ne0 : goal.returns-then-bytes-ne0
returns-then-bytes-ne0 c =
    let a = c.args in
    run_unwhole a.state.now a.bytes.now (whole (goal.at.returns-then-bytes-ne0 c).Else-not-formed) (good (goal.at.returns-then-bytes-ne0 c).Else-not-state_ok) (ne_eqb _ 0 c.if-bytes-ne0.true)

pub returns : goal.returns
returns c =
    let a = c.args in
    run_done a.state.now a.bytes.now (whole (goal.at.returns c).Else-not-formed) (good (goal.at.returns c).Else-not-state_ok) (eq-eqb _ 0 c.if-bytes-ne0.false) c.run_accepted-counts.result _ _ c.run_accepted-counts.ensures c.put_counts.ensures
