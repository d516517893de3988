-- `lent_reader::state_ok`: whether the state that bytes hold is good, its setup first. Assumes nothing.
use mathlib.Core.Path.{◌≡◌, sym, ap, ◌∙◌}
use Rattle.model.specs.Panel.{base, setup_good}
use Rattle.model.specs.States.{good_reader}
use Rattle.panel.specs.Seen.{setup_of, panel_seen}
use Rattle.reader.specs.States.{seen}
use Rattle.lent_reader.specs.Layout.{unpacked}
use Rattle.lent_reader.proofs.Judged.{setup-bad, setup_fine}
use Rattle.lent_reader.proofs.state_ok.Goals.{After-setup_ok}
use Rattle.lent_reader.proofs.state_ok.Goals as goal

setup-is : (k : After-setup_ok) → k.setup_ok.result ≡ setup_good base (setup_of (unpacked k.args.b.now).setup)
setup-is k = k.setup_ok.ensures ∙ ap (λ u. setup_good base (setup_of u)) k.setup_at-setup.ensures

pub returns-then-setup_ok : goal.returns-then-setup_ok
returns-then-setup_ok c =
    let b = c.args.b.now in
    setup_fine b (sym (setup-is (goal.at.returns-then-setup_ok c).After-setup_ok) ∙ c.if-setup_ok.true) _
    (c.tables_ok.ensures ∙ ap (λ u. good_reader (panel_seen u) (seen (unpacked b)).reader) c.setup_at-setup.ensures)

pub returns-else-setup_ok : goal.returns-else-setup_ok
returns-else-setup_ok c =
    c.if-setup_ok.false ∙ setup-bad c.args.b.now (sym (setup-is (goal.at.returns-else-setup_ok c).After-setup_ok) ∙ c.if-setup_ok.false)
