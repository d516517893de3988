-- `reader::state_ok`: whether a state is well formed, its setup first. Assumes nothing.
use mathlib.Core.Path.{sym, ◌∙◌}
use Rattle.model.specs.States.{reader_good}
use Rattle.panel.proofs.Setups.{small}
use Rattle.reader.proofs.state_ok.Goals as goal

pub returns-else-setup_ok : goal.returns-else-setup_ok
unfolding reader_good
returns-else-setup_ok c = rw (← c.setup_ok.ensures, c.if-setup_ok.false)

pub tables_ok-requires : goal.tables_ok-requires
tables_ok-requires c = (small c.args.s.setup (sym c.setup_ok.ensures ∙ c.if-setup_ok.true)).n

pub returns-then-setup_ok : goal.returns-then-setup_ok
unfolding reader_good
returns-then-setup_ok c = rw (← c.setup_ok.ensures, c.if-setup_ok.true) c.tables_ok.ensures
