-- `ReaderState::fresh`: a fresh reader, or refusal 1 with zeros. Assumes nothing.
use mathlib.Core.Path.{sym, ap, ◌∙◌}
use Rattle.model.specs.Panel.{crane}
use Rattle.model.proofs.Answers.{reader-not-made, reader-made}
use Rattle.crane_panel.specs.Seen.{setup_of}
use Rattle.crane_reader.specs.States.{given, fresh_from}
use Rattle.crane_reader.proofs.ReaderState.fresh.Goals as goal

pub returns-then-not-setup_ok : goal.returns-then-not-setup_ok
returns-then-not-setup_ok c =
    let a = c.args in
    let u = setup_of (given a.n a.x a.y a.pressure) in
    rw c.no_state.ensures (sym (ap fresh_from (reader-not-made crane u (sym c.setup_ok.ensures ∙ c.if-not-setup_ok.true))))

pub returns : goal.returns
returns c =
    let a = c.args in
    let u = setup_of (given a.n a.x a.y a.pressure) in
    rw c.unused_table-t.ensures (sym (ap fresh_from (reader-made crane u (sym c.setup_ok.ensures ∙ c.if-not-setup_ok.false))))
