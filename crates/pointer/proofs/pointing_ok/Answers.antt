-- `pointer::pointing_ok` tells whether ranks and told numbers are well formed, by the option. Assumes nothing.
use mathlib.Core.Path.{sym, ap, ◌∙◌}
use Rattle.model.specs.Pointing.{good_pointing}
use Rattle.panel.specs.Seen.{table_of, panel_seen}
use Rattle.pointer.specs.Seen.{pointing_of}
use Rattle.pointer.proofs.pointing_ok.Goals as goal

pub returns-then-on : goal.returns-then-on
returns-then-on c =
    let a = c.args in
    c.apt.ensures ∙ sym (ap (λ b. good_pointing b (panel_seen a.setup) (table_of a.t) (pointing_of a.ranks a.told)) c.if-on.true)

pub returns : goal.returns
returns c =
    let a = c.args in
    c.clear.ensures ∙ sym (ap (λ b. good_pointing b (panel_seen a.setup) (table_of a.t) (pointing_of a.ranks a.told)) c.if-on.false)
