-- `WriterState::fresh` is a fresh writer, or zeros. Assumes nothing.
use mathlib.Core.Path.{◌≡◌, sym, ◌∙◌}
use mathlib.Core.Bool.{true, false}
use Rattle.model.specs.Panel.{base, setup_good}
use Rattle.model.specs.Pointing.{fresh_pointer_call}
use Rattle.panel.specs.Seen.{setup_of}
use Rattle.writer.proofs.WriterState.fresh.Goals as goal

pub returns-then-not-setup_ok : goal.returns-then-not-setup_ok
unfolding fresh_pointer_call
returns-then-not-setup_ok c =
    let s = c in
    let k = c in
    let e : setup_good base (setup_of s.args.setup) ≡ false = sym k.setup_ok.ensures ∙ c.if-not-setup_ok.true in
    rw (e, c.state_of.ensures, c.zero_table.ensures, k.untold-none.ensures)

pub returns : goal.returns
unfolding fresh_pointer_call
returns c =
    let s = c in
    let k = c in
    let e : setup_good base (setup_of s.args.setup) ≡ true = sym k.setup_ok.ensures ∙ c.if-not-setup_ok.false in
    rw (e, c.state_of-2.ensures, c.unused_table.ensures, k.untold-none.ensures)
