-- `lent_writer::fresh` makes bytes a fresh state's, or leaves them. Assumes nothing.
use mathlib.Core.Path.{◌≡◌, sym, ap, subst, ◌∙◌}
use Prim.Native.Nat.{◌<◌, ◌^◌}
use lib.Dec.{eqb}
use Rattle.model.specs.Panel.{base, setup_good}
use Rattle.panel.specs.Seen.{setup_of}
use Rattle.lent_writer.specs.Seen.{setup_given}
use Rattle.lent_writer.proofs.Told.{fresh-held}
use Rattle.lent_writer.proofs.fresh.Goals as goal

pub put_state-requires : goal.put_state-requires
put_state-requires c =
    let u = c.setup_of-u.result in
    let h = subst (λ x. (x.state.setup.n < 2 ^ 32) × (x.state.current.0 < 2 ^ 32)) (sym c.fresh.ensures) (fresh-held u (eqb c.args.pointer 1) (sym c.setup_ok.ensures ∙ c.if-not-setup_ok.false)) in
    (c.if-state-ne-SIZE.false, h.0, h.1)
