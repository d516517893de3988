-- `recorder::make_block` answers as the model's call does, refusal by refusal. Assumes nothing.
use mathlib.Core.Path.{sym, ap, ◌∙◌}
use Prim.Native.Nat.{◌%◌}
use lib.Dec.{leb}
use lib.ListN.{length}
use borrow.Author.Tests.{eq-eqb, ne_eqb, leb-true}
use Rattle.model.specs.Recorder.{full_run}
use Rattle.model.proofs.Bools.{and_right}
use Rattle.recorder.specs.declared.BlockMade.{BlockMade}
use Rattle.common.specs.declared.Verdict.TheVariants.{Accepted}
use Rattle.recorder.proofs.Outcome.{made_unnumbered, made_unsized, made_ragged, made}
use Rattle.recorder.proofs.make_block.Goals as goal

pub returns-then-not-between : goal.returns-then-not-between
returns-then-not-between c = c.not_made.ensures ∙ made_unnumbered c.args.number c.args.events.now (sym c.between.ensures ∙ c.if-not-between.true)

pub returns-then-not-between-2 : goal.returns-then-not-between-2
returns-then-not-between-2 c =
    c.not_made-then-not-between-2.ensures
    ∙ made_unsized c.args.number c.args.events.now (sym c.between.ensures ∙ c.if-not-between.false) (sym c.between-2.ensures ∙ c.if-not-between-2.true)

pub returns-then-events-ne0 : goal.returns-then-events-ne0
returns-then-events-ne0 c =
    let es = c.args.events.now in
    c.not_made-then-events-ne0.ensures
    ∙ made_ragged c.args.number es (sym c.between.ensures ∙ c.if-not-between.false) (sym c.between-2.ensures ∙ c.if-not-between-2.false)
    (ne_eqb (length es % 8) 0 c.if-events-ne0.true)

pub build-requires : goal.build-requires
build-requires c =
    let n = length c.args.events.now in
    leb-true n full_run (and_right (leb 1 n) _ (sym c.between-2.ensures ∙ c.if-not-between-2.false))

pub returns : goal.returns
returns c =
    let es = c.args.events.now in
    ap {B = BlockMade} (λ b. record { verdict = Accepted; block = b }) c.build.ensures
    ∙ made c.args.number es (sym c.between.ensures ∙ c.if-not-between.false) (sym c.between-2.ensures ∙ c.if-not-between-2.false)
    (eq-eqb (length es % 8) 0 c.if-events-ne0.false)
