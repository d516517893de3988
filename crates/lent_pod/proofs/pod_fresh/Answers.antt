-- `lent_pod::pod_fresh`: by the length, a refusal or the fresh state's bytes. Assumes nothing.
use mathlib.Core.Path.{◌∙◌, ap}
use lib.ListN.{length}
use borrow.Author.Tests.{eq-eqb, ne_eqb}
use Rattle.lent_pod.specs.Pods.{packed}
use Rattle.lent_pod.proofs.Steps.{fresh-refused, fresh-made}
use Rattle.lent_pod.proofs.pod_fresh.Goals as goal

pub returns-then-state-ne-POD : goal.returns-then-state-ne-POD
returns-then-state-ne-POD c =
    fresh-refused c.args.state.now c.number_of.result (ne_eqb (length c.args.state.now) 12 c.if-state-ne-POD.true) c.number_of.ensures

pub returns : goal.returns
returns c =
    fresh-made c.args.state.now c.pack.new.b c.number_of-2.result (eq-eqb (length c.args.state.now) 12 c.if-state-ne-POD.false)
    c.number_of-2.ensures
    (c.pack.ensures ∙ ap packed c.fresh.ensures)
