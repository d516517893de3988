-- `lent_pod::pod_step`: by the form and the library's answer, a refusal or the next state's bytes. Assumes nothing.
use mathlib.Core.Path.{refl, sym, ◌∙◌, ap}
use borrow.Author.Tests.{eq-eqb, ne_eqb}
use Rattle.pod.specs.Seen.{step_answer}
use Rattle.lent_pod.proofs.Forms.{formed-length}
use Rattle.lent_pod.proofs.Steps.{step_shapeless, step-turned, step-taken, few-held}
use Rattle.lent_pod.proofs.pod_step.Goals as goal

pub returns-then-not-formed : goal.returns-then-not-formed
returns-then-not-formed c =
    step_shapeless c.args.state.now c.args.byte c.number_of.result _ (sym c.formed.ensures ∙ c.if-not-formed.true) c.number_of.ensures refl

pub unpacked-requires : goal.unpacked-requires
unpacked-requires c = formed-length c.args.state.now (sym c.formed.ensures ∙ c.if-not-formed.false)

pub pack-requires : goal.pack-requires
pack-requires c = (
  formed-length c.args.state.now (sym c.formed.ensures ∙ c.if-not-formed.false),
  few-held c.unpacked.result c.args.byte c.step-a.result c.step-a.ensures.answer (sym c.refusal_of-refusal.ensures ∙ c.if-refusal-eq0.true),
)

pub returns-then-refusal-eq0 : goal.returns-then-refusal-eq0
returns-then-refusal-eq0 c =
    let a = c.args in
    step-taken a.state.now a.byte c.refusal_of-refusal.result c.told_of.result c.step-a.result c.pack.new.b
    (sym c.formed.ensures ∙ c.if-not-formed.false)
    (c.step-a.ensures.answer ∙ ap (λ s. step_answer s a.byte) c.unpacked.ensures)
    c.refusal_of-refusal.ensures
    (eq-eqb c.refusal_of-refusal.result 0 c.if-refusal-eq0.true) c.told_of.ensures c.pack.ensures

pub returns-else-refusal-eq0 : goal.returns-else-refusal-eq0
returns-else-refusal-eq0 c =
    let a = c.args in
    step-turned a.state.now a.byte c.refusal_of-refusal.result c.told_of.result c.step-a.result
    (sym c.formed.ensures ∙ c.if-not-formed.false)
    (c.step-a.ensures.answer ∙ ap (λ s. step_answer s a.byte) c.unpacked.ensures)
    c.refusal_of-refusal.ensures
    (ne_eqb c.refusal_of-refusal.result 0 c.if-refusal-eq0.false) c.told_of.ensures
