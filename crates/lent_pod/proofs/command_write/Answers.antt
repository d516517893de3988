-- `lent_pod::command_write`: refusal by refusal, and then the library's answer. Assumes nothing.
use mathlib.Core.Path.{◌≡◌, sym, ap, ◌∙◌}
use mathlib.Core.Bool.{Bool}
use Rattle.model.specs.Pod.{well_formed}
use Rattle.pod.specs.declared.PodState.{PodState}
use Rattle.pod.specs.Seen.{seen as pod_seen}
use Rattle.lent_pod.specs.Orders.{named, command_in}
use Rattle.lent_pod.proofs.Forms.{formed-length}
use Rattle.lent_pod.proofs.Orders.{names, names_none, write_shapeless, write_unformed, write_unnamed, write_asked}
use Rattle.lent_pod.proofs.command_write.Goals as goal

-- The test is of the state that the bytes hold.
judged : (s t : PodState) {r b : Bool} → s ≡ t → r ≡ well_formed (pod_seen s) → r ≡ b → well_formed (pod_seen t) ≡ b
judged s t e w q = sym (w ∙ ap (λ x. well_formed (pod_seen x)) e) ∙ q

pub returns-then-not-formed : goal.returns-then-not-formed
returns-then-not-formed c =
    let a = c.args in
    write_shapeless a.state.now a.command.now a.at a.buf.now c.number_of.result (sym c.formed.ensures ∙ c.if-not-formed.true) c.number_of.ensures

pub unpacked-s-requires : goal.unpacked-s-requires
unpacked-s-requires c = formed-length c.args.state.now (sym c.formed.ensures ∙ c.if-not-formed.false)

pub returns-then-not-well_formed : goal.returns-then-not-well_formed
returns-then-not-well_formed c =
    let a = c.args in
    write_unformed a.state.now a.command.now a.at a.buf.now c.number_of-then-not-well_formed.result
    (sym c.formed.ensures ∙ c.if-not-formed.false)
    (judged _ _ c.unpacked-s.ensures c.well_formed-2.ensures c.if-not-well_formed.true)
    c.number_of-then-not-well_formed.ensures

pub write_packed-requires : goal.write_packed-requires
write_packed-requires c = formed-length c.args.state.now (sym c.formed.ensures ∙ c.if-not-formed.false)

pub returns-in-Command : goal.returns-in-Command
returns-in-Command c =
    let a = c.args in
    let n = names (named a.command.now) (command_in a.command.now) c.in-Command.c (sym c.in-Command.is ∙ c.what_of.ensures) in
    write_asked a.state.now a.command.now a.at a.buf.now c.write_packed.result
    (sym c.formed.ensures ∙ c.if-not-formed.false)
    (judged _ _ c.unpacked-s.ensures c.well_formed-2.ensures c.if-not-well_formed.false)
    c.unpacked-s.result
    c.in-Command.c
    c.write_packed.new.b
    c.write_packed.new.answer
    c.write_packed.new.buf
    n.0
    n.1
    c.unpacked-s.ensures
    c.write_packed.ensures

pub returns-in-Nothing : goal.returns-in-Nothing
returns-in-Nothing c =
    let a = c.args in
    write_unnamed a.state.now a.command.now a.at a.buf.now c.number_of-in-Nothing.result
    (sym c.formed.ensures ∙ c.if-not-formed.false)
    (judged _ _ c.unpacked-s.ensures c.well_formed-2.ensures c.if-not-well_formed.false)
    (names_none (named a.command.now) (command_in a.command.now) (sym c.in-Nothing.is ∙ c.what_of.ensures))
    c.number_of-in-Nothing.ensures
