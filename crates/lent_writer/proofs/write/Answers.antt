-- `lent_writer::write` answers as the call by value does, over bytes that are a state's. Assumes nothing.
use mathlib.Core.Path.{◌≡◌, sym, ◌∙◌}
use mathlib.Core.Bool.{true}
use Rattle.lent_writer.specs.Seen.{formed}
use Rattle.lent_writer.proofs.Forms.{form}
use Rattle.lent_writer.proofs.Told.{frame_refused}
use Rattle.lent_writer.proofs.write.Goals.{Else-not-formed}
use Rattle.lent_writer.proofs.write.Goals as goal

formed-at : (t : Else-not-formed) → formed t.args.state.now ≡ true
formed-at t = sym t.formed.ensures ∙ t.if-not-formed.false

pub returns-then-not-formed : goal.returns-then-not-formed
returns-then-not-formed c =
    let a = c.args in
    let e = sym c.formed.ensures ∙ c.if-not-formed.true in
    frame_refused a.state.now a.at a.buf.now a.frame.now e c.unsent.result c.unsent.new.answer c.unsent.ensures

pub in_place-requires : goal.in_place-requires
in_place-requires c =
    record { formed = formed-at (goal.at.in_place-requires c).Else-not-formed; size = (form c.args.state.now (formed-at (goal.at.in_place-requires c).Else-not-formed)).size }
