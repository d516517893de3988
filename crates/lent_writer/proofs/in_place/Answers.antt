-- `lent_writer::in_place` refuses a state that is not well formed; the rest is `frame_in_place`'s. Assumes nothing.
use mathlib.Core.Path.{◌≡◌, refl, sym, ◌∙◌}
use mathlib.Core.Bool.{false}
use lib.ListN.{length}
use Rattle.model.specs.Panel.{base}
use Rattle.model.specs.Frame.{sized, values_good}
use Rattle.model.specs.Calls.{room_for}
use Rattle.model.specs.Pointing.{pointer_good, pointer_need}
use Rattle.panel.specs.Seen.{panel_seen}
use Rattle.writer.specs.Seen.{seen}
use Rattle.lent_writer.specs.Seen.{unpacked}
use Rattle.lent_writer.proofs.Outcomes.{refused_as}
use Rattle.lent_writer.proofs.in_place.Goals as goal

pub returns-then-not-judged : goal.returns-then-not-judged
returns-then-not-judged c =
    let a = c.args in
    let b = a.state.now in
    let s = unpacked b in
    let u = panel_seen s.setup in
    let f = a.frame.now in
    let bad : pointer_good base (seen s) ≡ false = sym c.judged.ensures ∙ c.if-not-judged.true in
    let room = room_for (pointer_need base (seen s) f) a.at (length a.buf.now) in
    refused_as b f a.at a.buf.now c.requires.formed false (sized u f) (values_good u f) room bad refl refl refl refl c.unsent.result c.unsent.new.answer c.unsent.ensures.0 c.unsent.ensures.1
